-- Behind `=` of each alias stands a name, and what a name means is a type without parts.
use Rattle.std.proofs.Common.{◌≡◌, ℕ, List, Option, Some, None, refl, sym, ap, subst}
use Rattle.std.specs.List.{AllByRecursion}
use Rattle.go_path_core.specs.text_core.declared.span.Span.{Span}
use Rattle.go_universe_core.specs.declared.Predeclared.{Predeclared as PredeclaredName}
use Rattle.go_universe_core.specs.declared.Predeclared.TheVariants as universe
use Rattle.go_universe_core.specs.Universe.{found}
use Rattle.go_tree_nodes.specs.declared.types.TypeName.{TypeName}
use Rattle.go_tree_nodes.specs.declared.types.TypeName.TheVariants as type_names
use Rattle.go_tree_nodes.specs.Rules.{IsAliasOfName, Wf_file}
use Rattle.go_tree_nodes.specs.Trees.{FileTree, TypeSpecTree, TypeTree, NamedType, Pointer, ParenType, Struct, Interface}
use Rattle.go_term_core.specs.decl_core.declared.keys.DeclKey.{DeclKey}
use Rattle.go_term_core.specs.decl_core.declared.keys.DeclRef.{DeclRef}
use Rattle.go_term_core.specs.decl_core.declared.places.DeclKind.{DeclKind}
use Rattle.go_term_core.specs.decl_core.declared.places.DeclKind.TheVariants as kinds
use Rattle.go_term_core.specs.decl_core.TopDecls.{top_decls}
use Rattle.go_term_core.specs.Terms.{Term, Defined}
use Rattle.go_names_core.specs.block_core.Bindings.{key_of}
use Rattle.go_names_core.specs.block_core.Blocks.{BlocksModel, file_binding}
use Rattle.go_names_core.specs.block_core.Tables.{in_block}
use Rattle.go_names_core.specs.block_core.declared.binding.Binding.{Binding}
use Rattle.go_names_core.specs.block_core.declared.binding.Target.{Target}
use Rattle.go_names_core.specs.block_core.declared.binding.Target.TheVariants as targets
use Rattle.go_body_core.specs.typexpr_core.WrittenWritten.{InFile, Meaning, term_of}
use Rattle.go_body_core.specs.typexpr_core.EntryEntries.{file_at, package_meanings}
use Rattle.go_body_core.specs.typexpr_core.EntryMarks.{alias_mark}
use Rattle.go_body_core.specs.typexpr_core.EntryMeanings.{Shown, declared_alone, file_meaning, named_meaning, outside_meaning, plain_meaning, qualified_meaning, shown_type, type_in_binding, type_in_target, type_of_key, type_of_kind, type_of_predeclared, type_of_target, type_of_universe}
use Rattle.go_body_core.specs.typexpr_core.EntryOutlines.{FileOutline, outline_of}
use Rattle.go_body_core.specs.typexpr_core.EntryAmong.{Among}
use Rattle.go_body_core.specs.typexpr_core.EntryBelonging.{Found}
use Rattle.go_body_core.specs.typexpr_core.EntryTargeting.{through_itself}
use Rattle.go_body_core.specs.typexpr_core.AliasesLaws.{IsNamed}
use Rattle.go_body_core.specs.typexpr_core.AliasesOutlining.{alias_found}
use Rattle.go_emit_core.specs.package_core.PrepareLaws.{AliasesAreNames}
use Rattle.go_emit_core.specs.package_core.PreparePackages.{PackageIn, outlines_in}
use Rattle.go_emit_core.specs.package_core.PrepareLists.{holds_at, mapped_at}
use Rattle.go_emit_core.specs.package_core.PrepareMade.{all_outlines}
use Rattle.go_workspace_laws.specs.circles.Laws.{AliasesStandForNames}
use Rattle.go_workspace_laws.proofs.CirclesGrammar.{trees_keep_rules}
use Rattle.go_workspace_laws.proofs.CirclesRuled.{file_ruled}

-- what names mean

kind_named : (k : DeclKey) (kind : DeclKind) → IsNamed (type_of_kind k kind)
kind_named k kinds.«Type» = tt
kind_named k _ = tt

key_named : (k : DeclKey) → IsNamed (type_of_key k)
key_named k = kind_named k k.decl.kind

predeclared_named : (path : List ℕ) (p : PredeclaredName) → IsNamed (type_of_predeclared path p)
predeclared_named path universe.Any = tt
predeclared_named path universe.Bool = tt
predeclared_named path universe.Error = tt
predeclared_named path universe.Int = tt
predeclared_named path universe.String = tt
predeclared_named path _ = tt

universe_named : (path : List ℕ) (o : Option PredeclaredName) → IsNamed (type_of_universe path o)
universe_named path None = tt
universe_named path (Some p) = predeclared_named path p

target_named : (t : Target) → IsNamed (type_of_target t)
target_named (targets.«Package» path) = tt
target_named (targets.Refused rule) = tt
target_named (targets.Exported k) = key_named k

outside_named : (path name : List ℕ) (o : Option Binding) → IsNamed (outside_meaning path name o)
outside_named path name None = universe_named path (found name)
outside_named path name (Some b) = target_named b.target

own_named : (path : List ℕ) (b : BlocksModel) (file : ℕ) (name : List ℕ) (o : Option DeclRef) → IsNamed (plain_meaning path b file name o)
own_named path b file name None = outside_named path name (file_binding b file name)
own_named path b file name (Some d) = key_named (key_of path d)

shown_named : (path : List ℕ) (o : Option DeclRef) → IsNamed (shown_type path o)
shown_named path None = tt
shown_named path (Some d) = key_named (key_of path d)

behind_named : (shown : Shown) (name : List ℕ) (t : Target) → IsNamed (type_in_target shown name t)
behind_named shown name (targets.«Package» path) = shown_named path (shown path name)
behind_named shown name (targets.Refused rule) = tt
behind_named shown name (targets.Exported k) = tt

binding_named : (shown : Shown) (name : List ℕ) (o : Option Binding) → IsNamed (type_in_binding shown name o)
binding_named shown name None = tt
binding_named shown name (Some b) = behind_named shown name b.target

qualified_named : (shown : Shown) (b : BlocksModel) (file : ℕ) (qualifier name : List ℕ) (o : Option DeclRef) → IsNamed (qualified_meaning shown b file qualifier name o)
qualified_named shown b file qualifier name None = binding_named shown name (file_binding b file qualifier)
qualified_named shown b file qualifier name (Some d) = tt

name_named : (shown : Shown) (path : List ℕ) (b : BlocksModel) (file : ℕ) (n : TypeName) → IsNamed (named_meaning shown path b file n)
name_named shown path b file (type_names.Plain x) = own_named path b file x.name (in_block b.names x.name)
name_named shown path b file (type_names.Qualified q dot x) = qualified_named shown b file q.name x.name (in_block b.names q.name)

names_are_named : (shown : Shown) (path : List ℕ) (b : BlocksModel) (file : ℕ) (n : TypeName) → IsNamed (file_meaning (declared_alone shown) path b file n)
names_are_named shown path b file n = subst IsNamed (through_itself (named_meaning shown path b file n)) (name_named shown path b file n)

-- aliases

marked_named : (mark : Option Span) (m : Span) (t : TypeTree) (mean : Meaning) (f : InFile) → mark ≡ Some m → IsAliasOfName mark t → ((n : TypeName) → IsNamed (mean n)) → IsNamed (term_of mean f t)
marked_named None m t mean f e h names = absurd (let no : None ≡ Some m = e in cc)
marked_named (Some s) m (NamedType n) mean f e h names = names n
marked_named (Some s) m (Pointer star t) mean f e h names = absurd h
marked_named (Some s) m (ParenType first t last) mean f e h names = absurd h
marked_named (Some s) m (Struct k first fs last) mean f e h names = absurd h
marked_named (Some s) m (Interface k first ms last) mean f e h names = absurd h

-- a declaration of a file of the package is one of its tree
found_ruled : (p : PackageIn) (d : Found (outlines_in p)) → AllByRecursion Wf_file p.trees → (t : FileTree) × Wf_file t × Among (top_decls t) d.decl
found_ruled p d wf =
    let at = mapped_at outline_of p.trees d.file d.outline d.there in
    (at.0, holds_at Wf_file p.trees d.file at.0 wf at.1, subst (λ (o : FileOutline). Among o.decls d.decl) (sym at.2) d.among)

pub aliases_are_names : (p : PackageIn) → AllByRecursion Wf_file p.trees → AliasesAreNames p
aliases_are_names p wf k w h =
    let a = alias_found p.shows (λ (k : DeclKey). Defined k) p.path p.blocks (outlines_in p) (all_outlines (outlines_in p) p.trees refl) k w h in
    let d : Found (outlines_in p) = a.1.0 in
    let t : TypeSpecTree = a.1.1 in
    let tree = found_ruled p d wf in
    let rule : IsAliasOfName (alias_mark t) t.type_expr = (file_ruled tree.0 d.decl t tree.1 tree.2 a.1.3).1 in
    let term : term_of (package_meanings (declared_alone p.shows) p.path p.blocks d.file) (file_at p.path d.file d.outline) t.type_expr ≡ w = ap (λ (x : DeclRef × Term). x.1) a.1.5 in
    subst IsNamed term
    (marked_named (alias_mark t) a.1.2 t.type_expr (package_meanings (declared_alone p.shows) p.path p.blocks d.file) (file_at p.path d.file d.outline) a.1.4 rule (names_are_named p.shows p.path p.blocks d.file))

pub aliases_stand_for_names : AliasesStandForNames
aliases_stand_for_names ps as_read n source at p is = aliases_are_names p (subst (AllByRecursion Wf_file) (sym is) (trees_keep_rules ps n source as_read.read at))
