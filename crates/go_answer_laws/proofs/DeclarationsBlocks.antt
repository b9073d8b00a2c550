-- What blocks bind to a name is there under this name.
use Rattle.std.proofs.Common.{◌≡◌, ◌⊎◌, ℕ, zero, suc, ◌+◌, Bool, true, false, List, [], ◌∷◌, ◌++◌, map, Option, Some, None, inl, inr, refl, sym, ap, subst, ◌∙◌, arith, cond, if◌then◌else◌}
use Rattle.std.specs.Prelude.{slice_get, slice_index_or, ⊤}
use Rattle.std.specs.Str.{bytes_eq, chars}
use Rattle.go_site_core.specs.text_core.Text.{exported, is_blank}
use Rattle.go_site_core.specs.text_core.declared.rule.Rule.{Rule}
use Rattle.go_tree_nodes.specs.declared.files.ImportName.{ImportName}
use Rattle.go_tree_nodes.specs.declared.files.ImportName.TheVariants as written
use Rattle.go_tree_nodes.specs.Terminals.{value_of}
use Rattle.go_tree_nodes.specs.Trees.{FileTree, ImportSpecTree}
use Rattle.go_term_core.specs.decl_core.declared.keys.DeclRef.{DeclRef}
use Rattle.go_term_core.specs.decl_core.declared.places.DeclKind.{DeclKind}
use Rattle.go_term_core.specs.decl_core.Laws.{NumbersArePlaces}
use Rattle.go_term_core.specs.decl_core.Outer.{Whole, outer, outer_names}
use Rattle.go_term_core.specs.decl_core.TopDecls.{TopDeclTree, kind_of_form, top_decls}
use Rattle.go_term_core.specs.decl_core.Numbers.{numbers_are_places}
use Rattle.go_graph_core.specs.Packages.{Trees, tree_shown, trees_of}
use Rattle.go_graph_core.specs.Sources.{SourceModel}
use Rattle.go_graph_core.specs.Workspaces.{PackageModel}
use Rattle.go_names_core.specs.block_core.declared.binding.Binding.{Binding}
use Rattle.go_names_core.specs.block_core.declared.binding.Target.{Target}
use Rattle.go_names_core.specs.block_core.declared.binding.Target.TheVariants as targets
use Rattle.go_names_core.specs.block_core.declared.imports.Imported.{Imported}
use Rattle.go_names_core.specs.block_core.declared.imports.Imported.TheVariants as given
use Rattle.go_names_core.specs.block_core.declared.imports.ImportForm.{ImportForm}
use Rattle.go_names_core.specs.block_core.declared.imports.ImportForm.TheVariants as forms
use Rattle.go_names_core.specs.block_core.declared.imports.NamedImport.{NamedImport}
use Rattle.go_names_core.specs.block_core.Bindings.{Bound, bound_as, bound_if, dot_bound, exported_bound, file_bound, form_bound, import_bound, import_target}
use Rattle.go_names_core.specs.block_core.Blocks.{BlocksModel, AreBlocks, file_binding}
use Rattle.go_names_core.specs.block_core.Declarations.{PackageDeclaration, declaration, is_bindable, decl_ref, file_declared, files_declared, is_method_form, package_declared, top_declared, unless_method}
use Rattle.go_names_core.specs.block_core.Exports.{ExportsModel, clause_name}
use Rattle.go_names_core.specs.block_core.Holding.{declared_block, file_block, package_block, with_declared}
use Rattle.go_names_core.specs.block_core.Laws.{HasBinding}
use Rattle.go_names_core.specs.block_core.Naming.{file_named, file_specs, form_named, named_import, own_name, package_named, specs_named}
use Rattle.go_names_core.specs.block_core.Tables.{has, in_block, with_first}
use Rattle.go_names_core.specs.block_core.BindingLemmas.{imports_list}
use Rattle.go_names_core.specs.block_core.HoldingLaws.{file_answers, file_holds}
use Rattle.go_term_core.specs.declared.term.MemberPlace.TheVariants as places
use Rattle.go_typexpr_core.proofs.EntryAmong.{Among, among_cases, among_flat, among_map, among_right}
use Rattle.go_query_core.specs.package_core.PrepareLists.{mapped_at}
use Rattle.go_answer_laws.specs.declarations.Found.{FilePlace, IsFileThere, IsImportThere, IsNameOfImport, IsPackageNamed, IsPackageThere, file_place}
use Rattle.go_query_core.specs.declared_core.Packages.{as_seen, names_seen, seen_after}
use Rattle.go_answer_laws.proofs.DeclarationsLists.{same_bytes}
use Rattle.go_answer_laws.proofs.DeclarationsPlacing.{IsGlobal, among_at}

-- names of the package block

abbrev IsFrom : ℕ → Trees → PackageDeclaration → Type 0
IsFrom n ts x = (k : ℕ) × (t : List ℕ × FileTree) × (slice_get ts k ≡ Some t) × (d : TopDeclTree) × Among (top_decls t.1) d × (x ≡ declaration (n + k) d)

top_from : (n : ℕ) (d : TopDeclTree) (x : PackageDeclaration) → Among (top_declared n d) x → x ≡ declaration n d
top_from n d x h = by (is_method_form d.form) h
  where
    by : (b : Bool) → Among (unless_method b (declaration n d)) x → x ≡ declaration n d
    by true h = absurd h
    by false (inl is) = sym is
    by false (inr none) = absurd none

files_from : (n : ℕ) (ts : Trees) (x : PackageDeclaration) → Among (files_declared n ts) x → IsFrom n ts x
files_from n [] x h = absurd h
files_from n (t ∷ ts) x h = elim (among_cases (file_declared n t.1) (files_declared (n + 1) ts) x h) [
  | inl a ↦
      let d = among_flat (top_declared n) (top_decls t.1) x a in
      let e : n ≡ n + 0 = omega arith in
      (0, t, refl, d.0, d.1, top_from n d.0 x d.2 ∙ ap (λ m. declaration m d.0) e)
  | inr b ↦
      let r = files_from (n + 1) ts x b in
      let e : n + 1 + r.0 ≡ n + suc r.0 = omega arith in
      (suc r.0, r.1, r.2, r.3, r.4, r.5 ∙ ap (λ m. declaration m r.3) e)
]

-- the files of a package have these trees
abbrev pub AreFilesThere : List PackageModel → List ℕ → List FileTree → Type 0
AreFilesThere ps path ts = (n : ℕ) (t : FileTree) → slice_get ts n ≡ Some t → IsFileThere ps path n t

shown_at : (ts : Trees) (k : ℕ) (t : List ℕ × FileTree) → slice_get ts k ≡ Some t → slice_get (map tree_shown ts) k ≡ Some t.1
shown_at [] k t h = absurd (let no : None ≡ Some t = h in cc)
shown_at (x ∷ ts) zero t h = ap (λ (y : List ℕ × FileTree). Some y.1) (let s : Some x ≡ Some t = h in let e : x ≡ t = cc in e)
shown_at (x ∷ ts) (suc k) t h = shown_at ts k t h

-- a declaration of a file, outside functions, has its number there
pub decl_global : (ps : List PackageModel) (path : List ℕ) (n : ℕ) (t : FileTree) (d : TopDeclTree) (k : DeclKind) → IsFileThere ps path n t → Among (top_decls t) d → IsGlobal ps path d.ident.name (places.Declared (decl_ref n d.number k))
decl_global ps path n t d k there a =
    let i = among_at (top_decls t) d a in
    record { tree = t; file = there; named = record { outer = outer (kind_of_form d.form) Whole d.ident; there = numbers_are_places.stands t i.0 d i.1; spelled = refl } }

-- what a block has is one of its declarations, under its name

abbrev NamedDecl : Type 0
NamedDecl = List ℕ × DeclRef

abbrev IsOneOf : List PackageDeclaration → NamedDecl → Type 0
IsOneOf ds e = (x : PackageDeclaration) × Among ds x × (e ≡ (x.name, x.decl))

first_from : {X : Type 0} (ns : List (List ℕ × X)) (name : List ℕ) (d : X) (e : List ℕ × X) → Among (with_first ns name d) e → Among ns e ⊎ (e ≡ (name, d))
first_from ns name d e h = by (has ns name) h
  where
    last : Among ((name, d) ∷ []) e → e ≡ (name, d)
    last (inl is) = sym is
    last (inr none) = absurd none

    by : (b : Bool) → Among (if b then ns else ns ++ (name, d) ∷ []) e → Among ns e ⊎ (e ≡ (name, d))
    by true h = inl h
    by false h = elim (among_cases ns ((name, d) ∷ []) e h) [ inl a ↦ inl a | inr a ↦ inr (last a) ]

with_from : (ns : List NamedDecl) (d : PackageDeclaration) (e : NamedDecl) → Among (with_declared ns d) e → Among ns e ⊎ (e ≡ (d.name, d.decl))
with_from ns d e h = by (is_bindable d.name) h
  where
    by : (b : Bool) → Among (if b then with_first ns d.name d.decl else ns) e → Among ns e ⊎ (e ≡ (d.name, d.decl))
    by true h = first_from ns d.name d.decl e h
    by false h = inl h

declared_from : (ns : List NamedDecl) (ds : List PackageDeclaration) (e : NamedDecl) → Among (declared_block ns ds) e → Among ns e ⊎ IsOneOf ds e
declared_from ns [] e h = inl h
declared_from ns (d ∷ ds) e h = elim (declared_from (with_declared ns d) ds e h) [
  | inl a ↦ elim (with_from ns d e a) [ inl b ↦ inl b | inr is ↦ inr (d, inl refl, is) ]
  | inr x ↦ inr (x.0, inr x.1, x.2)
]

pub block_from : {X : Type 0} (ns : List (List ℕ × X)) (name : List ℕ) (d : X) → in_block ns name ≡ Some d → Among ns (name, d)
block_from [] name d h = absurd (let none : None ≡ Some d = h in cc)
block_from (e ∷ es) name d h = by (bytes_eq name e.0) refl h (λ k. block_from es name d k)
  where
    by : (b : Bool) → bytes_eq name e.0 ≡ b → cond b (Some e.1) (in_block es name) ≡ Some d → (in_block es name ≡ Some d → Among es (name, d)) → Among (e ∷ es) (name, d)
    by true k h rest = inl (let is : Some e.1 ≡ Some d = h in let same : e.1 ≡ d = cc in let named : name ≡ e.0 = same_bytes name e.0 k in λ i. (sym named i, same i))
    by false k h rest = inr (rest h)

-- what the package block has under a name is there under it
pub block_global : (ps : List PackageModel) (path : List ℕ) (ts : Trees) → AreFilesThere ps path (map tree_shown ts) → (e : List ℕ × DeclRef) → Among (package_block ts) e → IsGlobal ps path e.0 (places.Declared e.1)
block_global ps path ts there e h = by (declared_from [] (package_declared ts) e h)
  where
    by : ⊥ ⊎ IsOneOf (package_declared ts) e → IsGlobal ps path e.0 (places.Declared e.1)
    by (inl none) = absurd none
    by (inr x) =
        let f = files_from 0 ts x.0 x.1 in
        let zero : 0 + f.0 ≡ f.0 = omega arith in
        let is : x.0 ≡ declaration f.0 f.3 = f.5 ∙ ap (λ m. declaration m f.3) zero in
        let same : (f.3.ident.name, decl_ref f.0 f.3.number (kind_of_form f.3.form)) ≡ e = sym (x.2 ∙ ap (λ (y : PackageDeclaration). (y.name, y.decl)) is) in
        subst (λ (y : List ℕ × DeclRef). IsGlobal ps path y.0 (places.Declared y.1)) same (decl_global ps path f.0 f.1.1 f.3 (kind_of_form f.3.form) (there f.0 f.1.1 (shown_at ts f.0 f.1 f.2)) f.4)

-- what others see of a block

seen_from : (seen : List (List ℕ × Option DeclRef)) (es : List NamedDecl) (y : List ℕ × Option DeclRef) → Among (seen_after seen es) y → Among seen y ⊎ ((e : NamedDecl) × Among es e × (y ≡ (e.0, as_seen e.0 e.1)))
seen_from seen [] y h = inl h
seen_from seen (e ∷ es) y h = elim (seen_from (with_first seen e.0 (as_seen e.0 e.1)) es y h) [
  | inl a ↦ elim (first_from seen e.0 (as_seen e.0 e.1) y a) [ inl b ↦ inl b | inr is ↦ inr (e, inl refl, is) ]
  | inr x ↦ inr (x.0, inr x.1, x.2)
]

seen_same : (name : List ℕ) (d e : DeclRef) → as_seen name d ≡ Some e → d ≡ e
seen_same name d e h = by (exported (chars name)) h
  where
    by : (b : Bool) → (if b then Some d else None) ≡ Some e → d ≡ e
    by true k = (let s : Some d ≡ Some e = k in cc)
    by false k = absurd (let no : None ≡ Some e = k in cc)

-- a name that others see with a declaration is one of the block

seen_by : (block : List NamedDecl) (y : List ℕ × Option DeclRef) (d : DeclRef) → y.1 ≡ Some d → ⊥ ⊎ ((e : NamedDecl) × Among block e × (y ≡ (e.0, as_seen e.0 e.1))) → Among block (y.0, d)
seen_by block y d is (inl none) = absurd none
seen_by block y d is (inr x) =
    let named : y.0 ≡ x.0.0 = ap (λ (z : List ℕ × Option DeclRef). z.0) x.2 in
    let same : x.0.1 ≡ d = seen_same x.0.0 x.0.1 d (sym (ap (λ (z : List ℕ × Option DeclRef). z.1) x.2) ∙ is) in
    subst (Among block) (λ i. (sym named i, same i)) x.1

pub seen_among : (block : List NamedDecl) (name : List ℕ) (d : DeclRef) → in_block (names_seen block) name ≡ Some (Some d) → Among block (name, d)
seen_among block name d h = seen_by block (name, Some d) d refl (seen_from [] block (name, Some d) (block_from (names_seen block) name (Some d) h))

-- names that imports bind

-- what an import comes to: a package of the workspace with this name in its clauses, which shows what is there
pub record IsShownThere (ps : List PackageModel) (e : ExportsModel) : Type 0 where
  pub files : List SourceModel
  pub there : IsPackageThere ps e.path files
  pub clauses : e.name ≡ clause_name (trees_of files)
  pub names : (x : List ℕ × DeclRef) → Among e.names x → IsGlobal ps e.path x.0 (places.Declared x.1)

abbrev pub IsTargetThere : List PackageModel → FilePlace → List ℕ → Target → Type 0
IsTargetThere ps at name (targets.«Package» path) = IsPackageNamed ps at name path
IsTargetThere ps at name (targets.Refused rule) = ⊤
IsTargetThere ps at name (targets.Exported k) = IsGlobal ps k.path name (places.Declared k.decl)

-- the number of an import of a file
record IsImportOf (at : FilePlace) (i : NamedImport) : Type 0 where
  number : ℕ
  spec : ImportSpecTree
  imported : Imported
  is_written : slice_get at.specs number ≡ Some spec
  comes : slice_get at.imports number ≡ Some imported
  is : i ≡ named_import spec imported

import_of : (path : List ℕ) (file : ℕ) (ss : List ImportSpecTree) (is : List Imported) (i : NamedImport) → Among (specs_named ss is) i → IsImportOf (file_place path file ss is) i
import_of path file [] is i h = absurd h
import_of path file (s ∷ ss) [] i h = absurd h
import_of path file (s ∷ ss) (x ∷ is) i (inl e) = record { number = 0; spec = s; imported = x; is_written = refl; comes = refl; is = sym e }
import_of path file (s ∷ ss) (x ∷ is) i (inr r) =
    let k = import_of path file ss is i r in
    record { number = suc k.number; spec = k.spec; imported = k.imported; is_written = k.is_written; comes = k.comes; is = k.is }

module _ (ps : List PackageModel) (at : FilePlace) (shown : (e : ExportsModel) → Among at.imports (given.«Package» e) → IsShownThere ps e) where
  pub import_there : (n : ℕ) (s : ImportSpecTree) (e : ExportsModel) → slice_get at.specs n ≡ Some s → slice_get at.imports n ≡ Some (given.«Package» e) → IsImportThere ps at.specs at.imports e.path s e.name
  import_there n s e is_written comes =
      let k = shown e (at_in at.imports n (given.«Package» e) comes) in
      record { number = n; is_written = is_written; shown = e; comes = comes; of_path = refl; files = k.files; there = k.there; clauses = k.clauses }
    where
      at_in : (xs : List Imported) (n : ℕ) (x : Imported) → slice_get xs n ≡ Some x → Among xs x
      at_in [] n x h = absurd (let no : None ≡ Some x = h in cc)
      at_in (y ∷ xs) zero x h = inl (let s : Some y ≡ Some x = h in cc)
      at_in (y ∷ xs) (suc n) x h = inr (at_in xs n x h)

  abbrev IsBoundThere : Bound → Type 0
  IsBoundThere b = IsTargetThere ps at b.name b.binding.target

  lone : (offset : ℕ) (name : List ℕ) (target : Target) (b : Bound) → IsTargetThere ps at name target → Among (bound_as offset name target ∷ []) b → IsBoundThere b
  lone offset name target b is (inl e) = subst IsBoundThere e is
  lone offset name target b is (inr none) = absurd none

  other_bound : (blank : Bool) (offset : ℕ) (name : List ℕ) (target : Target) (b : Bound) → IsTargetThere ps at name target → Among (if blank then [] else bound_as offset name target ∷ []) b → IsBoundThere b
  other_bound true offset name target b is h = absurd h
  other_bound false offset name target b is h = lone offset name target b is h

  module _ (n : ℕ) (s : ImportSpecTree) (is_written : slice_get at.specs n ≡ Some s) (offset : ℕ) (b : Bound) where
    package_bound : (e : ExportsModel) (w : ImportName) → s.name ≡ w → slice_get at.imports n ≡ Some (given.«Package» e) → Among (form_bound offset (given.«Package» e) (form_named (value_of s.path) w (given.«Package» e))) b → IsBoundThere b
    package_bound e written.Own is comes h =
        lone offset e.name (targets.«Package» e.path) b (record { spec = s; clause = e.name; import_there = import_there n s e is_written comes; named = subst (λ (v : ImportName). IsNameOfImport v e.name e.name) (sym is) refl }) h
    package_bound e (written.Named x) is comes h =
        other_bound (is_blank x.name) offset x.name (targets.«Package» e.path) b (record { spec = s; clause = e.name; import_there = import_there n s e is_written comes; named = subst (λ (v : ImportName). IsNameOfImport v e.name x.name) (sym is) refl }) h
    package_bound e (written.Dot dot) is comes h =
        let x = among_map (exported_bound offset e.path) e.names b h in
        subst IsBoundThere x.2 ((shown e (in_list at.imports n (given.«Package» e) comes)).names x.0 x.1)
      where
        in_list : (xs : List Imported) (n : ℕ) (x : Imported) → slice_get xs n ≡ Some x → Among xs x
        in_list [] n x h = absurd (let no : None ≡ Some x = h in cc)
        in_list (y ∷ xs) zero x h = inl (let s : Some y ≡ Some x = h in cc)
        in_list (y ∷ xs) (suc n) x h = inr (in_list xs n x h)

    refused_if : (rule : Rule) (o : Option (List ℕ)) → Among (bound_if offset o (targets.Refused rule)) b → IsBoundThere b
    refused_if rule None h = absurd h
    refused_if rule (Some name) h = lone offset name (targets.Refused rule) b tt h

    refused_bound : (rule : Rule) (w : ImportName) → Among (form_bound offset (given.Refused rule) (form_named (value_of s.path) w (given.Refused rule))) b → IsBoundThere b
    refused_bound rule written.Own h = refused_if rule (own_name (value_of s.path) (given.Refused rule)) h
    refused_bound rule (written.Named x) h = other_bound (is_blank x.name) offset x.name (targets.Refused rule) b tt h
    refused_bound rule (written.Dot dot) h = absurd h

    one_bound : (x : Imported) → slice_get at.imports n ≡ Some x → Among (form_bound offset x (form_named (value_of s.path) s.name x)) b → IsBoundThere b
    one_bound (given.«Package» e) comes h = package_bound e s.name refl comes h
    one_bound (given.Refused rule) comes h = refused_bound rule s.name h

  pub bound_there : (b : Bound) → Among (file_bound (specs_named at.specs at.imports)) b → IsBoundThere b
  bound_there b a =
      let x = among_flat import_bound (specs_named at.specs at.imports) b (subst (λ (l : List Bound). Among l b) (imports_list (specs_named at.specs at.imports)) a) in
      let i = import_of at.path at.file at.specs at.imports x.0 x.1 in
      one_bound i.number i.spec i.is_written i.spec.path.span.start b i.imported i.comes (subst (λ (y : NamedImport). Among (import_bound y) b) i.is x.2)

-- the imports of the file of a number
of_number : (trees : Trees) (files : List (List Imported)) (n : ℕ) (is : List NamedImport) (t : FileTree) → slice_get (map tree_shown trees) n ≡ Some t → slice_get (package_named trees files) n ≡ Some is
    → is ≡ specs_named (file_specs t) (slice_index_or files n [])
of_number [] files n is t tree h = absurd (let no : None ≡ Some is = h in cc)
of_number (x ∷ ts) [] n is t tree h = absurd (let no : None ≡ Some is = h in cc)
of_number (x ∷ ts) (f ∷ files) zero is t tree h =
    let same : x.1 ≡ t = (let s : Some x.1 ≡ Some t = tree in cc) in
    sym (let s : Some (file_named x.1 f) ≡ Some is = h in let e : file_named x.1 f ≡ is = cc in e) ∙ ap (λ u. file_named u f) same
of_number (x ∷ ts) (f ∷ files) (suc n) is t tree h = of_number ts files n is t tree h

-- what holds in the block of a file
pub binds_there : (ps : List PackageModel) (path : List ℕ) (trees : Trees) (imports : List (List Imported)) (b : BlocksModel) → AreBlocks trees (package_named trees imports) b → (file : ℕ) (t : FileTree) → slice_get (map tree_shown trees) file ≡ Some t
    → ((e : ExportsModel) → Among (slice_index_or imports file []) (given.«Package» e) → IsShownThere ps e)
    → (name : List ℕ) (x : Binding) → file_binding b file name ≡ Some x → IsTargetThere ps (file_place path file (file_specs t) (slice_index_or imports file [])) name x.target
binds_there ps path trees imports b blocks file t tree shown name x is =
    let at : FilePlace = file_place path file (file_specs t) (slice_index_or imports file []) in
    let has : HasBinding b.files file name x = ((file_answers b file name x).0 is).1 in
    let found = mapped_at file_block (package_named trees imports) file has.block (ap (λ (fs : List (List (List ℕ × Binding))). slice_get fs file) (sym blocks.file_names) ∙ has.of_file) in
    let first = (file_holds found.0 name x).0 (ap (λ (l : List (List ℕ × Binding)). in_block l name) found.2 ∙ has.holds) in
    let of_file = of_number trees imports file found.0 t tree found.1 in
    let among : Among (file_bound found.0) first.first = subst (λ (l : List Bound). Among l first.first) (sym first.split) (among_right first.before (first.first ∷ first.after) first.first (inl refl)) in
    let bound = bound_there ps at shown first.first (subst (λ (l : List NamedImport). Among (file_bound l) first.first) of_file among) in
    subst (λ (y : Binding). IsTargetThere ps at name y.target) first.is (subst (λ (n : List ℕ). IsTargetThere ps at n first.first.binding.target) (sym first.holds) bound)
