-- What documentation tells of a type of another package is what a variable of it has that an added file declares.
use Rattle.std.proofs.Common.{◌≡◌, ◌↔◌, ℕ, zero, suc, Bool, true, false, inl, inr, List, [], ◌∷◌, ◌++◌, length, Option, Some, None, slice_get, refl, sym, ap, ◌∙◌, subst, if◌then◌else◌}
use Rattle.std.specs.Prelude.{option_map}
use Rattle.std.proofs.lemmas.Option.{same_Some, slice_get-map}
use Rattle.go_path_core.specs.text_core.Text.{is_blank}
use Rattle.go_path_core.specs.text_core.declared.rule.Rule.TheVariants.{S4, S8}
use Rattle.go_tree_nodes.specs.declared.types.TypeName.TheVariants as type_names
use Rattle.go_tree_nodes.specs.Trees.{FileTree, NamedType}
use Rattle.go_graph_core.specs.declared.imports.ImportOutcome.TheVariants as come
use Rattle.go_graph_core.specs.Packages.{tree_shown, trees_of}
use Rattle.go_graph_core.specs.Sources.{SourceModel}
use Rattle.go_graph_core.specs.Workspaces.{IsReadWorkspace, IsWorkspace, PackageModel}
use Rattle.go_graph_core.proofs.Assemblies.{tree_at}
use Rattle.go_graph_core.proofs.OutcomeLaws.{has_one_outcome}
use Rattle.go_import_core.specs.list.Added.{AddedImportsAreJudged}
use Rattle.go_import_core.specs.list.Importing.{IsJudgedAt}
use Rattle.go_block_core.specs.declared.binding.Binding.{Binding}
use Rattle.go_block_core.specs.declared.binding.Target.TheVariants as targets
use Rattle.go_block_core.specs.declared.imports.Imported.{Imported}
use Rattle.go_block_core.specs.declared.imports.Imported.TheVariants as given
use Rattle.go_block_core.specs.Bindings.{import_target}
use Rattle.go_block_core.specs.Blocks.{file_binding}
use Rattle.go_block_core.specs.Declarations.{decl_ref}
use Rattle.go_block_core.specs.Exports.{ExportsModel}
use Rattle.go_block_core.specs.Holding.{package_block}
use Rattle.go_block_core.specs.Naming.{IsGiven, import_at}
use Rattle.go_block_core.specs.Tables.{in_block}
use Rattle.go_term_core.specs.decl_core.declared.keys.DeclRef.{DeclRef}
use Rattle.go_term_core.specs.decl_core.declared.places.DeclKind.TheVariants as kinds
use Rattle.go_term_core.specs.declared.term.MemberPlace.TheVariants as places
use Rattle.go_term_core.specs.Terms.{Term}
use Rattle.go_typexpr_core.proofs.EntryAmong.{Among, among_to, flat_among}
use Rattle.go_typexpr_core.specs.entry.Meanings.{named_meaning, qualified_meaning, shown_type, through, type_in_binding, type_in_target}
use Rattle.go_typexpr_core.specs.entry.Showing.{shown_in}
use Rattle.go_expr_core.specs.denote_core.declared.things.Outcome.{Outcome}
use Rattle.go_expr_core.specs.denote_core.declared.things.Outcome.TheVariants as outcomes
use Rattle.go_expr_core.specs.denote_core.declared.things.Stand.TheVariants as stands_as
use Rattle.go_expr_core.specs.denote_core.Answers.{found_answer, refused}
use Rattle.go_expr_core.specs.denote_core.Selectors.{dot_of, selector_answer}
use Rattle.go_summary_core.specs.declared_core.declared.face.Face.TheVariants as faces
use Rattle.go_summary_core.specs.declared_core.declared.shown.ShownFace.TheVariants as shown_faces
use Rattle.go_summary_core.specs.declared_core.Faces.{variable_face}
use Rattle.go_summary_core.specs.declared_core.Packages.{exported_in}
use Rattle.go_summary_core.specs.handle_core.Declarations.{Declaration, InFile}
use Rattle.go_summary_core.specs.Views.{exports_told, faces_told}
use Rattle.go_summary_core.specs.table_core.Entries.{Entry}
use Rattle.go_package_core.specs.env_core.Found.{found_face}
use Rattle.go_package_core.specs.package_part.Inputs.{path_in}
use Rattle.go_package_core.specs.package_part.Laws.{OnePart}
use Rattle.go_package_core.specs.package_part.Parts.{IsPart, PartModel, package_seen, seen_by}
use Rattle.go_package_core.specs.package_part.Slots.{if_there, somes}
use Rattle.go_package_core.specs.prepare.Packages.{PackageIn, shows_in, trees_in}
use Rattle.go_snap_core.specs.Snapshots.{SnapshotModel}
use Rattle.go_snap_core.specs.whole_workspace.Inputs.{AreParts, ComesTo, Shown}
use Rattle.go_snap_core.specs.whole_workspace.LocalLaws.{CheckIsLocal, ImportsBindTheirs}
use Rattle.go_snap_core.specs.whole_workspace.mirrors.Steps.{AreRight}
use Rattle.go_snap_core.proofs.WholeWorkspaceLists.{none_is_some, one_at}
use Rattle.go_snap_core.proofs.WholeWorkspaceParts.{path_told}
use Rattle.go_snap_core.proofs.WholeWorkspacePartsWhole.{all_right}
use Rattle.go_submit_core.specs.Published.{IsOneWorker}
use Rattle.go_type_doc_core.specs.declared.members.listing.MemberKind.{MemberKind}
use Rattle.go_type_doc_core.specs.members.Members.{TheLook, usage_of}
use Rattle.go_type_doc_core.specs.Laws.{MembersAreLocal}
use Rattle.go_type_doc_core.specs.Names.{NamesType, TheAnswer}
use Rattle.go_type_doc_core.specs.Naming.{types_seen}
use Rattle.go_type_doc_core.specs.TypeDocs.{IsOtherTypeDoc, TypeDocOf}
use Rattle.go_workspace_laws.specs.existence.Laws.{WorkspacesHaveSnapshots}
use Rattle.go_program_laws.specs.faultless.Parts.{PartsShowTheirTypes}
use Rattle.go_program_laws.specs.types.Written.{ShowTheirTypes, typed_in}
use Rattle.go_documentation_laws.specs.Types.{AddsFile, SelectsBehind, TellsMember, look_in_file, type_behind}
use Rattle.go_documentation_laws.specs.Variables.{DeclaresVariable, SelectsBehindName, VariablesAreExact, behind_name}
use Rattle.go_documentation_laws.proofs.Outcomes.{assembled_more, below_apart, last_at}
use Rattle.go_documentation_laws.proofs.Tables.{types_are}
use Rattle.go_documentation_laws.proofs.Named.{one_type, type_shown}
use Rattle.go_documentation_laws.proofs.Exact.{judged, same, types, whole}
use Rattle.go_documentation_laws.proofs.Written.{name_is, type_there}
use Rattle.go_documentation_laws.proofs.Binding.{Binds, binds}

among_at : {A : Type 0} (xs : List A) (n : ℕ) (x : A) → slice_get xs n ≡ Some x → Among xs x
among_at [] n x at = absurd (none_is_some at)
among_at (y ∷ xs) zero x at = inl (same_Some y x at)
among_at (y ∷ xs) (suc n) x at = inr (among_at xs n x at)

-- behind the name of a variable, by what the name has

abbrev behind : TheLook → MemberKind → List ℕ → TheAnswer → Outcome Declaration (List ℕ)
behind look kind name a = (selector_answer look (usage_of kind) (dot_of true a.denoted) name).outcome

abbrev on_type : Declaration → Option Term → TheAnswer
on_type place t = found_answer stands_as.BeforeDot (found_face place (Some (variable_face t)))

-- what has no type has no selectors

abbrev ruled : Bool → TheAnswer
ruled blank = if blank then refused S8 else refused S4

not_selected : (blank : Bool) (d : Declaration) (through : List ℕ) → (ruled blank).outcome ≡ outcomes.Selected d through → ⊥
not_selected true d through h = (let no : ◌≡◌ {A = Outcome Declaration (List ℕ)} (outcomes.Refused S8) (outcomes.Selected d through) = h in cc)
not_selected false d through h = (let no : ◌≡◌ {A = Outcome Declaration (List ℕ)} (outcomes.Refused S4) (outcomes.Selected d through) = h in cc)

untyped : (look : TheLook) (kind : MemberKind) (name : List ℕ) (place d : Declaration) (through : List ℕ) → behind look kind name (on_type place None) ≡ outcomes.Selected d through → ⊥
untyped look kind name place d through h = not_selected (is_blank name) d through h

module _ (q : PartModel) (made : IsPart q.input q.content) (shows : ShowTheirTypes q.input q.content) (files : List SourceModel) (file : ℕ) (tree : FileTree) (in_trees : slice_get (trees_in q.input.source) file ≡ Some tree)
    (path type_name variable : List ℕ) (v : DeclaresVariable files file tree type_name variable) (names : q.content.blocks.names ≡ package_block (trees_of files)) (b : Binding) (target : b.target ≡ targets.«Package» path)
    (bound : file_binding q.content.blocks file v.import_name.name ≡ Some b) (t : Option Term) (named : NamesType (type_behind q file tree path type_name) t)
  where
    abbrev seen : PackageIn
    seen = package_seen q.input q.content.blocks (seen_by q.input)

    abbrev shown : List ℕ → List ℕ → Option DeclRef
    shown = shown_in (exports_told q.input.reached)

    -- what the written type means
    free : in_block q.content.blocks.names v.qualifier.name ≡ None
    free = ap (in_block q.content.blocks.names) v.behind ∙ (ap (λ (ns : List (List ℕ × DeclRef)). in_block ns v.import_name.name) names ∙ v.free)

    imported : file_binding q.content.blocks file v.qualifier.name ≡ Some b
    imported = ap (file_binding q.content.blocks file) v.behind ∙ bound

    meaning : named_meaning shown seen.path seen.blocks file (type_names.Qualified v.qualifier v.dot v.ident) ≡ shown_type path (shown path type_name)
    meaning =
        ap (qualified_meaning shown seen.blocks file v.qualifier.name v.ident.name) free
        ∙ (ap (type_in_binding shown v.ident.name) imported
        ∙ (ap (type_in_target shown v.ident.name) target
        ∙ ap (λ (n : List ℕ). shown_type path (shown path n)) v.names))

    face : (d : DeclRef) × (exported_in (faces_told q.input.reached) path type_name ≡ shown_faces.Shown d (Some (faces.«Type» t)))
    face = type_shown path type_name t (exported_in (faces_told q.input.reached) path type_name) named

    meant : typed_in (types_seen q) (through (shows_in seen).target (shown_type path (shown path type_name))) ≡ t
    meant = ap (λ (es : List Entry). typed_in es (through (shows_in seen).target (shown_type path (shown path type_name)))) (sym (types_are q)) ∙ shows.shown path type_name face.0 t face.1

    there_is : type_there q made file tree in_trees v.decl v.there v.value v.place v.form (NamedType (type_names.Qualified v.qualifier v.dot v.ident)) v.type_is ≡ t
    there_is = ap (λ (u : Term). typed_in (types_seen q) (through (shows_in seen).target u)) meaning ∙ meant

    -- so the variable has this type
    variable_is : (kind : MemberKind) (name : List ℕ) → (place : Declaration) × (behind_name (look_in_file q file tree) variable kind name ≡ behind (look_in_file q file tree) kind name (on_type place t))
    variable_is kind name =
        let d : DeclRef = decl_ref file v.decl.number kinds.Var in
        let place : Declaration = InFile (path_in q.input) (places.Declared d) in
        let bound_there : in_block q.content.blocks.names variable ≡ Some d = ap (λ (ns : List (List ℕ × DeclRef)). in_block ns variable) names ∙ v.bound in (
          place,
          ap (behind (look_in_file q file tree) kind name)
              (name_is q made file tree in_trees v.decl v.there v.value v.place v.form (NamedType (type_names.Qualified v.qualifier v.dot v.ident)) v.type_is variable v.plain bound_there file)
              ∙ ap (λ (o : Option Term). behind (look_in_file q file tree) kind name (on_type place o)) there_is,
        )

-- in a workspace

module _ (one_part : OnePart) (local : CheckIsLocal) (bind : ImportsBindTheirs) (added : AddedImportsAreJudged) (local_members : MembersAreLocal) (have : WorkspacesHaveSnapshots) (show : PartsShowTheirTypes) (ps : List PackageModel) (s : SnapshotModel)
    (well : IsWorkspace ps) (is : IsOneWorker ps s) (from path type_name variable : List ℕ) (doc : TypeDocOf) (told : IsOtherTypeDoc s from path type_name doc) (more : List PackageModel) (h : AddsFile ps told.number path more) (as_read : IsReadWorkspace more)
    (v : DeclaresVariable (h.adds.files ++ h.adds.file ∷ []) (length h.adds.files) h.tree type_name variable)
  where
    abbrev all : List SourceModel
    all = h.adds.files ++ h.adds.file ∷ []

    abbrev file : ℕ
    file = length h.adds.files

    abbrev number : ℕ
    number = told.number

    abbrev to : ℕ
    to = told.imported.to

    the_judged : IsJudgedAt ps number path (come.«Package» to)
    the_judged = judged one_part local bind added local_members have ps s well is from path number told.importer told.of_part told.own told.imported more h

    module _ (w : SnapshotModel) (other : IsOneWorker more w) (q : PartModel) (here : slice_get w.parts number ≡ Some (Some q)) where
      again : AreParts more w.parts
      again = (whole more w other).made

      right : AreRight more w.parts
      right = all_right more w.parts again

      made : IsPart q.input q.content
      made = (right number q here).made

      source_is : ◌≡◌ {A = PackageModel} q.input.source (h.adds.path, all)
      source_is = one_at more number q.input.source (h.adds.path, all) (right number q here).numbered h.adds.here

      at : slice_get (trees_of q.input.source.1) file ≡ Some (h.adds.file.name, h.tree)
      at =
          ap (λ (p : PackageModel). slice_get (trees_of p.1) file) source_is
          ∙ tree_at all file h.adds.file h.tree (assembled_more ps more number path h.adds).trees (last_at h.adds.files h.adds.file) h.content

      in_trees : slice_get (trees_in q.input.source) file ≡ Some h.tree
      in_trees = slice_get-map tree_shown (trees_of q.input.source.1) file ∙ ap (option_map tree_shown) at

      names : q.content.blocks.names ≡ package_block (trees_of all)
      names = made.blocks.package_names ∙ ap (λ (p : PackageModel). package_block (trees_of p.1)) source_is

      -- what the import binds
      free_there : in_block q.content.blocks.names v.import_name.name ≡ None
      free_there = ap (λ (ns : List (List ℕ × DeclRef)). in_block ns v.import_name.name) names ∙ v.free

      bound : Binds (ComesTo more w.parts) number (trees_of q.input.source.1) q.input.imports q.content.blocks made.blocks (right number q here).input.imports file h.adds.file.name h.tree at v.spec v.imports v.import_name v.is_named v.import_plain free_there
      bound = binds (ComesTo more w.parts) number (trees_of q.input.source.1) q.input.imports q.content.blocks made.blocks (right number q here).input.imports file h.adds.file.name h.tree at v.spec v.imports v.import_name v.is_named v.import_plain free_there

      comes : bound.holds.outcome ≡ come.«Package» to
      comes = has_one_outcome more (import_at number file 0) bound.holds.outcome (come.«Package» to) h.well bound.holds.judged ((added ps more number path h.adds (come.«Package» to)).1 the_judged)

      to_path : (j : Imported) → IsGiven (Shown w.parts) (come.«Package» to) j → import_target j ≡ targets.«Package» path
      to_path (given.«Package» e) x =
          let target = the_judged.judged.0 in
          let source : PackageModel = x.told.of_part.input.source in
          let stays : slice_get more to ≡ Some (path, target.files) = h.adds.others to (below_apart ps more number path h.adds to the_judged to (inl refl)) ∙ target.numbered in
          let both : ◌≡◌ {A = PackageModel} source (path, target.files) = one_at more to source (path, target.files) (right to x.told.of_part x.told.there).numbered stays in
          ap targets.«Package» (ap (λ (y : ExportsModel). y.path) x.is ∙ (path_told more w.parts h.well right to x.summary x.told ∙ ap (λ (p : PackageModel). p.0) both))
      to_path (given.Refused rule) x = absurd x

      target_is : bound.binding.target ≡ targets.«Package» path
      target_is = bound.target ∙ to_path bound.imported (subst (λ o. IsGiven (Shown w.parts) o bound.imported) comes bound.holds.given)

      shows : ShowTheirTypes q.input q.content
      shows = show more w.parts as_read again q (among_to (somes w.parts) q (flat_among if_there w.parts q (Some q) (among_at w.parts number (Some q) here) (inl refl)))

      named : NamesType (type_behind q file h.tree path type_name) told.term
      named =
          subst (λ (a : TheAnswer). NamesType a told.term)
          (sym (same one_part local bind added local_members have ps s well is from path number told.importer told.of_part told.own told.imported more h w other q here type_name)) told.named

      is_behind : (kind : MemberKind) (name : List ℕ) → (place : Declaration) × (behind_name (look_in_file q file h.tree) variable kind name ≡ behind (look_in_file q file h.tree) kind name (on_type place told.term))
      is_behind = variable_is q made shows all file h.tree in_trees path type_name variable v names bound.binding target_is bound.bound told.term named

      of_term : (kind : MemberKind) (name : List ℕ) (d : Declaration) (through : List ℕ) → behind_name (look_in_file q file h.tree) variable kind name ≡ outcomes.Selected d through → (o : Option Term) → told.term ≡ o
          → SelectsBehind w number file h.tree path type_name kind name
      of_term kind name d through selected None e =
          let b = is_behind kind name in
          absurd (untyped (look_in_file q file h.tree) kind name b.0 d through (ap (λ (o : Option Term). behind (look_in_file q file h.tree) kind name (on_type b.0 o)) (sym e) ∙ (sym b.1 ∙ selected)))
      of_term kind name d through selected (Some t) e =
          let b = is_behind kind name in
          record {
            of_part = q;
            there = here;
            term = t;
            named = subst (NamesType (type_behind q file h.tree path type_name)) e named;
            declaration = d;
            through = through;
            selected = ap (λ (o : Option Term). behind (look_in_file q file h.tree) kind name (on_type b.0 o)) (sym e) ∙ (sym b.1 ∙ selected);
          }

    to_name : (w : SnapshotModel) → IsOneWorker more w → (kind : MemberKind) (name : List ℕ) → SelectsBehind w number file h.tree path type_name kind name → SelectsBehindName w number file h.tree variable kind name
    to_name w other kind name x =
        let b = is_behind w other x.of_part x.there kind name in
        let e : told.term ≡ Some x.term = one_type (type_behind x.of_part file h.tree path type_name) told.term (Some x.term) (named w other x.of_part x.there) x.named in
        record {
          of_part = x.of_part;
          there = x.there;
          declaration = x.declaration;
          through = x.through;
          selected = b.1 ∙ (ap (λ (o : Option Term). behind (look_in_file x.of_part file h.tree) kind name (on_type b.0 o)) e ∙ x.selected);
        }

    pub variables : (kind : MemberKind) (name : List ℕ) → TellsMember doc kind name ↔ ((w : SnapshotModel) × IsOneWorker more w × SelectsBehindName w number file h.tree variable kind name)
    variables kind name =
        let both = types one_part local bind added local_members have ps s well is from path type_name doc told more h kind name in (
          (λ m. (let r = both.0 m in (r.0, r.1, to_name r.0 r.1 kind name r.2))),
          (λ r. both.1 (r.0, r.1, of_term r.0 r.1 r.2.of_part r.2.there kind name r.2.declaration r.2.through r.2.selected told.term refl)),
        )

pub variables_exact : OnePart → CheckIsLocal → ImportsBindTheirs → AddedImportsAreJudged → MembersAreLocal → WorkspacesHaveSnapshots → PartsShowTheirTypes → VariablesAreExact
variables_exact one_part local bind added local_members have show ps s well is from path type_name variable doc told more h as_read v kind name =
    variables one_part local bind added local_members have show ps s well is from path type_name variable doc told more h as_read v kind name
