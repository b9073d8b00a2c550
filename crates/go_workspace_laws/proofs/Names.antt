-- Code takes each name of a function for what it stands for in the check.
use Rattle.std.proofs.Common.{◌≡◌, inl, ℕ, Bool, ◌&&◌, List, [], ◌∷◌, Option, Some, None, nat_eq, refl, sym, ap, subst, ◌∙◌}
use Rattle.std.specs.Prelude.{if◌then◌else◌}
use Rattle.std.specs.List.{flat_map}
use Rattle.std.specs.Map.{lookup}
use Rattle.std.proofs.lemmas.Bool.{eq-eqb}
use Rattle.go_universe_core.specs.declared.Predeclared.{Predeclared}
use Rattle.go_universe_core.specs.declared.Predeclared.TheVariants as universe
use Rattle.go_tree_nodes.specs.Trees.{FileTree, FuncTree}
use Rattle.go_term_core.specs.decl_core.declared.keys.DeclRef.{DeclRef}
use Rattle.go_term_core.specs.declared.term.MemberPlace.TheVariants as places
use Rattle.go_term_core.specs.Terms.{Term, Sign}
use Rattle.go_names_core.specs.local_core.Binding.{Local, bound}
use Rattle.go_names_core.specs.local_core.Tables.{IsFuncPlaced}
use Rattle.go_body_core.specs.table_core.Entries.{Entry}
use Rattle.go_body_core.specs.table_core.Finding.{bytes_same}
use Rattle.go_names_core.specs.block_core.declared.binding.Binding.{Binding}
use Rattle.go_names_core.specs.block_core.declared.binding.Target.{Target}
use Rattle.go_names_core.specs.block_core.declared.binding.Target.TheVariants as targets
use Rattle.go_names_core.specs.block_core.declared.imports.Imported.TheVariants as imported
use Rattle.go_names_core.specs.block_core.Blocks.{file_binding}
use Rattle.go_names_core.specs.block_core.Tables.{in_block}
use Rattle.go_names_core.specs.declared.meaning.Outside.{Outside}
use Rattle.go_names_core.specs.declared.meaning.Outside.TheVariants as outsides
use Rattle.go_graph_core.specs.Packages.{trees_of}
use Rattle.go_report_core.specs.denote_core.declared.things.Outcome.{Outcome}
use Rattle.go_report_core.specs.denote_core.declared.things.Outcome.TheVariants as outcomes
use Rattle.go_report_core.specs.denote_core.declared.things.Selection.{Selection}
use Rattle.go_report_core.specs.denote_core.declared.things.Selection.TheVariants as selections
use Rattle.govisd_resolve.specs.handle_core.Declarations.{Declaration, Universe, OfError, Package, InFile}
use Rattle.go_emit_core.specs.declared_core.Packages.{PackageFacesModel, face_by, face_in, face_in_some, package_in, shown_in_some, shown_name}
use Rattle.go_body_core.specs.env_core.declared.meaning.Meaning.{Meaning as NameMeaning}
use Rattle.go_body_core.specs.env_core.declared.meaning.Meaning.TheVariants as means
use Rattle.go_body_core.specs.env_core.Found.{exported_shown, found_binding, found_exported, found_of, found_outside, found_target, found_universe, own_face}
use Rattle.go_body_core.specs.env_core.Looks.{TheLooks}
use Rattle.go_body_core.specs.Notes.{TheLocal, TheValue}
use Rattle.go_body_core.specs.function.Functions.{AreFuncDeclarations, checked_func}
use Rattle.go_body_core.specs.function.Locals.{LocalsAreDeclarations}
use Rattle.go_body_core.specs.function.Stands.{FileStand, outer_meanings}
use Rattle.go_body_core.specs.file.Files.{decl_locals}
use Rattle.go_body_core.specs.file.Stands.{file_funcs}
use Rattle.go_snap_core.specs.whole_workspace.Known.{IsImportedPath, IsTargetIn}
use Rattle.go_snap_core.specs.whole_workspace.LocalLaws.{ImportsBindTheirs}
use Rattle.go_report_core.specs.summary_core.Views.{faces_told, types_told}
use Rattle.go_emit_core.specs.package_core.PackagePartInputs.{InputModel, IsInput, path_in}
use Rattle.go_emit_core.specs.package_core.PackagePartParts.{ContentOf, FileOf, IsPart}
use Rattle.go_code_core.specs.declared.fragments.names.Meaning.{Meaning}
use Rattle.go_code_core.specs.declared.fragments.names.Meaning.TheVariants as meanings
use Rattle.go_emit_core.specs.Emitted.{code_scene_over, told_to}
use Rattle.go_emit_core.specs.Imports.{all_passing, imported_paths}
use Rattle.go_emit_core.specs.meaning.Looking.{locals_meant}
use Rattle.go_emit_core.specs.meaning.Meanings.{local_meaning, some_face_meaning}
use Rattle.go_emit_core.specs.meaning.Scenes.{CodeScene, outcome_meaning, selected_meaning}
use Rattle.go_emit_core.specs.lookup.Places.{spotted_meaning, decl_spot}
use Rattle.go_emit_core.specs.lookup.Looking.{meaning_or_other}
use Rattle.go_workspace_laws.specs.folding.Reading.{AreNamesRead, AreRead, IsExportedMeant, IsFieldMeant, IsFoundMeant, IsMemberMeant, IsValueMeant}
use Rattle.go_workspace_laws.specs.Calling.{without_method}
use Rattle.go_workspace_laws.specs.ConstantLaws.{ImportsAreOthers}
use Rattle.go_workspace_laws.specs.Standing.{looks_among, stand_in_part}
use Rattle.go_workspace_laws.proofs.ConstantCalling.{exported_calm, found_calm, selected_calm}
use Rattle.go_workspace_laws.proofs.Clean.{IsCleanFile}
use Rattle.go_workspace_laws.proofs.ConstantLists.{HasItem, Rising, contained, found_at, has, has_flat}
use Rattle.go_workspace_laws.proofs.ConstantMethods.{method_found}
use Rattle.go_workspace_laws.proofs.Pieces.{file_has}
use Rattle.go_workspace_laws.proofs.Reading.{face_read, local_read, shown_read}
use Rattle.go_workspace_laws.proofs.Told.{decl_other, decl_own, none_own}

module _ (binds : ImportsBindTheirs) (of_locals : LocalsAreDeclarations) (i : InputModel) (c : ContentOf) (well : IsInput i) (others : ImportsAreOthers i) (part : IsPart i c) where
  module _ (n : ℕ) (t : FileTree) (f : FileOf) (clean : IsCleanFile i c n t f) (rises : Rising (λ (l : TheLocal). l.offset) (λ (l : TheLocal). local_meaning (types_told (told_to i c)) l.offset l.value) f.answers.locals) where
    module _ (g : FuncTree) (there : HasItem (file_funcs t) g) (placed : IsFuncPlaced g) (all : List (Local NameMeaning)) (right : AreFuncDeclarations (stand_in_part i c n t) g all) where
      abbrev es : List Entry
      es = types_told (told_to i c)

      abbrev own : List ℕ
      own = path_in i

      abbrev scene : CodeScene
      scene = code_scene_over (told_to i c) i c

      abbrev st : FileStand
      st = stand_in_part i c n t

      abbrev looks : TheLooks
      looks = looks_among st all

      abbrev pub mean : Outcome Declaration (List ℕ) → Meaning
      mean = outcome_meaning scene n (locals_meant es f.answers.locals)

      -- predeclared names

      universe_read : (p : Predeclared) → IsFoundMeant looks mean (found_universe own p)
      universe_read universe.Any = tt
      universe_read universe.Bool = refl
      universe_read universe.Error = tt
      universe_read universe.Int = refl
      universe_read universe.String = tt
      universe_read universe.True = refl
      universe_read universe.False = refl
      universe_read universe.Nil = tt
      universe_read universe.Len = tt
      universe_read universe.Panic = tt
      universe_read universe.Print = tt
      universe_read universe.Println = tt
      universe_read _ = tt

      -- names that imports bind

      imported_apart : (q : List ℕ) → IsImportedPath i.imports q → q ≡ own → ⊥
      imported_apart q h e =
          others (contained (all_passing i.imports) own (subst (HasItem (all_passing i.imports)) e
          (has_flat (λ is. flat_map imported_paths is) i.imports h.of_file q (has i.imports h.of_file h.file)
          (has_flat imported_paths h.of_file (imported.«Package» h.shown) q (has h.of_file (imported.«Package» h.shown) h.there) (inl (sym h.is))))))

      target_read : (x : Target) → IsTargetIn (IsImportedPath i.imports) x → IsFoundMeant looks mean (found_target st.scene x)
      target_read (targets.«Package» q) h = refl
      target_read (targets.Refused rule) h = tt
      target_read (targets.Exported k) h =
          face_read es own looks refl refl mean (InFile k.path (places.Declared k.decl)) (face_in (faces_told i.reached) k.path k.decl) (decl_other i c well part k.path k.decl (imported_apart k.path h))

      binding_read : (name : List ℕ) (b : Option Binding) → file_binding c.blocks n name ≡ b → IsFoundMeant looks mean (found_binding st.scene b)
      binding_read name None e = tt
      binding_read name (Some x) e = target_read x.target (binds (trees_of i.source.1) i.imports c.blocks part.blocks n name x e)

      -- names of the package

      outside_read : (name : List ℕ) (o : Outside) → IsFoundMeant looks mean (found_outside st.scene n c.declared name o)
      outside_read name (outsides.«Package» d) = face_read es own looks refl refl mean (InFile own (places.Declared d)) (own_face st.scene c.declared d) (decl_own i c well part d)
      outside_read name (outsides.File at) = binding_read name (file_binding c.blocks n name) refl
      outside_read name (outsides.Universe p) = universe_read p

      -- locals

      local_is : (at : ℕ) (value : TheValue) → HasItem f.answers.locals (record { offset = at; value = value }) → mean (outcomes.Declared (InFile own (places.Local (record { file = n; offset = at })))) ≡ local_meaning es at value
      local_is at value h =
          let locals = locals_meant es f.answers.locals in
          ap (λ (b : Bool). if b && nat_eq n n then meaning_or_other (lookup (nat_eq at) locals) else meanings.Other) (bytes_same own own refl)
          ∙ (ap (λ (b : Bool). if b then meaning_or_other (lookup (nat_eq at) locals) else meanings.Other) (eq-eqb n n refl)
          ∙ ap meaning_or_other (found_at (λ (l : TheLocal). l.offset) (λ (l : TheLocal). local_meaning es l.offset l.value) f.answers.locals (record { offset = at; value = value }) rises h))

      local_there : (name : List ℕ) (place at : ℕ) (value : TheValue) → bound (outer_meanings st) all name place ≡ Some (means.Local at value) → HasItem f.answers.locals (record { offset = at; value = value })
      local_there name place at value e =
          let l : TheLocal = record { offset = at; value = value } in
          subst (λ (ls : List TheLocal). HasItem ls l) (sym clean.locals)
          (file_has (decl_locals st) t g there l (has (checked_func st g).locals l (of_locals.denoted st g placed all right name place at value e)))

      found_read : (name : List ℕ) (place : ℕ) (m : Option NameMeaning) → bound (outer_meanings st) all name place ≡ m → IsFoundMeant looks mean (found_of st.scene n c.declared name m)
      found_read name place None e = tt
      found_read name place (Some (means.Outside o)) e = outside_read name o
      found_read name place (Some (means.Local at value)) e = subst (IsValueMeant value) (sym (local_is at value (local_there name place at value e))) (local_read es at value)

      -- names behind the name of a package

      name_read : (q : List ℕ) (w : PackageFacesModel) (o : Option (Option DeclRef)) → package_in (faces_told i.reached) q ≡ Some w → IsExportedMeant looks mean (exported_shown q (shown_name w o))
      name_read q w None e = tt
      name_read q w (Some None) e = tt
      name_read q w (Some (Some d)) e =
          shown_read es own looks refl refl mean (InFile q (places.Declared d)) (face_by w d)
          (decl_other i c well part q d (λ s. (let lie : None ≡ Some w = sym (none_own i c well part) ∙ (ap (package_in (faces_told i.reached)) (sym s) ∙ e) in absurd cc))
          ∙ ap (λ (x : Option PackageFacesModel). some_face_meaning es (face_in_some x d)) e)

      package_read : (q name : List ℕ) (o : Option PackageFacesModel) → package_in (faces_told i.reached) q ≡ o → IsExportedMeant looks mean (exported_shown q (shown_in_some o name))
      package_read q name None e = tt
      package_read q name (Some w) e = name_read q w (in_block w.names name) e

      exported_read : (d : Declaration) (name : List ℕ) → IsExportedMeant looks mean (found_exported st.scene d name)
      exported_read (Universe p) name = tt
      exported_read OfError name = tt
      exported_read (Package q) name = package_read q name (package_in (faces_told i.reached) q) refl
      exported_read (InFile q place) name = tt

      -- members

      field_by : (home : List ℕ) (d : DeclRef) (o : Option Meaning) → spotted_meaning scene.methods (decl_spot home d) ≡ o → IsFieldMeant (meaning_or_other o)
      field_by home d None e = tt
      field_by home d (Some m) e = subst IsFieldMeant (sym (method_found es es (decl_spot home d) m e).is) tt

      field_read : (d : Declaration) (path : List ℕ) → IsFieldMeant (selected_meaning scene d path)
      field_read d (k ∷ path) = tt
      field_read (Universe p) [] = tt
      field_read OfError [] = tt
      field_read (Package q) [] = tt
      field_read (InFile home (places.Declared d)) [] = field_by home d (spotted_meaning scene.methods (decl_spot home d)) refl
      field_read (InFile home (places.Local l)) [] = tt

      member_read : (m : Selection Term Sign Declaration (List ℕ)) → IsMemberMeant {T = Term} {S = Sign} {D = Declaration} {P = List ℕ} mean m
      member_read (selections.Missing rule) = tt
      member_read (selections.«Field» d path t by_pointer) = field_read d path
      member_read (selections.Method d path s needs_pointer by_pointer) = field_read d path

      pub names_read : AreNamesRead Term Sign Declaration (List ℕ) looks mean
      names_read = record {
        names = λ name place. found_read name place (bound (outer_meanings st) all name place) refl;
        exported = exported_read;
        members = λ x name. member_read (looks.select x name);
      }

      -- by names without methods
      pub are_read : AreRead Term Sign Declaration (List ℕ) looks (λ o. without_method (mean o))
      are_read = record {
        names = λ name place. found_calm looks mean (looks.find name place) (found_read name place (bound (outer_meanings st) all name place) refl);
        exported = λ d name. exported_calm looks mean (looks.exported d name) (exported_read d name);
        selected = λ x name. selected_calm looks mean field_read (looks.select x name);
      }
