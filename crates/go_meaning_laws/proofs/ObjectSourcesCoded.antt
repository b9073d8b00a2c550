-- The functions of objects are the code of their sources.
use Rattle.std.proofs.Common.{◌≡◌, ℕ, suc, Bool, true, false, List, [], ◌∷◌, ◌++◌, map, Option, Some, None, refl, sym, ap, ◌∙◌, if◌then◌else◌}
use Rattle.std.proofs.lemmas.List.{map-append}
use Rattle.go_tree_nodes.specs.Trees.{FileTree}
use Rattle.go_decl_core.specs.TopDecls.{TopDeclTree, FormTree, ValueForm, TypeForm, FuncForm, top_decls}
use Rattle.go_code_core.specs.fragments.Names.{CodeLooks}
use Rattle.go_object_core.specs.Objects.{FunctionOf}
use Rattle.go_machine_core.specs.Programs.{LinkedOf}
use Rattle.go_machine_core.specs.link.Functions.{all_functions, linked_of, number_of}
use Rattle.go_handle_core.specs.Declarations.{Declaration}
use Rattle.go_body_core.specs.Notes.{TheUse}
use Rattle.go_emit_core.specs.package_core.PreparePackages.{trees_in}
use Rattle.go_summary_core.specs.Summaries.{SummaryModel}
use Rattle.go_emit_core.specs.package_core.PackagePartParts.{FileOf, PartModel}
use Rattle.go_emit_core.specs.package_core.PackagePartSlots.{if_there}
use Rattle.go_emit_core.specs.meaning.Looking.{looks_of}
use Rattle.go_emit_core.specs.meaning.Scenes.{CodeScene}
use Rattle.go_emit_core.specs.Emitted.{are_clean, code_scene_over, file_functions, form_function, functions_of, objects_of, objects_over, package_functions, told_by, whole_object}
use Rattle.go_meaning_laws.specs.source_meaning.Meaning.{SourceOf}
use Rattle.go_meaning_laws.specs.source_meaning.Whole.{linked_source}
use Rattle.go_meaning_laws.specs.object_sources.Sources.{file_sources, form_source, package_sources, sources_in, sources_over}
use Rattle.go_meaning_laws.specs.object_sources.Laws.{ObjectsAreCodeOfSources}

module _ (number : Declaration → Option ℕ) where
  -- functions are the code of sources
  abbrev Coded : List (FunctionOf Declaration) → List SourceOf → Type 0
  Coded fs ss = map (linked_of number) fs ≡ map linked_source ss

  both : (fs gs : List (FunctionOf Declaration)) (ss ts : List SourceOf) → Coded fs ss → Coded gs ts → Coded (fs ++ gs) (ss ++ ts)
  both fs gs ss ts e h =
      map-append (linked_of number) fs gs
      ∙ ap (λ (l : List LinkedOf). l ++ map (linked_of number) gs) e
      ∙ ap (λ (l : List LinkedOf). map linked_source ss ++ l) h
      ∙ sym (map-append linked_source ss ts)

  form_coded : (path : List ℕ) (file : ℕ) (uses : List TheUse) (looking : ℕ → CodeLooks) (d : TopDeclTree) (t : FormTree) → Coded (form_function path file uses looking d t) (form_source number uses looking t)
  form_coded path file uses looking d (ValueForm k v at) = refl
  form_coded path file uses looking d (TypeForm t) = refl
  form_coded path file uses looking d (FuncForm f) = refl

  file_coded : (path : List ℕ) (file : ℕ) (uses : List TheUse) (looking : ℕ → CodeLooks) (ds : List TopDeclTree) → Coded (functions_of path file uses looking ds) (sources_in number uses looking ds)
  file_coded path file uses looking [] = refl
  file_coded path file uses looking (d ∷ ds) =
      both (form_function path file uses looking d d.form) (functions_of path file uses looking ds) (form_source number uses looking d.form) (sources_in number uses looking ds)
      (form_coded path file uses looking d d.form) (file_coded path file uses looking ds)

  package_coded : (s : CodeScene) (n : ℕ) (ts : List FileTree) (files : List FileOf) → Coded (package_functions s n ts files) (package_sources number s n ts files)
  package_coded s n [] files = refl
  package_coded s n (t ∷ ts) [] = refl
  package_coded s n (t ∷ ts) (f ∷ files) =
      both (file_functions s n (top_decls t) f) (package_functions s (suc n) ts files) (file_sources number s n (top_decls t) f) (package_sources number s (suc n) ts files)
      (file_coded s.path n f.answers.uses (looks_of s n f.answers.uses f.answers.locals) (top_decls t)) (package_coded s (suc n) ts files)

  part_coded : (all : List SummaryModel) (p : PartModel) (ps : List PartModel) → Coded (all_functions (objects_over all ps)) (sources_over number all ps) → Coded (all_functions (objects_over all (p ∷ ps))) (sources_over number all (p ∷ ps))
  part_coded all p ps more = go (are_clean p.content.files)
    where
      go : (t : Bool) → Coded (all_functions (if_there (if t then Some (whole_object (code_scene_over all p.input p.content) p.input p.content) else None) ++ objects_over all ps)) ((if t then package_sources number (code_scene_over all p.input p.content) 0 (trees_in p.input.source) p.content.files else []) ++ sources_over number all ps)
      go true =
          both (package_functions (code_scene_over all p.input p.content) 0 (trees_in p.input.source) p.content.files) (all_functions (objects_over all ps)) (package_sources number (code_scene_over all p.input p.content) 0 (trees_in p.input.source) p.content.files) (sources_over number all ps)
          (package_coded (code_scene_over all p.input p.content) 0 (trees_in p.input.source) p.content.files) more
      go false = more

  pub parts_coded : (all : List SummaryModel) (ps : List PartModel) → Coded (all_functions (objects_over all ps)) (sources_over number all ps)
  parts_coded all [] = refl
  parts_coded all (p ∷ ps) = part_coded all p ps (parts_coded all ps)

pub objects_are_code : ObjectsAreCodeOfSources
objects_are_code place ps = parts_coded (number_of place (all_functions (objects_of ps))) (told_by ps) ps
