-- The sources of the functions of objects.
use Rattle.std.specs.Prelude.{ℕ, suc, List, [], ◌∷◌, ◌++◌, map, Option, if◌then◌else◌}
use Rattle.std.specs.List.{flat_map}
use Rattle.go_tree_nodes.specs.Trees.{FileTree, FuncTree}
use Rattle.go_decl_core.specs.TopDecls.{TopDeclTree, FormTree, ValueForm, TypeForm, FuncForm, top_decls}
use Rattle.go_code_core.specs.fragments.Names.{CodeLooks}
use Rattle.go_machine_core.specs.link.Functions.{PlaceModel, all_functions, number_of}
use Rattle.go_handle_core.specs.Declarations.{Declaration}
use Rattle.go_body_core.specs.Notes.{TheUse}
use Rattle.go_emit_core.specs.package_core.PreparePackages.{trees_in}
use Rattle.go_summary_core.specs.Summaries.{SummaryModel}
use Rattle.go_emit_core.specs.package_core.PackagePartParts.{FileOf, PartModel}
use Rattle.go_emit_core.specs.meaning.Looking.{looks_of}
use Rattle.go_emit_core.specs.meaning.Scenes.{CodeScene}
use Rattle.go_emit_core.specs.Emitted.{are_clean, body_first, body_uses, code_scene_over, declarations_in, objects_of, told_by}
use Rattle.go_meaning_laws.specs.source_meaning.Meaning.{SourceOf}

-- a function of a file, by what the file's occurrences have, where a declaration is the function of a number
abbrev pub source_in : (Declaration → Option ℕ) → List TheUse → (ℕ → CodeLooks) → FuncTree → SourceOf
source_in number uses looking f = record {
  looks = looking (body_first uses f);
  callees = map number (declarations_in (body_uses uses f));
  tree = f;
}

-- the function that a declaration is, if it is one
abbrev pub form_source : (Declaration → Option ℕ) → List TheUse → (ℕ → CodeLooks) → FormTree → List SourceOf
form_source number uses looking (ValueForm k v at) = []
form_source number uses looking (TypeForm t) = []
form_source number uses looking (FuncForm f) = source_in number uses looking f ∷ []

-- the functions among declarations of a file, in order
abbrev pub sources_in : (Declaration → Option ℕ) → List TheUse → (ℕ → CodeLooks) → List TopDeclTree → List SourceOf
sources_in number uses looking ds = flat_map (λ d. form_source number uses looking d.form) ds

-- those of a file
abbrev pub file_sources : (Declaration → Option ℕ) → CodeScene → ℕ → List TopDeclTree → FileOf → List SourceOf
file_sources number s file ds f = sources_in number f.answers.uses (looks_of s file f.answers.uses f.answers.locals) ds

-- those of the files of a package, in order of name, from the file of a number on
abbrev pub package_sources : (Declaration → Option ℕ) → CodeScene → ℕ → List FileTree → List FileOf → List SourceOf
package_sources number s n [] files = []
package_sources number s n (t ∷ ts) [] = []
package_sources number s n (t ∷ ts) (f ∷ files) = file_sources number s n (top_decls t) f ++ package_sources number s (suc n) ts files

-- those of a part of which nothing is reported
abbrev pub part_sources : (Declaration → Option ℕ) → List SummaryModel → PartModel → List SourceOf
part_sources number all p = if are_clean p.content.files then package_sources number (code_scene_over all p.input p.content) 0 (trees_in p.input.source) p.content.files else []

abbrev pub sources_over : (Declaration → Option ℕ) → List SummaryModel → List PartModel → List SourceOf
sources_over number all ps = flat_map (part_sources number all) ps

-- the functions of parts as they stand in the program of the parts' objects, whose declarations are at places
abbrev pub sources_of : (Declaration → Option PlaceModel) → List PartModel → List SourceOf
sources_of place ps = sources_over (number_of place (all_functions (objects_of ps))) (told_by ps) ps
