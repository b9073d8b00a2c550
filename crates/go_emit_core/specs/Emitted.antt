-- The object of a package.
--
-- docs/RULES.md, "Stack code". The Go specification, "Packages", "Function declarations", "Method declarations".
use Rattle.std.specs.Prelude.{ℕ, suc, Bool, true, false, ◌&&◌, nat_lt, List, [], ◌∷◌, ◌++◌, length, map, drop, take_while, Option, Some, None, is_some, if◌then◌else◌}
use Rattle.std.specs.List.{flat_map, prefix_len}
use Rattle.go_tree_nodes.specs.Trees.{FileTree, FuncTree}
use Rattle.go_term_core.specs.decl_core.TopDecls.{TopDeclTree, FormTree, ValueForm, TypeForm, FuncForm, top_decls}
use Rattle.go_term_core.specs.declared.term.MemberPlace.TheVariants as places
use Rattle.go_expr_core.specs.denote_core.declared.things.Outcome.{Outcome}
use Rattle.go_expr_core.specs.denote_core.declared.things.Outcome.TheVariants as outcomes
use Rattle.go_declared_core.specs.handle_core.Declarations.{Declaration, InFile}
use Rattle.go_expr_core.specs.local_core.declared.Fault.{Fault}
use Rattle.go_package_core.specs.body_core.Notes.{TheUse}
use Rattle.go_package_core.specs.prepare.Packages.{trees_in}
use Rattle.go_package_core.specs.summary_core.Summaries.{SummaryModel}
use Rattle.go_package_core.specs.summary_core.Views.{PathsAreApart, faces_told, types_told}
use Rattle.go_package_core.specs.package_part.Inputs.{InputModel, path_in}
use Rattle.go_package_core.specs.package_part.Parts.{ContentOf, FileOf, PartModel}
use Rattle.go_code_core.specs.Code.{code_of}
use Rattle.go_code_core.specs.fragments.Names.{CodeLooks}
use Rattle.go_code_core.specs.fragments.Slots.{slots_of}
use Rattle.go_object_core.specs.Objects.{FunctionOf, ObjectOf}
use Rattle.go_emit_core.specs.Imports.{all_passing}
use Rattle.go_emit_core.specs.meaning.Looking.{looks_of}
use Rattle.go_emit_core.specs.meaning.Scenes.{CodeScene, decl_at, package_decl_refs, scene_by}
use Rattle.go_package_core.specs.package_part.Slots.{if_there}

-- the scene

-- of a package, by its input and by what it has, over what some packages tell: its own declarations count before what they show
abbrev pub code_scene_over : List SummaryModel → InputModel → ContentOf → CodeScene
code_scene_over all i c = scene_by (path_in i) (package_decl_refs 0 (trees_in i.source)) c.declared (types_told all) (faces_told all)

-- functions

abbrev pub outcome_declarations : Outcome Declaration (List ℕ) → List Declaration
outcome_declarations (outcomes.Declared d) = d ∷ []
outcome_declarations (outcomes.Selected d path) = d ∷ []
outcome_declarations (outcomes.Refused rule) = []

-- the declarations of occurrences, in order
abbrev pub declarations_in : List TheUse → List Declaration
declarations_in uses = flat_map (λ u. outcome_declarations u.outcome) uses

-- how many of a file's occurrences stand before an offset
abbrev pub uses_before : List TheUse → ℕ → ℕ
uses_before uses bound = prefix_len (λ u. nat_lt u.offset bound) uses

-- the occurrences of a body stand between its braces: how many of its file stand before them
abbrev pub body_first : List TheUse → FuncTree → ℕ
body_first uses f = uses_before uses f.open_brace.start

abbrev pub body_uses : List TheUse → FuncTree → List TheUse
body_uses uses f = take_while (λ u. nat_lt u.offset f.close_brace.start) (drop (body_first uses f) uses)

-- a function of the file of a number of the package of a path, by what the file's occurrences have; its names come to what they come to in a function
-- with so many occurrences of the file before its body
abbrev pub function_of : List ℕ → ℕ → List TheUse → (ℕ → CodeLooks) → TopDeclTree → FuncTree → FunctionOf Declaration
function_of path file uses looking d f = record {
  declaration = InFile path (places.Declared (decl_at file d));
  name = d.ident.name;
  has_receiver = is_some f.receiver;
  slots = length (slots_of (looking (body_first uses f)) f);
  references = declarations_in (body_uses uses f);
  code = code_of (looking (body_first uses f)) f;
}

-- the function that a declaration is, if it is one
abbrev pub form_function : List ℕ → ℕ → List TheUse → (ℕ → CodeLooks) → TopDeclTree → FormTree → List (FunctionOf Declaration)
form_function path file uses looking d (ValueForm k v at) = []
form_function path file uses looking d (TypeForm t) = []
form_function path file uses looking d (FuncForm f) = function_of path file uses looking d f ∷ []

-- the functions among declarations of a file, in order
abbrev pub functions_of : List ℕ → ℕ → List TheUse → (ℕ → CodeLooks) → List TopDeclTree → List (FunctionOf Declaration)
functions_of path file uses looking ds = flat_map (λ d. form_function path file uses looking d d.form) ds

-- those of a file
abbrev pub file_functions : CodeScene → ℕ → List TopDeclTree → FileOf → List (FunctionOf Declaration)
file_functions s file ds f = functions_of s.path file f.answers.uses (looks_of s file f.answers.uses f.answers.locals) ds

-- those of the files of a package, in order of name, from the file of a number on
abbrev pub package_functions : CodeScene → ℕ → List FileTree → List FileOf → List (FunctionOf Declaration)
package_functions s n [] files = []
package_functions s n (t ∷ ts) [] = []
package_functions s n (t ∷ ts) (f ∷ files) = file_functions s n (top_decls t) f ++ package_functions s (suc n) ts files

-- objects

abbrev pub nothing_reported : List Fault → Bool
nothing_reported [] = true
nothing_reported (f ∷ fs) = false

-- nothing is reported of any file
abbrev pub are_clean : List FileOf → Bool
are_clean [] = true
are_clean (f ∷ fs) = nothing_reported f.report && are_clean fs

-- the object of a package in a scene, whatever is reported of it
abbrev pub whole_object : CodeScene → InputModel → ContentOf → ObjectOf Declaration
whole_object s i c = record {
  path = path_in i;
  name = c.summary.exports.name;
  imports = all_passing i.imports;
  functions = package_functions s 0 (trees_in i.source) c.files;
}

-- none where anything is reported of a file
abbrev pub object_in : CodeScene → InputModel → ContentOf → Option (ObjectOf Declaration)
object_in s i c = if are_clean c.files then Some (whole_object s i c) else None

-- the object of a package, by its input and by what it has, over what some packages tell
abbrev pub object_over : List SummaryModel → InputModel → ContentOf → Option (ObjectOf Declaration)
object_over all i c = object_in (code_scene_over all i c) i c

-- what the packages tell that a package reaches, and what it tells itself
abbrev pub told_to : InputModel → ContentOf → List SummaryModel
told_to i c = i.reached ++ (c.summary ∷ [])

-- the object of a package by itself: over this
abbrev pub object_of : InputModel → ContentOf → Option (ObjectOf Declaration)
object_of i c = object_over (told_to i c) i c

-- the objects of several packages

-- what parts tell, in their order
abbrev pub told_by : List PartModel → List SummaryModel
told_by ps = map (λ p. p.content.summary) ps

-- no two of these parts are of packages of one path
abbrev pub AreOfDifferentPackages : List PartModel → Type 0
AreOfDifferentPackages ps = PathsAreApart (told_by ps)

-- the objects of parts that have one, in their order, over what some packages tell
abbrev pub objects_over : List SummaryModel → List PartModel → List (ObjectOf Declaration)
objects_over all ps = flat_map (λ p. if_there (object_over all p.input p.content)) ps

-- the same over what all of these parts tell
abbrev pub objects_of : List PartModel → List (ObjectOf Declaration)
objects_of ps = objects_over (told_by ps) ps
