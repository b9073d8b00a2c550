-- What stands at the head of files: the name in the package clause, and the texts of the imports.
use Rattle.std.specs.Prelude.{◌≡◌, ◌↔◌, ℕ, Bool, true, false, List, [], ◌∷◌, Option, Some, None, Result, Ok, Err, IsTrue, length, map, slice_get}
use Rattle.std.specs.Option.{option_map}
use Rattle.go_tree_nodes.specs.declared.names.Ident.{Ident}
use Rattle.go_tree_nodes.specs.Trees.{FileTree, ImportSpecTree, ImportTree, Specs, Single, Group}
use Rattle.go_graph_core.specs.parse_core.declared.error.SynFault.{SynFault}
use Rattle.go_graph_core.specs.Imports.{import_texts}
use Rattle.go_graph_core.specs.Sources.{SourceModel, clause_of}
use Rattle.go_graph_core.specs.Workspaces.{PackageModel}

-- the name in a clause, if there is one
abbrev pub name_in : Option Ident → Option (List ℕ)
name_in clause = option_map (λ id. id.name) clause

-- of a file the name in its clause, if it has a tree, and the texts of its imports, in order
abbrev pub head_of_file : SourceModel → Option (List ℕ) × List (List ℕ)
head_of_file s = (name_in (clause_of s), import_texts s)

-- of a package its path, and the heads of its files, in order
abbrev pub head_of : PackageModel → List ℕ × List (Option (List ℕ) × List (List ℕ))
head_of p = (p.0, map head_of_file p.1)

-- how the imports of one declaration are spelled, in order, and whether they stand in parentheses
abbrev pub spelled_in : Specs ImportSpecTree → Bool × List (List ℕ)
spelled_in (Single i) = (false, i.path.spelled ∷ [])
spelled_in (Group first is last) = (true, map (λ i. i.0.path.spelled) is)

-- the same of each declaration of a tree
abbrev pub spelled_imports : FileTree → List (Bool × List (List ℕ))
spelled_imports f = map (λ (i : ImportTree). spelled_in i.specs) f.imports

-- and of each of a file that has a tree
abbrev pub spelled_of : Result FileTree SynFault → Option (List (Bool × List (List ℕ)))
spelled_of (Ok f) = Some (spelled_imports f)
spelled_of (Err fault) = None

-- of a file the name in its clause, if it has a tree, and how its imports are spelled
abbrev pub spelled_head_of_file : SourceModel → Option (List ℕ) × Option (List (Bool × List (List ℕ)))
spelled_head_of_file s = (name_in (clause_of s), spelled_of s.content)

-- of a package its path, and the same of its files, in order
abbrev pub spelled_head_of : PackageModel → List ℕ × List (Option (List ℕ) × Option (List (Bool × List (List ℕ))))
spelled_head_of p = (p.0, map spelled_head_of_file p.1)

-- two lists of packages have the same paths, and the same heads of files
abbrev pub HaveSameHeads : List PackageModel → List PackageModel → Type 0
HaveSameHeads ps qs = map head_of ps ≡ map head_of qs

-- and the imports in those are spelled alike, in declarations of the same form
abbrev pub AreSpelledAlike : List PackageModel → List PackageModel → Type 0
AreSpelledAlike ps qs = map spelled_head_of ps ≡ map spelled_head_of qs

-- a mark for each package of the second list: whether it is the one of that number in the first
pub record AreSameMarks (ps qs : List PackageModel) (marks : List Bool) : Type 0 where
  pub many : length marks ≡ length qs
  pub each : (n : ℕ) (is : Bool) → slice_get marks n ≡ Some is → IsTrue is ↔ (slice_get ps n ≡ slice_get qs n)
