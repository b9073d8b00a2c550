-- Which packages can be run, where none is named.
use Rattle.std.specs.Prelude.{◌&&◌, ℕ, Bool, true, false, List, [], ◌∷◌, ◌++◌, codes}
use Rattle.std.specs.List.{flat_map}
use Rattle.std.specs.Str.{bytes_eq}
use Rattle.go_object_core.specs.Objects.{ObjectOf}
use Rattle.govisd_disk.specs.Finds.{refused_line}
use Rattle.govisd_disk.specs.Notes.{note_line}
use Rattle.govisd_disk.specs.Scopes.{ScopeModel, is_inside}

abbrev pub path_if : Bool → List ℕ → List (List ℕ)
path_if true path = path ∷ []
path_if false path = []

-- a package in a scope is called `main`
abbrev pub is_main : {D : Type 0} → ScopeModel → ObjectOf D → Bool
is_main scope o = bytes_eq o.name (codes "main") && is_inside scope o.path

abbrev pub main_path : {D : Type 0} → ScopeModel → ObjectOf D → List (List ℕ)
main_path scope o = path_if (is_main scope o) o.path

-- the paths of those that are, in order
abbrev pub main_paths : {D : Type 0} → ScopeModel → List (ObjectOf D) → List (List ℕ)
main_paths scope os = flat_map (main_path scope) os

-- what is said of each of several
abbrev pub main_line : List ℕ → List ℕ
main_line path = note_line path (codes "this package is called main")

-- what is said where there are several
abbrev pub several_text : List ℕ → List (List ℕ) → List ℕ
several_text folder mains = refused_line folder (codes "several packages are called main, and --main names the one to run") ++ flat_map main_line mains
