-- The part of a module that was asked for.
use Rattle.std.specs.Prelude.{◌==◌, ◌&&◌, ◌||◌, ℕ, Bool, true, false, List, [], ◌∷◌, length, nat_eq, Option, slice_get, flat_map, option_and_then, option_map, if◌then◌else◌}
use Rattle.std.specs.List.{list_any, starts_with}
use Rattle.std.specs.Option.{option_map_or}
use Rattle.std.specs.Str.{bytes_eq}
use Rattle.go_graph_core.specs.Sources.{SourceModel}
use Rattle.go_graph_core.specs.Workspaces.{PackageModel}
use Rattle.go_snap_core.specs.declared.fault.PlacedFault.{PlacedFault}

-- the path of the package in a folder, and the name of a file in it; no bytes, where all files in the folder and below it are meant
abbrev pub ScopeModel : Type 0
ScopeModel = List ℕ × List ℕ

-- a package lies in a folder or below it, by its path and that of the package in the folder
abbrev pub is_below : List ℕ → List ℕ → Bool
is_below folder path = starts_with nat_eq path folder && option_map_or (λ b. b == 47) (slice_get path (length folder)) true

-- files of a package are told of
abbrev pub is_inside : ScopeModel → List ℕ → Bool
is_inside scope path = if length scope.1 == 0 then is_below scope.0 path else bytes_eq path scope.0

-- a file of a package is
abbrev pub has_file : ScopeModel → List ℕ → List ℕ → Bool
has_file scope path name = is_inside scope path && ((length scope.1 == 0) || bytes_eq name scope.1)

-- the path of the package and the file in which a fault lies, if there is such a file
abbrev pub source_at : List PackageModel → PlacedFault → Option (List ℕ × SourceModel)
source_at ps f = option_and_then (λ p. option_map (λ s. (p.0, s)) (slice_get p.1 f.file)) (slice_get ps f.«package»)

-- a fault lies in such a file
abbrev pub has_fault : ScopeModel → List PackageModel → PlacedFault → Bool
has_fault scope ps f = option_map_or (λ s. has_file scope s.0 s.1.name) (source_at ps f) false

-- a package has such a file, and one of some packages has
abbrev pub has_package : ScopeModel → PackageModel → Bool
has_package scope p = list_any (λ s. has_file scope p.0 s.name) p.1

abbrev pub has_any : ScopeModel → List PackageModel → Bool
has_any scope ps = list_any (has_package scope) ps

-- the packages of which files are told of
abbrev pub path_if : Bool → List ℕ → List (List ℕ)
path_if true path = path ∷ []
path_if false path = []

abbrev pub packages_in : ScopeModel → List PackageModel → List (List ℕ)
packages_in scope ps = flat_map (λ (p : PackageModel). path_if (is_inside scope p.0) p.0) ps
