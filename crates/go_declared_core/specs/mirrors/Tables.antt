-- What tables of packages keep.
use Rattle.std.specs.Prelude.{◌≡◌, ℕ, List, Option, map}
use Rattle.std.specs.List.{position_from}
use Rattle.std.specs.Map.{keys_of}
use Rattle.std.specs.Str.{bytes_eq}
use Rattle.go_collections_core.specs.name_table.Named.{value_at}
use Rattle.go_declared_core.specs.Packages.{PackageFacesModel}

-- the place of the first of a name
abbrev pub place_of : {X : Type 0} → List (List ℕ × X) → List ℕ → Option ℕ
place_of es name = position_from (bytes_eq name) 0 (keys_of es)

-- names have their places
abbrev pub ArePlaced : {X : Type 0} → List (List ℕ × ℕ) → List (List ℕ × X) → Type 0
ArePlaced places es = (name : List ℕ) → value_at places name ≡ place_of es name

-- packages under their paths
abbrev pub keyed : List PackageFacesModel → List (List ℕ × PackageFacesModel)
keyed ps = map (λ p. (p.path, p)) ps
