-- Paths of packages, as far as a package may import them.
use Rattle.std.specs.Prelude.{◌≡◌, ◌⊎◌, ℕ, List, [], ◌∷◌, map}
use Rattle.std.specs.Borrow.{Bor}
use Rattle.std.specs.List.{flat_map}
use Rattle.go_table_core.specs.path_core.Path.{MayImport, elements}
use Rattle.go_declared_core.specs.block_core.declared.imports.Imported.{Imported}
use Rattle.go_declared_core.specs.block_core.declared.imports.Imported.TheVariants as given

-- texts that are lent
abbrev pub texts : List (Bor (List ℕ)) → List (List ℕ)
texts xs = map (λ x. x.now) xs

-- the package of the first path may import the second
abbrev pub MayBeShown : List ℕ → List ℕ → Type 0
MayBeShown from path = MayImport (elements from) (elements path)

-- the path of the package that an import comes to
abbrev pub path_in : Imported → List (List ℕ)
path_in (given.«Package» e) = e.path ∷ []
path_in (given.Refused rule) = []

-- the same of the imports of each file
abbrev pub import_paths : List (List Imported) → List (List ℕ)
import_paths files = flat_map (λ is. flat_map path_in is) files

-- those of a list that P holds of, in their order
abbrev pub Picks : {A : Type 0} → (A → Type 0) → List A → List A → Type 0
Picks P [] ys = ys ≡ []
Picks {A} P (x ∷ xs) ys = (¬ P x × Picks P xs ys) ⊎ (P x × ((zs : List A) × (ys ≡ x ∷ zs) × Picks P xs zs))
