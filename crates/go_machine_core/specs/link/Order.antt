-- In which order packages are initialised.
--
-- The Go specification, "Program initialization".
use Rattle.std.specs.Prelude.{ℕ, zero, suc, Bool, true, false, ◌&&◌, List, [], ◌∷◌, ◌++◌, length, replicate, Option, Some, None, remove, slice_get, slice_set, slice_index, slice_index_or}
use Rattle.std.specs.List.{flat_map, position_from}
use Rattle.go_machine_core.specs.link.Functions.{number_if}
use Rattle.go_machine_core.specs.link.Packages.{PackageOf}

abbrev pub is_marked : List Bool → ℕ → Bool
is_marked marks n = slice_index_or marks n false

-- those numbers that bear a mark
abbrev pub marked_in : List ℕ → List Bool → List ℕ
marked_in numbers marks = flat_map (λ n. number_if (is_marked marks n) n) numbers

abbrev pub is_done : List Bool → Option ℕ → Bool
is_done done None = false
is_done done (Some n) = is_marked done n

abbrev pub are_done : List Bool → List (Option ℕ) → Bool
are_done done [] = true
are_done done (i ∷ is) = is_done done i && are_done done is

abbrev pub imports_in : Option PackageOf → List (Option ℕ)
imports_in None = []
imports_in (Some p) = p.imports

-- the imports of a package are done
abbrev pub is_ready : List PackageOf → List Bool → ℕ → Bool
is_ready ps done n = are_done done (imports_in (slice_get ps n))

abbrev pub taken : Option ℕ → (ℕ → List ℕ) → List ℕ
taken None go = []
taken (Some place) go = go place

-- of the packages that wait, one after another the first whose imports are done, until there is none: so many at most
abbrev pub in_turn : List PackageOf → ℕ → List Bool → List ℕ → List ℕ
in_turn ps zero done waiting = []
in_turn ps (suc n) done waiting = taken (position_from (is_ready ps done) 0 waiting) (λ place.
    slice_index waiting place ∷ in_turn ps n (slice_set done (slice_index waiting place) true) (remove waiting place))

-- of packages that are in the order of their paths those that bear a mark, in the order in which they are initialised
abbrev pub initialised : List PackageOf → List ℕ → List Bool → List ℕ
initialised ps order marks = in_turn ps (length (marked_in order marks)) (replicate (length ps) false) (marked_in order marks)

abbrev pub inits_in : Option PackageOf → List ℕ
inits_in None = []
inits_in (Some p) = p.inits

-- the functions that run one after another: the `init` functions of each of these packages, and `main`
abbrev pub starts_of : List PackageOf → List ℕ → List Bool → ℕ → List ℕ
starts_of ps order marks main = flat_map (λ n. inits_in (slice_get ps n)) (initialised ps order marks) ++ main ∷ []
