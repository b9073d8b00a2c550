-- The functions of a program, by their numbers.
--
-- docs/RULES.md, "Stack code".
use Rattle.std.specs.Prelude.{ℕ, ◌+◌, nat_eq, Bool, true, false, ◌&&◌, not, List, [], ◌∷◌, ◌++◌, map, Option, Some, None}
use Rattle.std.specs.List.{flat_map, position_from}
use Rattle.std.specs.Str.{bytes_eq}
use Rattle.go_object_core.specs.Objects.{FunctionOf, ObjectOf}
use Rattle.go_machine_core.specs.Programs.{LinkedOf}
use Rattle.go_machine_core.specs.declared.link.places.Place.{Place}

-- where something is declared outside functions: the package of a path, the number of a file, and a number there
pub record PlaceModel : Type 0 where
  pub path : List ℕ
  pub file : ℕ
  pub number : ℕ

abbrev pub place_shown : Place → PlaceModel
place_shown p = record { path = p.path.now; file = p.file; number = p.number }

abbrev pub same_place : PlaceModel → PlaceModel → Bool
same_place p q = bytes_eq p.path q.path && (nat_eq p.file q.file && nat_eq p.number q.number)

-- something is at a place, if it is at one
abbrev pub is_at : PlaceModel → Option PlaceModel → Bool
is_at p None = false
is_at p (Some q) = same_place p q

-- the number of the first that is at the same place as something
abbrev pub number_at : List (Option PlaceModel) → Option PlaceModel → Option ℕ
number_at places None = None
number_at places (Some p) = position_from (is_at p) 0 places

-- the functions of all packages, in order: their numbers are those in this list
abbrev pub all_functions : {D : Type 0} → List (ObjectOf D) → List (FunctionOf D)
all_functions os = flat_map (λ o. o.functions) os

-- where functions are declared
abbrev pub places_of : {D : Type 0} → (D → Option PlaceModel) → List (FunctionOf D) → List (Option PlaceModel)
places_of place fs = map (λ f. place f.declaration) fs

-- the number of the function that a declaration is, if it is one of these: the first that is declared where it is
abbrev pub number_of : {D : Type 0} → (D → Option PlaceModel) → List (FunctionOf D) → D → Option ℕ
number_of place fs d = number_at (places_of place fs) (place d)

-- a function whose references are numbers
abbrev pub linked_of : {D : Type 0} → (D → Option ℕ) → FunctionOf D → LinkedOf
linked_of number f = record { slots = f.slots; callees = map number f.references; code = f.code }

-- the functions of a program
abbrev pub functions_of : {D : Type 0} → (D → Option PlaceModel) → List (ObjectOf D) → List LinkedOf
functions_of place os = map (linked_of (number_of place (all_functions os))) (all_functions os)

-- a function has a name and no receiver
abbrev pub is_called : {D : Type 0} → List ℕ → FunctionOf D → Bool
is_called name f = bytes_eq f.name name && not f.has_receiver

abbrev pub number_if : Bool → ℕ → List ℕ
number_if true n = n ∷ []
number_if false n = []

-- the numbers of those functions of a name that have no receiver, where they are numbered from the n-th on
abbrev pub numbers_called : {D : Type 0} → List ℕ → ℕ → List (FunctionOf D) → List ℕ
numbers_called name n [] = []
numbers_called name n (f ∷ fs) = number_if (is_called name f) n ++ numbers_called name (n + 1) fs
