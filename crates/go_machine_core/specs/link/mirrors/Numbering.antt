-- Look-ups of numbers.
use Rattle.std.specs.Prelude.{◌≡◌, ◌<◌, ◌+◌, ℕ, Bool, true, false, ◌&&◌, ◌||◌, List, [], ◌∷◌, IfSome, Option, Some, None, option_map}
use Rattle.std.specs.Map.{lookup}
use Rattle.go_collections_core.specs.declared.spelling_index.spellings.Spelling.{Spelling}
use Rattle.go_collections_core.specs.spelling_index.Spelled.{spelled_in}
use Rattle.go_machine_core.specs.declared.link.places.Place.{Place}
use Rattle.go_machine_core.specs.link.Functions.{PlaceModel, place_shown, same_place, number_at}

-- what is looked up at a place
abbrev pub found_in : List (Place × ℕ) → Option PlaceModel → Option ℕ
found_in es None = None
found_in es (Some p) = lookup (λ k. same_place p (place_shown k)) es

-- what is looked up of a key
abbrev pub found_key : Place → List (Place × ℕ) → Option ℕ
found_key k es = lookup (λ q. same_place (place_shown k) (place_shown q)) es

-- each place is found where it stands first
abbrev pub AreNumbered : List (Place × ℕ) → List (Option PlaceModel) → Type 0
AreNumbered es places = (p : Option PlaceModel) → found_in es p ≡ number_at places p

-- what is looked up of a path
abbrev pub numbered_path : List (List ℕ × Spelling) → List ℕ → Option ℕ
numbered_path ps path = option_map (λ s. s.first) (spelled_in ps path)

-- numbers lie below a count
abbrev pub AreBelow : ℕ → List ℕ → Type 0
AreBelow count [] = Unit {0}
AreBelow count (n ∷ ns) = (n < count) × AreBelow count ns

abbrev pub IsRowBelow : ℕ → List (Option ℕ) → Type 0
IsRowBelow count [] = Unit {0}
IsRowBelow count (n ∷ ns) = IfSome n (λ k. k < count) × IsRowBelow count ns

-- all numbers in these rows do
abbrev pub AreRowsBelow : ℕ → List (List (Option ℕ)) → Type 0
AreRowsBelow count [] = Unit {0}
AreRowsBelow count (row ∷ rows) = IsRowBelow count row × AreRowsBelow count rows

-- one that bears a mark passes a test
abbrev pub any_marked : {A : Type 0} → (A → Bool) → List A → List Bool → Bool
any_marked test [] marks = false
any_marked test (x ∷ xs) [] = false
any_marked test (x ∷ xs) (mark ∷ marks) = (mark && test x) || any_marked test xs marks

-- this number, or else another one
abbrev pub number_or : Bool → ℕ → Option ℕ → Option ℕ
number_or true n other = Some n
number_or false n other = other

-- the number of the first that bears a mark and passes a test, where they are numbered from the n-th on
abbrev pub first_marked : {A : Type 0} → (A → Bool) → ℕ → List A → List Bool → Option ℕ
first_marked test n [] marks = None
first_marked test n (x ∷ xs) [] = None
first_marked test n (x ∷ xs) (mark ∷ marks) = number_or (mark && test x) n (first_marked test (n + 1) xs marks)
