-- Steps along the elements of paths.
use Rattle.std.specs.Prelude.{ℕ, ◌<◌, Bool, true, false, ◌&&◌, ◌||◌, not, List, [], ◌∷◌, length, Option, Some, None}
use Rattle.std.specs.Str.{bytes_eq}
use denote.Ref.{Bor}
use Rattle.go_path_core.specs.Path.{elements, internal}

-- the elements of what is left of a text
abbrev pub left_of : Option (Bor (List ℕ)) → List (List ℕ)
left_of None = []
left_of (Some text) = elements text.now

-- what is left is shorter than n
abbrev pub is_shorter : Option (Bor (List ℕ)) → ℕ → Type 0
is_shorter None n = Unit {0}
is_shorter (Some text) n = length text.now < n

-- whether the first of a list is this element
abbrev pub is_first : List ℕ → List (List ℕ) → Bool
is_first e [] = false
is_first e (x ∷ xs) = bytes_eq x e

-- a list without its first
abbrev pub tail_of : List (List ℕ) → List (List ℕ)
tail_of [] = []
tail_of (x ∷ xs) = xs

-- whether one of these elements hides what is below it
abbrev pub has_internal : List (List ℕ) → Bool
has_internal [] = false
has_internal (e ∷ p) = bytes_eq e internal || has_internal p

-- MayImport as a test along the elements of p. shared: those before are the first of the importer's, of which q is left
abbrev pub importable : Bool → List (List ℕ) → List (List ℕ) → Bool
importable shared q [] = true
importable shared q (e ∷ p) = (not (bytes_eq e internal) || shared) && importable (shared && is_first e q) (tail_of q) p
