-- What packages tell, in a list, and the place of each in it.
use Rattle.std.specs.Prelude.{◌≡◌, ◌<◌, ℕ, List, Option, Some, None, Contains, length, map, slice_get}
use Rattle.std.specs.List.{AllZip}
use Rattle.std.specs.List.Sorted.{IsStrictlyIncreasing}
use Rattle.go_digraph_core.specs.reach.Numbers.{Numbers}
use Rattle.go_report_core.specs.summary_core.Summaries.{SummaryModel}

-- what stands at a place, if there is one
abbrev pub at_place : List SummaryModel → Option ℕ → Option SummaryModel
at_place all None = None
at_place all (Some place) = slice_get all place

-- what stands at the place of each number
abbrev pub by_places : List SummaryModel → List (Option ℕ) → List (Option SummaryModel)
by_places all places = map (at_place all) places

-- something stands at each place
abbrev pub ArePlaces : List SummaryModel → List (Option ℕ) → Type 0
ArePlaces all places = (n place : ℕ) → slice_get places n ≡ Some (Some place) → place < length all

-- what a list has at a number, if it has something there
abbrev pub if_some : {A : Type 0} → Option (Option A) → Option A
if_some None = None
if_some (Some o) = o

abbrev pub at_number : {A : Type 0} → List (Option A) → ℕ → Option A
at_number xs n = if_some (slice_get xs n)

-- the package of a number tells this
abbrev pub IsToldAt : List (Option SummaryModel) → ℕ → SummaryModel → Type 0
IsToldAt told n s = slice_get told n ≡ Some (Some s)

-- each of these numbers is told of
abbrev pub AreTold : List (Option SummaryModel) → List ℕ → Type 0
AreTold told numbers = (m : ℕ) → Contains numbers m → (s : SummaryModel) × IsToldAt told m s

-- there is a set of what the package of a number reaches, and each of these is told of
pub record AreToldFor (sets : List Numbers) (told : List (Option SummaryModel)) (n : ℕ) : Type 0 where
  pub set : Numbers
  pub there : slice_get sets n ≡ Some set
  pub have : AreTold told set.members

-- what the packages of the set of a number tell, in order of number
pub record AreToldOf (sets : List Numbers) (told : List (Option SummaryModel)) (n : ℕ) (ss : List SummaryModel) : Type 0 where
  pub set : Numbers
  pub there : slice_get sets n ≡ Some set
  pub rising : IsStrictlyIncreasing set.members
  pub all : AllZip (IsToldAt told) set.members ss
