-- All that selectors may denote, and the names that they may have.
use Rattle.std.specs.Prelude.{◌≡◌, ◌⊎◌, ℕ, Bool, false, List, Ok, Contains, AllPairs}
use Rattle.std.proofs.Common.{Less}
use Rattle.std.specs.Ordering.{nat_cmp}
use Rattle.std.specs.Cmp.Lexicographic.{slice_cmp}
use Rattle.std.specs.Str.{chars}
use Rattle.go_path_core.specs.text_core.Text.{exported, SameId}
use Rattle.go_path_core.specs.text_core.declared.name.Name.{Name}
use Rattle.go_embed_core.specs.table_core.Entries.{EntryLook}
use Rattle.go_term_core.specs.Terms.{Term}
use Rattle.go_embed_core.specs.Owners.{Found}
use Rattle.go_embed_core.specs.OwnersShown.{name_shown, member_package_shown}
use Rattle.go_select_core.specs.declared.levels.search.Selected.{Selected}
use Rattle.go_select_core.specs.levels.Selectors.{IsSelectorAnswer, IsDenoted}

-- the name a of the package p comes before the name b of the package q, as identifiers: by bytes, and by the packages where the names are
-- equal and not exported
abbrev pub IsIdBefore : List ℕ → List ℕ → List ℕ → List ℕ → Type 0
IsIdBefore a p b q = (slice_cmp nat_cmp a b ≡ Less) ⊎ ((a ≡ b) × (exported (chars a) ≡ false) × (slice_cmp nat_cmp p q ≡ Less))

abbrev pub IsSelectedBefore : Selected → Selected → Type 0
IsSelectedBefore a b = IsIdBefore (name_shown a.member) (member_package_shown a.member) (name_shown b.member) (member_package_shown b.member)

-- all that selectors denote behind an operand of a type, whatever package they are written in
pub record AreSelections (look : EntryLook) (t : Term) (found : List Selected) : Type 0 where
  -- in order, so that no identifier stands there twice
  pub rising : AllPairs IsSelectedBefore found
  pub sound : (s : Selected) → Contains found s → IsSelectorAnswer look t (name_shown s.member) (member_package_shown s.member) (Ok s)
  -- in each package where the identifier may be written
  pub seen : (s : Selected) → Contains found s → (name from : List ℕ) → SameId (name_shown s.member) (member_package_shown s.member) name from → IsSelectorAnswer look t name from (Ok s)
  pub whole : (name from path : List ℕ) (passes : Bool) (f : Found) → IsDenoted look t name from path passes f
      → (s : Selected) × Contains found s × SameId (name_shown s.member) (member_package_shown s.member) name from

-- the names that a selector answers behind an operand of a type, where it is written in a package, each with its answer, in order of their
-- bytes
pub record IsListing (look : EntryLook) (t : Term) (from : List ℕ) (names : List (Name × Selected)) : Type 0 where
  -- in order, so that no name stands there twice
  pub rising : AllPairs (λ a b. slice_cmp nat_cmp a.0 b.0 ≡ Less) names
  pub sound : (n : Name × Selected) → Contains names n → IsSelectorAnswer look t n.0 from (Ok n.1)
  pub whole : (name path : List ℕ) (passes : Bool) (f : Found) → IsDenoted look t name from path passes f → (n : Name × Selected) × Contains names n × (n.0 ≡ name)
