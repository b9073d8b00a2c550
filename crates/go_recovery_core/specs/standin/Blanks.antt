-- Blanks in the place of parts of a text.
use Rattle.std.specs.Prelude.{◌≡◌, ◌==◌, ◌&&◌, ◌||◌, ◌<◌, ℕ, suc, Bool, true, false, nat_le, nat_lt, List, [], ◌∷◌, length, slice_index, if◌then◌else◌}
use Rattle.go_recovery_core.specs.declared.standin.part.Interval.{Interval}

-- a space, or the end of a line as it is
abbrev pub blank : ℕ → ℕ
blank b = if (b == 10) || (b == 13) then b else 32

-- an offset lies in the part, and in one of the parts
abbrev pub is_in : Interval → ℕ → Bool
is_in part at = nat_le part.start at && nat_lt at part.end

abbrev pub is_in_any : List Interval → ℕ → Bool
is_in_any [] at = false
is_in_any (part ∷ parts) at = is_in part at || is_in_any parts at

-- bytes that stand at an offset, with blanks where they lie in one of the parts
abbrev pub blanked_from : List Interval → ℕ → List ℕ → List ℕ
blanked_from parts at [] = []
blanked_from parts at (b ∷ bs) = (if is_in_any parts at then blank b else b) ∷ blanked_from parts (suc at) bs

-- the text with blanks in the place of the parts
abbrev pub all_blanked : List Interval → List ℕ → List ℕ
all_blanked parts text = blanked_from parts 0 text

-- a text with blanks is as long as the text, is the same outside the parts and blank within them, and has the same ends of lines
pub record IsAlike (parts : List Interval) (text other : List ℕ) : Type 0 where
  pub long : length other ≡ length text
  pub outside : (k : ℕ) → is_in_any parts k ≡ false → slice_index other k ≡ slice_index text k
  pub within : (k : ℕ) → k < length text → is_in_any parts k ≡ true → slice_index other k ≡ blank (slice_index text k)
  pub newlines : (k : ℕ) → (slice_index other k == 10) ≡ (slice_index text k == 10)
  pub returns : (k : ℕ) → (slice_index other k == 13) ≡ (slice_index text k == 13)

abbrev pub BlankedIsAlike : Type 0
BlankedIsAlike = (parts : List Interval) (text : List ℕ) → IsAlike parts text (all_blanked parts text)
