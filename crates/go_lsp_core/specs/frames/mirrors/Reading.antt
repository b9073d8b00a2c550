-- How reads end.
use Rattle.std.specs.Prelude.{◌≡◌, ◌<◌, ◌≤◌, ◌-◌, ℕ, List, [], drop, length, Option, ⊤}
use Rattle.std.specs.Io.KnownBytes.{Keeps}
use Rattle.go_lsp_core.specs.declared.frames.reading.FrameEnd.{FrameEnd}
use Rattle.go_lsp_core.specs.declared.frames.reading.FrameEnd.TheVariants.{Done, Cut, LongHead, NoLength, LongBody, ReadFault, Turns, Memory}
use Rattle.go_lsp_core.specs.frames.Frames.{Took}

-- one read failed
abbrev pub IsFailed : FrameEnd → Option (List ℕ) → Option (List ℕ) → Type 0
IsFailed Done old new = ⊥
IsFailed Cut old new = ⊥
IsFailed LongHead old new = ⊥
IsFailed NoLength old new = ⊥
IsFailed LongBody old new = ⊥
IsFailed ReadFault old new = Keeps old new
IsFailed Turns old new = ⊥
IsFailed Memory old new = Took old new (λ _ _. ⊤)

-- so many bytes did not come
abbrev pub IsShortOf : ℕ → FrameEnd → Option (List ℕ) → Option (List ℕ) → Type 0
IsShortOf wanted Done old new = ⊥
IsShortOf wanted Cut old new = Took old new (λ all left. length all < wanted)
IsShortOf wanted LongHead old new = ⊥
IsShortOf wanted NoLength old new = ⊥
IsShortOf wanted LongBody old new = ⊥
IsShortOf wanted ReadFault old new = Keeps old new
IsShortOf wanted Turns old new = Keeps old new
IsShortOf wanted Memory old new = Took old new (λ _ _. ⊤)

-- passing over bytes ended before all of them came; something is left
abbrev pub IsUnread : FrameEnd → Option (List ℕ) → Option (List ℕ) → Type 0
IsUnread Done old new = ⊥
IsUnread Cut old new = ⊥
IsUnread LongHead old new = ⊥
IsUnread NoLength old new = ⊥
IsUnread LongBody old new = ⊥
IsUnread ReadFault old new = Took old new (λ _ _. ⊤)
IsUnread Turns old new = Took old new (λ _ _. ⊤)
IsUnread Memory old new = Took old new (λ _ _. ⊤)

-- of so many bytes those that are there were taken, and so many are not there
pub record IsPassed (old new : List ℕ) (count left : ℕ) : Type 0 where
  pub few : left ≤ count
  pub there : count - left ≤ length old
  pub rest : new ≡ drop (count - left) old
  pub none : 0 < left → new ≡ []
