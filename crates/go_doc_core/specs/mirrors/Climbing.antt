-- A run of comments that is read upwards, a comment at a time.
use Rattle.std.specs.Prelude.{◌≡◌, ℕ, ◌+◌, ◌-◌, ◌≤◌, ◌<◌, min, Bool, ◌&&◌, cond, nat_eq, nat_le, List, [], ◌∷◌, length, get_or, Option, Some, None, All, Contains}
use Rattle.go_tree_nodes.specs.text_core.declared.span.Span.{Span}
use Rattle.go_tree_nodes.specs.token_core.declared.token.Comment.{Comment}
use Rattle.go_doc_core.specs.declared.runs.Climb.{Climb}
use Rattle.go_doc_core.specs.DocComments.{AreAbove, IsAbove, IsDocRun, begins_line, first_byte, line_of, top_line}

abbrev pub ends_by : Option Span → Span → Span
ends_by None span = span
ends_by (Some below) span = record { start = span.start; end = below.end }

-- the bytes of a run
abbrev pub run_span : List Comment → Option Span
run_span [] = None
run_span (c ∷ cs) = Some (record { start = first_byte c.span.start cs; end = c.span.end })

-- how many line ends stand between the end of a comment and what is below
abbrev pub ends_below : List ℕ → Climb → Comment → ℕ
ends_below text w c = min 2 (w.ends + (line_of text w.low - line_of text c.span.end))

abbrev pub is_taken : List ℕ → ℕ → Climb → Comment → Bool
is_taken text behind w c = nat_eq (ends_below text w c) 1 && nat_le behind c.span.start && begins_line text c.span.start

abbrev pub taken : Climb → Comment → Climb
taken w c = record { found = Some (ends_by w.found c.span); low = c.span.start; ends = 0 }

abbrev pub passed_over : List ℕ → Climb → Comment → Climb
passed_over text w c = record { found = w.found; low = c.span.start; ends = min 2 (ends_below text w c + (line_of text c.span.end - line_of text c.span.start)) }

abbrev pub next_climb : List ℕ → ℕ → Climb → Comment → Climb
next_climb text behind w c = cond (is_taken text behind w c) (taken w c) (passed_over text w c)

-- the bytes of the run above a place
abbrev pub IsRunBetween : List ℕ → List Comment → ℕ → ℕ → Option Span → Type 0
IsRunBetween text comments at behind found = (run : List Comment) × IsDocRun text comments at behind run × (found ≡ run_span run)

-- how far a run above a place has been read: comments from a number on have been read, and none of them is above it
pub record IsClimb (text : List ℕ) (comments : List Comment) (at behind count : ℕ) (w : Climb) : Type 0 where
  pub run : List Comment
  pub each : All (Contains comments) run
  pub above : AreAbove text behind (line_of text at) run
  pub is : w.found ≡ run_span run
  pub more : ℕ
  pub top : top_line text (line_of text at) run ≡ line_of text w.low + more
  pub ends : w.ends ≡ min 2 more
  pub within : w.low ≤ length text
  pub bound : count ≤ length comments
  pub below : (k : ℕ) (d : Comment) → k < count → (get_or comments k d).span.end ≤ w.low
  pub passed : (k : ℕ) (d : Comment) → count ≤ k → k < length comments → ¬ IsAbove text behind (top_line text (line_of text at) run) (get_or comments k d)
