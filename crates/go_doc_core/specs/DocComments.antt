-- The doc comment of what stands at a place of a text, by lines.
use Rattle.std.specs.Prelude.{◌≡◌, ℕ, zero, suc, ◌+◌, ◌≤◌, Bool, true, ◌&&◌, ◌||◌, nat_eq, List, [], ◌∷◌, take, get_or, count_by, slice_range, All, Contains, ⊤}
use Rattle.go_tree_nodes.specs.token_core.declared.token.Comment.{Comment}

-- the line of an offset, from 0: how many line ends stand before it
abbrev pub line_of : List ℕ → ℕ → ℕ
line_of text n = count_by (λ b. nat_eq b 10) (take n text)

-- space, tab or carriage return
abbrev pub is_blank_byte : ℕ → Bool
is_blank_byte b = nat_eq b 32 || nat_eq b 9 || nat_eq b 13

-- a byte order mark stands at the start
abbrev pub has_mark : List ℕ → Bool
has_mark text = nat_eq (get_or text 0 0) 239 && nat_eq (get_or text 1 0) 187 && nat_eq (get_or text 2 0) 191

-- white space alone stands before an offset on its line, or a byte order mark at the start of the text
abbrev pub begins_line : List ℕ → ℕ → Bool
begins_line text zero = true
begins_line text (suc n) = nat_eq (get_or text n 0) 10 || (is_blank_byte (get_or text n 0) && begins_line text n) || (nat_eq n 2 && has_mark text)

-- a comment begins its line, at an offset or behind it, and ends on the line above this line
abbrev pub IsAbove : List ℕ → ℕ → ℕ → Comment → Type 0
IsAbove text behind line c = (line_of text c.span.end + 1 ≡ line) × (begins_line text c.span.start ≡ true) × (behind ≤ c.span.start)

-- a run of comments, read upwards: the first ends on the line above this line, and each other one on the line above the one before
abbrev pub AreAbove : List ℕ → ℕ → ℕ → List Comment → Type 0
AreAbove text behind line [] = ⊤
AreAbove text behind line (c ∷ cs) = IsAbove text behind line c × AreAbove text behind (line_of text c.span.start) cs

-- the first line of a run above this line: that of its uppermost comment, and this line where there is none
abbrev pub top_line : List ℕ → ℕ → List Comment → ℕ
top_line text line [] = line
top_line text line (c ∷ cs) = top_line text (line_of text c.span.start) cs

-- the run that ends on the line above an offset's, of those comments of the text that begin at another offset or behind it: none of the text's
-- comments is above it
pub record IsDocRun (text : List ℕ) (comments : List Comment) (at behind : ℕ) (run : List Comment) : Type 0 where
  pub each : All (Contains comments) run
  pub above : AreAbove text behind (line_of text at) run
  pub whole : (c : Comment) → Contains comments c → ¬ IsAbove text behind (top_line text (line_of text at) run) c

-- the first byte of a run, from that of its lowest comment up
abbrev pub first_byte : ℕ → List Comment → ℕ
first_byte n [] = n
first_byte n (c ∷ cs) = first_byte c.span.start cs

-- the text of a run: from the first byte of its uppermost comment to the last byte of its lowest one
abbrev pub run_text : List ℕ → List Comment → List ℕ
run_text text [] = []
run_text text (c ∷ cs) = slice_range text (first_byte c.span.start cs) c.span.end

-- the doc comment of what stands at an offset
abbrev pub IsDocComment : List ℕ → List Comment → ℕ → ℕ → List ℕ → Type 0
IsDocComment text comments at behind doc = (run : List Comment) × IsDocRun text comments at behind run × (doc ≡ run_text text run)
