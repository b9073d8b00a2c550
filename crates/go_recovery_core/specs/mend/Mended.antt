-- Changes of a text.
use Rattle.std.specs.Prelude.{ℕ, Bool, ◌&&◌, nat_le, List, ◌++◌, codes, take, drop, if◌then◌else◌}
use Rattle.go_tree_nodes.specs.text_core.Boundaries.{is_boundary_of}
use Rattle.go_recovery_core.specs.declared.mend.mending.Mark.{Mark}
use Rattle.go_recovery_core.specs.declared.mend.mending.Mark.TheVariants as marks
use Rattle.go_recovery_core.specs.declared.mend.mending.Mending.{Mending}
use Rattle.go_recovery_core.specs.declared.mend.mending.Mending.TheVariants as mendings

abbrev pub mark_text : Mark → List ℕ
mark_text marks.OpenParen = codes "("
mark_text marks.CloseParen = codes ")"
mark_text marks.OpenBrace = codes "{"
mark_text marks.CloseBrace = codes "}"
mark_text marks.Comma = codes ","
mark_text marks.Equal = codes "="

-- two offsets are in order and lie between characters of the text
abbrev pub is_cut : List ℕ → ℕ → ℕ → Bool
is_cut text from to = nat_le from to && is_boundary_of text from && is_boundary_of text to

-- the text with other bytes in the place of those between two offsets; as it is where it cannot be cut there
abbrev pub spliced : List ℕ → ℕ → ℕ → List ℕ → List ℕ
spliced text from to new = if is_cut text from to then take from text ++ (new ++ drop to text) else text

-- the text with a change
abbrev pub mended_text : List ℕ → Mending → List ℕ
mended_text text (mendings.PutIn mark at) = spliced text at at (mark_text mark)
mended_text text (mendings.TakeAway from to) = spliced text from to (codes "")
