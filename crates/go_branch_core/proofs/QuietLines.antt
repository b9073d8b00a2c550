-- A loop over lines that asks whether each declares nothing.
use Rattle.std.proofs.Common.{◌≡◌, ℕ, ◌+◌, ◌<◌, ◌≤◌, Bool, true, ◌&&◌, List, ◌∷◌, length, get_or, drop, ap, sym, ◌∙◌}
use Rattle.std.proofs.lemmas.List.{drop_more, drop_all}
use Rattle.go_tree_nodes.specs.declared.stmts.«Line» as declared_line
use Rattle.go_tree_nodes.specs.Shapes.{shape_stmt, lines_of}
use Rattle.go_branch_core.specs.Quiet.{is_quiet, are_quiet}

at_line : (ls : List declared_line.Line) (i : ℕ) (l : declared_line.Line) → i < length ls → l ≡ get_or ls i l → drop i ls ≡ l ∷ drop (i + 1) ls
at_line ls i l h is = drop_more ls i l h ∙ ap (λ y. y ∷ drop (i + 1) ls) (sym is)

pub quiet_here : (all : Bool) (ls : List declared_line.Line) (i : ℕ) (l : declared_line.Line) (b : Bool) → i < length ls → l ≡ get_or ls i l → all ≡ are_quiet (lines_of (drop i ls)) → b ≡ is_quiet (shape_stmt l.stmt) → all ≡ (b && are_quiet (lines_of (drop (i + 1) ls)))
quiet_here all ls i l b h is rest here = rest ∙ (ap (λ d. are_quiet (lines_of d)) (at_line ls i l h is) ∙ ap (λ c. c && are_quiet (lines_of (drop (i + 1) ls))) (sym here))

pub none_left : (all : Bool) (ls : List declared_line.Line) (i : ℕ) → length ls ≤ i → all ≡ are_quiet (lines_of (drop i ls)) → all ≡ true
none_left all ls i h rest = rest ∙ ap (λ d. are_quiet (lines_of d)) (drop_all i ls h)
