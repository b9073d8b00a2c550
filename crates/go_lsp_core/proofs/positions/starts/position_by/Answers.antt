use Rattle.std.proofs.Common.{◌≡◌, ◌-◌, ◌<◌, ◌≤◌, ◌^◌, ◌∙◌, ℕ, List, length, drop, get_or, sym, ap, subst, arith}
use Rattle.std.specs.Prelude.{count_by, nat_le}
use Rattle.std.specs.List.Sorted.{IsNonDecreasingBy}
use Rattle.go_lsp_core.specs.positions.Positions.{at, position_at, units}
use Rattle.go_lsp_core.specs.positions.mirrors.Starts.{IsStart, start_at, starts_from}
use Rattle.go_lsp_core.specs.positions.mirrors.Walks.{total}
use Rattle.go_lsp_core.proofs.PositionsLineStarts.{line_counted, place_found, start_before, start_is, starts_rise}
use Rattle.go_lsp_core.proofs.PositionsWalks.{total_drop}
use Rattle.go_lsp_core.proofs.positions.starts.position_by.Goals as goal

here : (units : ℕ → ℕ) (bs starts : List ℕ) (line start : ℕ) → starts ≡ starts_from 0 bs → line ≤ length starts → start ≡ start_at starts line → IsStart units bs line start
here units bs starts line start e le is =
    subst (IsStart units bs line) (sym (is ∙ ap (λ xs. start_at xs line) e)) (start_is units bs line (subst (λ xs. line ≤ length xs) e le))

counted : (units : ℕ → ℕ) (bs starts : List ℕ) (line o : ℕ) → starts ≡ starts_from 0 bs → line ≡ count_by (λ s. nat_le s o) starts → line ≡ (position_at units bs o).line
counted units bs starts line o e h = h ∙ (ap (count_by (λ s. nat_le s o)) e ∙ line_counted units 0 o o bs (omega arith))

-- what is found of the line
found : (units : ℕ → ℕ) (bs starts : List ℕ) (line start o character : ℕ) → starts ≡ starts_from 0 bs → line ≤ length starts → start ≡ start_at starts line → ((i : ℕ) → i < line → get_or starts i 0 ≤ o)
    → line ≡ count_by (λ s. nat_le s o) starts
    → ((position_at units (drop start bs) (o - start)).line ≡ 0) × (character ≡ (position_at units (drop start bs) (o - start)).character → at line character ≡ position_at units bs o)
found units bs starts line start o character e le is before h =
    place_found units bs o start line character (here units bs starts line start e le is) (subst (λ s. s ≤ o) (sym is) (start_before o starts line before)) (counted units bs starts line o e h)

pub line_of-line-requires : goal.line_of-line-requires
line_of-line-requires c = subst (IsNonDecreasingBy (λ s. s)) (sym c.requires.starts) (starts_rise 0 c.args.bytes.now)

pub split_at-requires : goal.split_at-requires
split_at-requires c = (here (units c.args.encoding) c.args.bytes.now c.args.starts.now c.line_of-line.result c.start_of-start.result c.requires.starts c.line_of-line.ensures.bound c.start_of-start.ensures).within

pub overflow_sub-offset : goal.overflow_sub-offset
overflow_sub-offset c = subst (λ s. s ≤ c.args.offset) (sym c.start_of-start.ensures) (start_before c.args.offset c.args.starts.now c.line_of-line.result c.line_of-line.ensures.before)

pub position_in-within-requires : goal.position_in-within-requires
position_in-within-requires c =
    let w = units c.args.encoding in
    subst (λ xs. total w xs < 2 ^ 64) (sym c.split_at.ensures.back) (let few = total_drop w c.start_of-start.result c.args.bytes.now in omega (arith, few, c.requires.fits))

pub returns : goal.returns
returns c =
    let w = units c.args.encoding in
    (found w c.args.bytes.now c.args.starts.now c.line_of-line.result c.start_of-start.result c.args.offset c.position_in-within.result.character c.requires.starts c.line_of-line.ensures.bound c.start_of-start.ensures c.line_of-line.ensures.before c.line_of-line.ensures.count).1
    (ap (λ p. p.character) c.position_in-within.ensures ∙ ap (λ xs. (position_at w xs (c.args.offset - c.start_of-start.result)).character) c.split_at.ensures.back)
