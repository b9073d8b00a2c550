use Rattle.std.proofs.Common.{◌≡◌, ◌+◌, ◌≤◌, ◌<◌, ◌∙◌, ℕ, zero, suc, List, length, sym, ap, subst, arith}
use Rattle.go_lsp_core.specs.positions.Positions.{offset_at, units}
use Rattle.go_lsp_core.specs.positions.mirrors.Starts.{IsStart, start_at, starts_from}
use Rattle.go_lsp_core.proofs.PositionsLineStarts.{no_start, start_is}
use Rattle.go_lsp_core.proofs.positions.starts.offset_by.Goals as goal

here : (units : ℕ → ℕ) (bs starts : List ℕ) (line start : ℕ) → starts ≡ starts_from 0 bs → line ≤ length starts → start ≡ start_at starts line → IsStart units bs line start
here units bs starts line start e le is =
    subst (IsStart units bs line) (sym (is ∙ ap (λ xs. start_at xs line) e)) (start_is units bs line (subst (λ xs. line ≤ length xs) e le))

none : (units : ℕ → ℕ) (bs starts : List ℕ) (line character : ℕ) → starts ≡ starts_from 0 bs → length starts < line → length bs ≡ offset_at units bs line character
none units bs starts zero character e lt = absurd (omega (arith, lt))
none units bs starts (suc k) character e lt = sym (no_start units 0 bs character k (subst (λ xs. length xs ≤ k) e (omega (arith, lt))))

pub returns-then-position-starts : goal.returns-then-position-starts
returns-then-position-starts c = none (units c.args.encoding) c.args.bytes.now c.args.starts.now c.args.position.line c.args.position.character c.requires c.if-position-starts.true

pub split_at-requires : goal.split_at-requires
split_at-requires c = (here (units c.args.encoding) c.args.bytes.now c.args.starts.now c.args.position.line c.start_of-start.result c.requires c.if-position-starts.false c.start_of-start.ensures).within

pub returns : goal.returns
returns c =
    let w = units c.args.encoding in
    let start = here w c.args.bytes.now c.args.starts.now c.args.position.line c.start_of-start.result c.requires c.if-position-starts.false c.start_of-start.ensures in
    ap (λ k. c.start_of-start.result + k) (c.reach.ensures.reach ∙ ap (λ xs. offset_at w xs 0 c.args.position.character) c.split_at.ensures.back) ∙ sym (start.offset c.args.position.character)
