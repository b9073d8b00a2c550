use Rattle.std.proofs.Common.{◌≡◌, ◌+◌, ◌-◌, ◌∙◌, cond, drop, get_or, sym, ap, arith}
use Rattle.go_lsp_core.specs.positions.Positions.{ends_line}
use Rattle.go_lsp_core.proofs.PositionsWalks.{line_found, line_step}
use Rattle.go_lsp_core.proofs.positions.offsets.line_start.Goals as goal
use Rattle.go_lsp_core.proofs.positions.offsets.line_start.Goals.{then-ends_line, else-ends_line}

pub returns-then-left-eq0-clause-start : goal.returns-then-left-eq0-clause-start
returns-then-left-eq0-clause-start c = line_found c.loop-at.at c.loop-at.left _ (drop c.loop-at.at c.args.bytes.now) c.if-left-eq0.true c.loop-at.invariant

pub loop-at-preserved : goal.loop-at-preserved
loop-at-preserved c =
    let xs = c.args.bytes.now in
    let i = c.loop-at.at in
    let left = c.loop-at.left in
    let new : c.if-ends_line.left ≡ cond (ends_line (get_or xs i 0) (drop (i + 1) xs)) (left - 1) left =
    elim c.if-ends_line.branch [
      | then-ends_line w ↦ w.left-is ∙ ap (λ t. cond t (left - 1) left) (sym (sym c.ends_line.ensures ∙ w.if-ends_line.true))
      | else-ends_line w ↦ w.left-is ∙ ap (λ t. cond t (left - 1) left) (sym (sym c.ends_line.ensures ∙ w.if-ends_line.false))
    ] in
    line_step xs i left c.if-ends_line.left c.loop-at-test.true (omega (arith, c.if-left-eq0.false)) new ∙ c.loop-at.invariant
