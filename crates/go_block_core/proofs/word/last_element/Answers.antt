use Rattle.std.proofs.Common.{arith}
use Rattle.go_block_core.proofs.WordLemmas.{element_is, none_from_less}
use Rattle.go_block_core.proofs.word.last_element.Goals as goal
use Rattle.go_block_core.proofs.word.last_element.Goals.{then-loop-start-test+else-text-start-ne47, else-loop-start-test}

pub returns : goal.returns
returns c = elim c.loop-start-test.branch [
  | then-loop-start-test+else-text-start-ne47 w ↦ element_is c.args.text.now c.loop-start.start c.loop-start.invariant.0 c.loop-start.invariant.1 (λ _. w.if-text-start-ne47.false)
  | else-loop-start-test w ↦ element_is c.args.text.now c.loop-start.start c.loop-start.invariant.0 c.loop-start.invariant.1 (λ some. absurd (omega arith))
]

pub loop-start-preserved : goal.loop-start-preserved
loop-start-preserved c = (omega arith, none_from_less c.args.text.now c.loop-start.start c.loop-start-test.true c.if-text-start-ne47.true c.loop-start.invariant.1)
