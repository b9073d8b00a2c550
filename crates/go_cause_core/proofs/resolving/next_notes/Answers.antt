use Rattle.std.proofs.Common.{arith}
use Rattle.go_cause_core.proofs.Directly.{next_more}
use Rattle.go_cause_core.proofs.Growing.{longer}
use Rattle.go_cause_core.proofs.resolving.next_notes.Goals as goal

pub returns : goal.returns
returns c = λ i j h. (let lt = c.loop-number.invariant.each i j h in let len = c.loop-number.invariant.len in omega (arith, lt, len))
