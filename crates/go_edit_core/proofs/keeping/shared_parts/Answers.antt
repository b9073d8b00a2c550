use Rattle.go_edit_core.proofs.KeptParts.{all_shared, none_shared}
use Rattle.go_edit_core.proofs.keeping.shared_parts.Goals as goal

pub loop-number-init : goal.loop-number-init
loop-number-init c = none_shared c.args.parts.now c.in_ok-shared.shared c.in_ok-shared.ensures

pub returns : goal.returns
returns c = all_shared c.args.parts.now c.loop-number.shared c.loop-number.number c.loop-number-test.false c.loop-number.invariant
