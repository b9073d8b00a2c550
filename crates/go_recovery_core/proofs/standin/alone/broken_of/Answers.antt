use Rattle.go_recovery_core.proofs.StandinBroken.{all_noted, noted}
use Rattle.go_recovery_core.proofs.standin.alone.broken_of.Goals as goal

pub loop-part-preserved : goal.loop-part-preserved
loop-part-preserved c =
    noted c.args.bytes.now c.args.parts.now c.loop-part.part-index _ c.loop-part.broken.items c.note_broken.new.broken.items c.loop-part-test.true c.in_ok-note_broken.ensures c.loop-part.invariant

pub returns : goal.returns
returns c = all_noted c.args.bytes.now c.args.parts.now c.loop-part.broken.items c.loop-part.part-index c.loop-part-test.false c.loop-part.invariant
