use Rattle.std.proofs.Common.{◌∙◌}
use Rattle.go_machine_core.proofs.LinkReaching.{back_in_range, marks_reach}
use Rattle.go_machine_core.proofs.link.reached.reached_from.Goals as goal

pub leading_to-requires-clause-edges : goal.leading_to-requires-clause-edges
leading_to-requires-clause-edges c = back_in_range c.args.edges.now c.deref.result.now c.args.count (c.deref.ensures.value ∙ c.in_ok-back.ensures) c.requires.edges

pub returns-clause-marks : goal.returns-clause-marks
returns-clause-marks c = marks_reach c.args.edges.now c.deref.result.now c.args.from c.in_ok-marks.marks.items (c.deref.ensures.value ∙ c.in_ok-back.ensures) c.in_ok-marks.ensures.marks
