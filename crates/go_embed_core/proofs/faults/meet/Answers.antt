use Rattle.std.proofs.Common.{not, ap, ◌∙◌}
use Rattle.std.proofs.Math.Bool.{not-not}
use Rattle.go_term_core.specs.settling.Settled.{is_among_names}
use Rattle.go_embed_core.proofs.faults.meet.Goals as goal

pub returns-clause-before : goal.returns-clause-before
returns-clause-before c = ap not c.in_ok-is_new.ensures.added ∙ (not-not (is_among_names c.args.passed.now c.as_str.result.now) ∙ ap (is_among_names c.args.passed.now) c.as_str.ensures)
