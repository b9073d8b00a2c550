use Rattle.std.proofs.Common.{◌&&◌, ◌∙◌, ap}
use Rattle.go_recovery_core.specs.standin.Outlines.{is_code, is_start}
use Rattle.go_recovery_core.proofs.StandinWords.{starts_step}
use Rattle.go_recovery_core.proofs.standin.outline.starts_in.Goals as goal

pub loop-at-preserved : goal.loop-at-preserved
loop-at-preserved c =
    starts_step c.args.bytes.now c.loop-at.at c.loop-at.state c.loop-at.first c.starts_here.result c.loop-at.starts.items c.note_start.new.starts.items c.after-state.result c.loop-at-test.true
    (c.starts_here.ensures ∙ ap (λ l. (is_code c.loop-at.state && c.loop-at.first) && is_start l) c.split_at.ensures.back) c.in_ok-note_start.ensures c.after-state.ensures ∙ c.loop-at.invariant
