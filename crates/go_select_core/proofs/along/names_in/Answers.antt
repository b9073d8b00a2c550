use Rattle.std.proofs.Common.{map}
use Rattle.go_embed_core.specs.table_core.Entries.{find_entry}
use Rattle.go_term_core.specs.Shapes.{shape_found}
use Rattle.go_select_core.proofs.AlongPaths.{along_step, along_end}
use Rattle.go_select_core.proofs.along.names_in.Goals as goal

pub loop-step-preserved : goal.loop-step-preserved
loop-step-preserved c =
    along_step (find_entry c.args.table.now) (shape_found c.loop-step.at) (shape_found c.in_ok-at.at) c.args.steps.now c.loop-step.step-index
    (map (λ n. n.now) c.loop-step.names.items) (map (λ n. n.now) c.pass.new.names.items) _ c.loop-step-test.true c.in_ok-at.ensures.names c.in_ok-at.ensures.at c.loop-step.invariant

pub returns : goal.returns
returns c = along_end (find_entry c.args.table.now) (shape_found c.loop-step.at) c.args.steps.now c.loop-step.step-index (map (λ n. n.now) c.loop-step.names.items) _ c.loop-step-test.false c.loop-step.invariant
