use Rattle.std.proofs.Common.{ap, ◌∙◌}
use Rattle.go_term_core.specs.Shapes.{line_shapes}
use Rattle.go_embed_core.specs.mirrors.Tallies.{together, hits_shown, field_tally}
use Rattle.go_embed_core.proofs.Counting.{tally_step, tally_end}
use Rattle.go_embed_core.proofs.member.field_hits.Goals as goal

pub loop-field-preserved : goal.loop-field-preserved
loop-field-preserved c = tally_step (field_tally (line_shapes c.args.lines.now) c.args.path.now c.args.name.now c.args.from.now) c.args.fields.now c.loop-field.field-index c.field-item.result _ _ _ c.loop-field-test.true c.field-item.is (c.and-hits.ensures ∙ ap (together (hits_shown c.loop-field.hits)) c.field_hit.ensures) c.loop-field.invariant

pub returns : goal.returns
returns c = tally_end (field_tally (line_shapes c.args.lines.now) c.args.path.now c.args.name.now c.args.from.now) c.args.fields.now c.loop-field.field-index _ _ c.loop-field-test.false c.loop-field.invariant
