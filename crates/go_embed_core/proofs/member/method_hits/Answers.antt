use Rattle.std.proofs.Common.{ap, ◌∙◌}
use Rattle.go_embed_core.specs.mirrors.Tallies.{together, hits_shown, method_tally}
use Rattle.go_embed_core.proofs.Counting.{tally_step, tally_end}
use Rattle.go_embed_core.proofs.member.method_hits.Goals as goal

pub loop-method-preserved : goal.loop-method-preserved
loop-method-preserved c = tally_step (method_tally c.args.path.now c.args.name.now c.args.from.now) c.args.methods.now c.loop-method.method-index c.method-item.result _ _ _ c.loop-method-test.true c.method-item.is (c.and-hits.ensures ∙ ap (together (hits_shown c.loop-method.hits)) c.method_hit.ensures) c.loop-method.invariant

pub returns : goal.returns
returns c = tally_end (method_tally c.args.path.now c.args.name.now c.args.from.now) c.args.methods.now c.loop-method.method-index _ _ c.loop-method-test.false c.loop-method.invariant
