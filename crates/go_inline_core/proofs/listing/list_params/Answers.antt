use Rattle.std.proofs.Common.{[]}
use Rattle.go_inline_core.proofs.ListLemmas.{adds_step, adds_whole}
use Rattle.go_inline_core.proofs.WalkLemmas.{param_type, params_types_list}
use Rattle.go_inline_core.proofs.listing.list_params.Goals as goal

pub loop-param-preserved : goal.loop-param-preserved
loop-param-preserved c = adds_step param_type [] c.deref-param-items.result.now c.loop-param.param-index c.param-item.result _ _ _ c.loop-param-test.true c.param-item.is c.loop-param.invariant c.list_type.ensures

pub returns : goal.returns
returns c = adds_whole param_type [] c.deref-param-items.result.now c.args.params.now.items c.loop-param.param-index _ _ _ c.deref-param-items.ensures.value c.loop-param-test.false (params_types_list c.args.params.now.items) c.loop-param.invariant
