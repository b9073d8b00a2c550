use Rattle.go_denote_core.specs.Arguments.{argument_of_result}
use Rattle.go_denote_core.proofs.Turns.{pushed_more}
use Rattle.go_denote_core.proofs.arguments.results_of.Goals as goal

pub loop-at-preserved : goal.loop-at-preserved
loop-at-preserved g c =
    pushed_more argument_of_result ((g.E.Names.names c.args.env.now).results c.args.signature.now) c.loop-at.at c.result_at.result c.argument_of_result.result c.loop-at.all.items c.push.new.self.items
    c.result_at.ensures c.loop-at.invariant c.argument_of_result.ensures c.in_ok-push.ensures.items
