use Rattle.go_summary_core.specs.Summaries.{IsOfOne}
use Rattle.go_summary_core.proofs.Places.{picked_are, picked_own}
use Rattle.go_summary_core.proofs.reached.ReachedSummaries.new.Goals as goal

pub invariant_of-result : goal.invariant_of-result
invariant_of-result c = record { below = c.requires; own = picked_own c.args.told IsOfOne c.len-count.ensures.own c.args.places.items c.requires }

pub returns : goal.returns
returns c = picked_are c.args.told c.args.places.items c.requires
