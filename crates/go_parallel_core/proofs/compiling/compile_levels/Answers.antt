use Rattle.std.proofs.Common.{List, refl, sym, subst, ◌∙◌, Option}
use Rattle.go_package_core.specs.package_part.Parts.{PartModel}
use Rattle.go_parallel_core.specs.Seen.{AreSeers}
use Rattle.go_parallel_core.proofs.Seeing.{seers_none}
use Rattle.go_parallel_core.proofs.compiling.compile_levels.Goals as goal

pub loop-level-init : goal.loop-level-init
loop-level-init g c = (refl, seers_none c.args.batch.now.parts (record { made = c.new.result; resting = c.new-2.result }) c.requires c.new.ensures.items c.new-2.ensures.items)

pub compile_level-requires-clause-seers : goal.compile_level-requires-clause-seers
compile_level-requires-clause-seers g c = subst (λ (ps : List (Option PartModel)). AreSeers ps c.loop-level.seers) (sym c.in_ok-level.ensures.parts) c.loop-level.invariant.1

pub loop-level-preserved : goal.loop-level-preserved
loop-level-preserved g c = (c.in_ok-seers.ensures.sources ∙ (c.in_ok-level.ensures.sources ∙ c.loop-level.invariant.0), c.in_ok-seers.ensures.seers)
