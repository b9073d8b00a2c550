use Rattle.std.proofs.Common.{All, List, Option, subst}
use Rattle.go_block_core.specs.graph_core.Workspaces.{AreAllRead}
use Rattle.go_package_core.specs.package_part.Parts.{PartModel}
use Rattle.go_batch_core.specs.Steadiness.{WasAt}
use Rattle.go_batch_core.proofs.Slots.{if_some_of}
use Rattle.go_batch_core.proofs.Steadied.{read_in}
use Rattle.go_batch_core.proofs.steady.earlier_at.Goals as goal

pub returns-clause-was : goal.returns-clause-was
returns-clause-was c = if_some_of _ c.part_at.result c.part_at.ensures (λ p was. subst (λ (l : List (Option PartModel)). WasAt l c.args.number p.now) c.parts.ensures was)

pub returns-clause-read : goal.returns-clause-read
returns-clause-read c =
    let s = c.args.snapshot.now in
    let read = subst (All AreAllRead) c.sources.ensures.value c.packages-packages.ensures.read in
    if_some_of _ c.part_at.result c.part_at.ensures
    (λ p was. read_in s.sources s.parts c.args.number p.now read c.sources.ensures.whole.made (subst (λ (l : List (Option PartModel)). WasAt l c.args.number p.now) c.parts.ensures was))
