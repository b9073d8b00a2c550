use Rattle.std.proofs.Common.{Option, [], subst}
use Rattle.std.specs.Prelude.{IfSome}
use Rattle.std.proofs.lemmas.List.Elements.{All-pop}
use Rattle.go_parallel_core.specs.Seen.{Rests}
use Rattle.go_parallel_core.specs.declared.seers.Seer.{Seer}
use Rattle.go_parallel_core.proofs.Seeing.{rests_none}
use Rattle.go_parallel_core.proofs.seers.next_seer.Goals as goal

pub returns-in-Some-clause-next : goal.returns-in-Some-clause-next
returns-in-Some-clause-next c =
    let P = Rests c.args.batch.now.parts c.args.made.now [] in
    subst (λ (o : Option Seer). IfSome o P) c.in-Some.is (All-pop P c.args.resting.now.items c.pop.new.self.items c.pop.result c.pop.ensures.items c.requires).1

pub returns-in-Some-clause-left : goal.returns-in-Some-clause-left
returns-in-Some-clause-left c = (All-pop (Rests c.args.batch.now.parts c.args.made.now []) c.args.resting.now.items c.pop.new.self.items c.pop.result c.pop.ensures.items c.requires).0
