use Rattle.std.proofs.Common.{Bor, ℕ, List, [], map}
use Rattle.go_denote_core.specs.composite.mirrors.Numbers.{mark_by}
use Rattle.go_denote_core.proofs.CompositeMarking.{made_turn}
use Rattle.go_denote_core.proofs.composite.marks.mark_each.Goals as goal

pub loop-name-preserved : goal.loop-name-preserved
loop-name-preserved c =
    let d : Bor (List ℕ) = record { ref_ptr = (0, 0); now = [] } in
    made_turn (mark_by (map (λ n. n.now) c.args.again.now.keys) c.args.numbers.now.entries) c.args.names.now c.loop-name.name-index d c.loop-name.all.items c.push.new.self.items c.mark_of.result
    c.loop-name-test.true c.mark_of.ensures c.loop-name.invariant c.in_ok-push.ensures.items
