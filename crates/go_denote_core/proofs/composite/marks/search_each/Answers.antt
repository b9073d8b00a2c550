use Rattle.std.proofs.Common.{Bor, ℕ, List, [], map}
use Rattle.go_denote_core.specs.composite.mirrors.Numbers.{searched_mark}
use Rattle.go_denote_core.proofs.CompositeMarking.{made_turn}
use Rattle.go_denote_core.proofs.composite.marks.search_each.Goals as goal

pub loop-name-preserved : goal.loop-name-preserved
loop-name-preserved c =
    let d : Bor (List ℕ) = record { ref_ptr = (0, 0); now = [] } in
    made_turn (searched_mark (map (λ n. n.now) c.args.again.now.keys) (map (λ n. n.now) c.args.fields.now.items)) c.args.names.now c.loop-name.name-index d c.loop-name.all.items c.push.new.self.items c.searched_mark.result
    c.loop-name-test.true c.searched_mark.ensures c.loop-name.invariant c.in_ok-push.ensures.items
