use Rattle.std.proofs.Common.{Bor, ℕ, List, [], map}
use Rattle.go_denote_core.specs.composite.Marks.{type_fields}
use Rattle.go_denote_core.specs.composite.mirrors.Numbers.{asked_mark}
use Rattle.go_denote_core.proofs.CompositeMarking.{made_turn}
use Rattle.go_denote_core.proofs.composite.marks.ask_each.Goals as goal

pub loop-name-preserved : goal.loop-name-preserved
loop-name-preserved g c =
    let d : Bor (List ℕ) = record { ref_ptr = (0, 0); now = [] } in
    made_turn (asked_mark (map (λ n. n.now) c.args.again.now.keys) (type_fields (g.E.Literals.literals c.args.env.now) c.args.t.now)) c.args.names.now c.loop-name.name-index d c.loop-name.all.items c.push.new.self.items c.in_ok-mark.mark
    c.loop-name-test.true c.in_ok-mark.ensures c.loop-name.invariant c.in_ok-push.ensures.items
