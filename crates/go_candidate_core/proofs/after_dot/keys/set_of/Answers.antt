use Rattle.std.proofs.Common.{Bor, ℕ, List, [], map}
use Rattle.go_candidate_core.proofs.AfterDotKeyed.{set_turn}
use Rattle.go_candidate_core.proofs.after_dot.keys.set_of.Goals as goal

pub loop-name-preserved : goal.loop-name-preserved
loop-name-preserved c =
    let d : Bor (List ℕ) = record { ref_ptr = (0, 0); now = [] } in
    set_turn c.args.names.now c.loop-name.name-index d (map (λ n. n.now) c.loop-name.set.keys) (map (λ n. n.now) c.insert.new.names.keys) c.loop-name-test.true c.loop-name.invariant c.in_ok-insert.ensures.seen
