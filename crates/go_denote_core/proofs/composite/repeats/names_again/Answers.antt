use Rattle.std.proofs.Common.{Bor, ℕ, List, [], map}
use Rattle.go_denote_core.proofs.CompositeNames.{seen_turn, again_turn}
use Rattle.go_denote_core.proofs.composite.repeats.names_again.Goals as goal

pub loop-name-preserved : goal.loop-name-preserved
loop-name-preserved c =
    let d : Bor (List ℕ) = record { ref_ptr = (0, 0); now = [] } in
    let seen = map (λ n. n.now) c.loop-name.seen.keys in
    let again = map (λ n. n.now) c.loop-name.again.keys in
    let seen' = map (λ n. n.now) c.note.new.seen.keys in
    let again' = map (λ n. n.now) c.note.new.again.keys in
    record {
      seen = seen_turn c.args.names.now c.loop-name.name-index d seen again seen' again' c.loop-name-test.true c.loop-name.invariant.seen c.in_ok-note.ensures;
      again = again_turn c.args.names.now c.loop-name.name-index d seen again seen' again' c.loop-name-test.true c.loop-name.invariant.seen c.loop-name.invariant.again c.in_ok-note.ensures;
    }
