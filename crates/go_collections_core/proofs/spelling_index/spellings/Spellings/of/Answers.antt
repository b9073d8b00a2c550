use Rattle.std.proofs.Common.{Bor, ℕ, List, [], map, ap}
use Rattle.go_collections_core.specs.spelling_index.Spelled.{joined, places_of, spelled_from, spelled_in}
use Rattle.go_collections_core.proofs.SpellingIndexInserting.{name_turn, names_end}
use Rattle.go_collections_core.proofs.spelling_index.spellings.Spellings.of.Goals as goal

pub loop-at-init : goal.loop-at-init
loop-at-init c = λ n. ap (λ ps. joined (spelled_in ps n) (spelled_from 0 (map (λ m. m.now) c.args.names.now) n)) c.new-spellings.ensures

pub loop-at-preserved : goal.loop-at-preserved
loop-at-preserved c =
    let d : Bor (List ℕ) = record { ref_ptr = (0, 0); now = [] } in
    name_turn c.args.names.now c.loop-at.at d (places_of c.loop-at.spellings) (places_of c.note.new.self) c.loop-at-test.true c.loop-at.invariant c.in_ok-note.ensures

pub returns : goal.returns
returns c = names_end c.args.names.now c.loop-at.at (places_of c.loop-at.spellings) c.loop-at-test.false c.loop-at.invariant
