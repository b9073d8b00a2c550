use Rattle.std.proofs.Common.{◌≤◌, length, refl, subst}
use Rattle.go_folder_core.specs.mirrors.Counting.{at}
use Rattle.go_folder_core.proofs.Counting.{bounded_front, counted_position}
use Rattle.go_folder_core.proofs.places.position_from.Goals as goal

pub loop-byte-init : goal.loop-byte-init
loop-byte-init c =
    let far = bounded_front c.args.bytes.now c.args.counted c.args.at c.requires.within c.requires.counted in
    record { place = refl; line = far.0; column = far.1 }

pub returns : goal.returns
returns c = counted_position c.args.bytes.now c.args.counted c.loop-byte.byte-index c.args.at (at c.loop-byte.line c.loop-byte.column) c.requires.counted (subst (λ xs. length xs ≤ c.loop-byte.byte-index) c.split_at.ensures.back c.loop-byte-test.false) c.loop-byte.invariant.place
