use Rattle.std.proofs.Common.{◌≡◌, ◌<◌, length, ap, refl, arith}
use Rattle.go_declared_core.proofs.SameNames.{one_more}
use Rattle.go_declared_core.proofs.seen.SeenNames.is_same.Goals as goal

pub loop-place-preserved : goal.loop-place-preserved
loop-place-preserved c =
    let place = c.loop-place.place in
    let own_size : length c.self.inside.names.names ≡ length c.args.self.now = ap length c.self.view_is in
    let other_size : length c.other.inside.names.names ≡ length c.args.other.now = ap length c.other.view_is in
    let here : place < length c.args.self.now = omega (arith, c.loop-place-test.true, c.len-place-end.ensures, own_size) in
    let there : place < length c.args.other.now = omega (arith, c.loop-place-test.true, c.len-place-end.ensures, c.len.ensures, c.if-len.false, c.len-2.ensures, other_size) in
    one_more c.args.self.now c.args.other.now place here there (c.if-not-is_same_at.ensures.0 refl) c.loop-place.invariant
