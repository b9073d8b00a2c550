use Rattle.std.proofs.Common.{rules, ◌≡◌, None, replicate}
use Rattle.go_snap_core.proofs.MakeTelling.{nothing_told}
use Rattle.go_snap_core.proofs.make.told.Told.new.Goals as goal

pub returns : goal.returns
returns c =
    let none : c.in_ok-places.places.items ≡ replicate c.args.count None = search rules in
    nothing_told _ c.in_ok-places.places.items c.args.count none
