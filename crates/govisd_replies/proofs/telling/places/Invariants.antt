use Rattle.std.proofs.Common.{◌≡◌, map, take}
use Rattle.govisd_replies.specs.Told.{place_of}
use Rattle.govisd_replies.proofs.telling.places.Given as goal

abbrev pub invariant-loop-fault : goal.invariant-loop-fault
invariant-loop-fault l = l.places.items ≡ map place_of (take l.fault-index l.all)
