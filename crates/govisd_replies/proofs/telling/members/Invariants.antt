use Rattle.std.proofs.Common.{◌≡◌, map, take}
use Rattle.govisd_replies.specs.Told.{member_told, symbol_told}
use Rattle.govisd_replies.proofs.telling.members.Given as goal

abbrev pub invariant-loop-found : goal.invariant-loop-found
invariant-loop-found l = map symbol_told l.symbols.items ≡ map member_told (take l.found-index l.all)
