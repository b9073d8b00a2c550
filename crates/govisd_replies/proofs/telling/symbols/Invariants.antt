use Rattle.std.proofs.Common.{◌≡◌, map, take}
use Rattle.govisd_replies.specs.Told.{symbol_shown, symbol_told}
use Rattle.govisd_replies.proofs.telling.symbols.Given as goal

abbrev pub invariant-loop-found : goal.invariant-loop-found
invariant-loop-found l = map symbol_told l.symbols.items ≡ map symbol_shown (take l.found-index l.all)
