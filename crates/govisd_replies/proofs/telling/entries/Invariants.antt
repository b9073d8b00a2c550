use Rattle.std.proofs.Common.{take}
use Rattle.std.specs.List.{AllZip}
use Rattle.govisd_replies.specs.Told.{IsEntryFor}
use Rattle.govisd_replies.proofs.telling.entries.Given as goal

abbrev pub invariant-loop-found : goal.invariant-loop-found
invariant-loop-found l = AllZip IsEntryFor (take l.found-index l.all) l.entries.items
