use Rattle.std.proofs.Common.{take}
use Rattle.std.specs.List.{AllZip}
use Rattle.go_query_core.specs.Listing.{IsEntryOf}
use Rattle.go_query_core.proofs.listing.entries_of.Given as goal

abbrev pub invariant-loop-number : goal.invariant-loop-number
invariant-loop-number l = AllZip (IsEntryOf l.snapshot l.from) (take l.number-index l.numbers) l.entries.items
