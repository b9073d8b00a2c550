use Rattle.std.proofs.Common.{List, ◌+◌, take, sym, subst}
use Rattle.std.specs.List.{AllZip}
use Rattle.go_import_core.specs.graph_core.Zips.{zip_more_at}
use Rattle.go_query_core.specs.Entries.{EntryOf}
use Rattle.go_query_core.specs.Listing.{IsEntryOf}
use Rattle.go_query_core.proofs.listing.entries_of.Goals as goal

pub entry_at-entry-requires : goal.entry_at-entry-requires
entry_at-entry-requires c = c.requires c.loop-number.number-index 0 c.loop-number-test.true

pub loop-number-preserved : goal.loop-number-preserved
loop-number-preserved c =
    let s = c.args.snapshot.now in
    let from = c.args.from.now in
    subst (λ (l : List EntryOf). AllZip (IsEntryOf s from) (take (c.loop-number.number-index + 1) c.args.numbers.now) l) (sym c.in_ok-add.ensures)
    (zip_more_at (IsEntryOf s from) c.args.numbers.now c.loop-number.entries.items c.loop-number.number-index 0 c.entry_at-entry.result c.loop-number-test.true c.loop-number.invariant c.entry_at-entry.ensures)
