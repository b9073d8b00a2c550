use Rattle.go_complete_core.specs.snap_core.Snapshots.{file_in_shown}
use Rattle.go_cursor_core.specs.Spots.{spot_seen}
use Rattle.go_query_core.proofs.Spotted.{spot_asked, spot_there, spotted}
use Rattle.go_query_core.proofs.completing.spot_from.Goals as goal

pub returns-in-Ok-Some-clause-ok : goal.returns-in-Ok-Some-clause-ok
returns-in-Ok-Some-clause-ok c =
    let h = rw c.in-Ok-Some.field-0-is at c.in-Ok-Some.ensures in
    spot_asked (file_in_shown c.args.file) c.args.offset c.args.start (spot_seen c.in-Ok-Some.found) (spotted c.names_are_occurrences.ensures (file_in_shown c.args.file) c.args.offset c.args.start c.requires.spots c.requires.begins) h

pub unreachable-requires : goal.unreachable-requires
unreachable-requires c =
    let h = rw c.in-Ok-None.field-0-is at c.in-Ok-None.ensures in
    spot_there (file_in_shown c.args.file) c.args.offset c.args.start (spotted c.names_are_occurrences.ensures (file_in_shown c.args.file) c.args.offset c.args.start c.requires.spots c.requires.begins) h
