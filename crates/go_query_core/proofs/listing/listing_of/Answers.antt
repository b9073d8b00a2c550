use Rattle.go_complete_core.specs.package_core.PackagePartInputs.{path_in}
use Rattle.go_query_core.proofs.Listed.{is_listing, part_in_range}
use Rattle.go_query_core.proofs.listing.listing_of.Goals as goal

pub importable_entries-requires : goal.importable_entries-requires
importable_entries-requires c = part_in_range c.args.snapshot.now (path_in c.args.part.now.input) c.args.number c.args.part.now c.requires

pub returns-in-Ok-clause-ok : goal.returns-in-Ok-clause-ok
returns-in-Ok-clause-ok c = is_listing c.args.snapshot.now (path_in c.args.part.now.input) c.path-from.result.now c.args.number c.args.part.now c.new-own.result c.in-Ok.importable.items c.requires c.path-from.ensures c.new-own.ensures c.in-Ok.ensures
