use Rattle.go_term_core.specs.Shapes.{shape}
use Rattle.go_embed_core.specs.table_core.Entries.{find_entry}
use Rattle.go_select_core.proofs.ListedNames.{listing_from}
use Rattle.go_select_core.proofs.listing.selectable.Goals as goal

pub returns : goal.returns
returns c = listing_from (find_entry c.args.table.now) (shape c.args.term.now) c.args.from.now _ _ c.in_ok-found.ensures c.in_ok-listed.ensures
