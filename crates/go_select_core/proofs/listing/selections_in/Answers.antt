use Rattle.go_term_core.specs.Shapes.{shape}
use Rattle.go_embed_core.specs.table_core.Entries.{find_entry}
use Rattle.go_select_core.proofs.ListedNames.{are_within, listing_in}
use Rattle.go_select_core.proofs.listing.selections_in.Goals as goal

pub list_names-requires-clause-within : goal.list_names-requires-clause-within
list_names-requires-clause-within c = are_within (find_entry c.args.table.now) (shape c.args.start.now) _ _ _ c.in_ok-survey.ensures

pub returns : goal.returns
returns c = listing_in (find_entry c.args.table.now) (shape c.args.start.now) _ _ c.args.by_pointer c.args.with_methods _ _ c.in_ok-survey.ensures c.in_ok-listed.ensures
