use Rattle.std.specs.Map.Iter.{deref_pair}
use Rattle.std.proofs.lemmas.Map.Iter.{iter_turn}
use Rattle.go_select_core.proofs.ListedNames.{entry_within}
use Rattle.go_select_core.proofs.listing.list_names.Goals as goal

pub entry-requires-clause-within : goal.entry-requires-clause-within
entry-requires-clause-within c =
    let gives = c.into_iter-known-iterator.ensures.into_iter_gives in
    entry_within c.args.survey.now.levels.types.items c.args.survey.now.names.known.entries _ (deref_pair (c.in-Some.field-0-0, c.in-Some.known)) gives.5 c.requires.within
    (iter_turn deref_pair c.args.survey.now.names.known.entries c.names.yielded c.into_iter-known-iterator.result c.names.known-iterator c.next.new.self c.next.result gives.0 c.names.yielded_by (c.in-Some.field-0-0, c.in-Some.known) c.in-Some.is c.next.ensures.steps).1
