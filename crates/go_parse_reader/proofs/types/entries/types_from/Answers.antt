use Rattle.std.proofs.Common.{refl, rules, map-id}
use Rattle.std.proofs.lemmas.Iterator.Consumers.{YieldsList-end}
use Rattle.std.proofs.lemmas.Iterator.Adapters.{YieldsList-from_vec}
use Rattle.go_parse_reader.proofs.TypesCodeEntries.{types_start, types_push, types_all}
use Rattle.go_parse_reader.proofs.types.entries.types_from.Goals as goal

pub turns-init : goal.turns-init
turns-init c = types_start _ c.in_ok-params.ensures.items

pub returns : goal.returns
returns c =
    let end = YieldsList-end (YieldsList-from_vec {s = c.into_iter-entry-iterator.result} c.args.entries.items (search rules) (search rules))
    c.turns.yielded c.turns.entry-iterator c.turns.yielded_by c.next.result c.next.new.self c.in-None.is c.next.ensures.steps in
    rw (← end.0, map-id) (types_all _ _ c.turns.invariant)

pub turns-preserved : goal.turns-preserved
turns-preserved c = types_push _ _ _ _ _ c.turns.invariant refl refl refl c.in_ok-add.ensures
