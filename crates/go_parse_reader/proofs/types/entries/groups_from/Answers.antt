use Rattle.std.proofs.Common.{rules, sym, map-id}
use Rattle.std.proofs.lemmas.Iterator.Consumers.{YieldsList-turn, YieldsList-end}
use Rattle.std.proofs.lemmas.Iterator.Adapters.{YieldsList-from_vec}
use Rattle.go_parse_reader.proofs.TypesCodeEntries.{groups_push, groups_name, groups_all, groups_left, groups_stop, no_plain, no_comma}
use Rattle.go_parse_reader.proofs.types.entries.groups_from.Goals as goal

pub turns-preserved-in-Some-name : goal.turns-preserved-in-Some-name
turns-preserved-in-Some-name c = groups_push _ _ _ _ _ _ _ c.turns.invariant c.in-Some-name.is c.in_ok-group.ensures.0 c.in_ok-group.ensures.1 c.in_ok-group.ensures.2 c.in_ok-add.ensures

pub turns-preserved : goal.turns-preserved
turns-preserved c = groups_name _ _ _ _ _ _ _ c.turns.invariant c.in_default.is c.in-Some-plain.ensures c.in-Some-comma.is c.in_ok-with_name.ensures

pub returns-in_default-plain : goal.returns-in_default-plain
returns-in_default-plain c =
    let turn = YieldsList-turn (YieldsList-from_vec {s = c.into_iter-entry-iterator.result} c.args.entries.items (search rules) (search rules))
    c.turns.yielded c.turns.entry-iterator c.turns.yielded_by c.next.result c.next.new.self c.in-Some.entry c.in-Some.is c.next.ensures.steps in
    groups_stop _ _ _ turn.0 turn.1 (no_plain c.in-Some.entry c.in_default.is c.in_default-plain.ensures)

pub returns-in_default-comma : goal.returns-in_default-comma
returns-in_default-comma c =
    let turn = YieldsList-turn (YieldsList-from_vec {s = c.into_iter-entry-iterator.result} c.args.entries.items (search rules) (search rules))
    c.turns.yielded c.turns.entry-iterator c.turns.yielded_by c.next.result c.next.new.self c.in-Some.entry c.in-Some.is c.next.ensures.steps in
    groups_stop _ _ _ turn.0 turn.1 (no_comma c.in-Some.entry c.in_default.is c.in_default-comma.is)

pub returns-then-is_some : goal.returns-then-is_some
returns-then-is_some c =
    let end = YieldsList-end (YieldsList-from_vec {s = c.into_iter-entry-iterator.result} c.args.entries.items (search rules) (search rules))
    c.turns.yielded c.turns.entry-iterator c.turns.yielded_by c.next.result c.next.new.self c.in-None.is c.next.ensures.steps in
    rw (← end.0, map-id) (groups_left _ _ _ c.turns.invariant (sym c.if-is_some.ensures))

pub returns : goal.returns
returns c =
    let end = YieldsList-end (YieldsList-from_vec {s = c.into_iter-entry-iterator.result} c.args.entries.items (search rules) (search rules))
    c.turns.yielded c.turns.entry-iterator c.turns.yielded_by c.next.result c.next.new.self c.in-None.is c.next.ensures.steps in
    rw (← end.0, map-id, c.fitted.ensures) (groups_all _ _ _ c.turns.invariant (sym c.if-is_some.ensures))
