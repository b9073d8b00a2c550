use Rattle.std.proofs.Common.{refl, rules, sym, map-id}
use Rattle.std.proofs.lemmas.Iterator.Consumers.{YieldsList-turn, YieldsList-end}
use Rattle.std.proofs.lemmas.Iterator.Adapters.{YieldsList-from_vec}
use Rattle.go_parse_core.proofs.StmtsCodeNames.{names_push, names_all, names_none, names_stop}
use Rattle.go_parse_core.proofs.stmts.simple_stmts.names.Goals as goal

pub returns-in_default : goal.returns-in_default
returns-in_default c = names_none c.args.exprs.first c.args.exprs.more.items c.in_default.ensures

pub turns-init : goal.turns-init
turns-init c = rw c.new-names.ensures.items (sym c.in-Some.ensures)

pub turns-preserved : goal.turns-preserved
turns-preserved c = rw c.in_ok-add.ensures (names_push _ _ _ _ _ _ c.turns.invariant refl (sym c.in-Some-name.ensures))

pub returns-in_default-name : goal.returns-in_default-name
returns-in_default-name c =
    let turn = YieldsList-turn (YieldsList-from_vec {s = c.into_iter-next-iterator.result} c.args.exprs.more.items (search rules) (search rules))
    c.turns.yielded c.turns.next-iterator c.turns.yielded_by c.next.result c.next.new.self c.in-Some-next.next c.in-Some-next.is c.next.ensures.steps in
    names_stop _ _ _ _ turn.0 turn.1 c.in_default-name.ensures

pub returns : goal.returns
returns c =
    let end = YieldsList-end (YieldsList-from_vec {s = c.into_iter-next-iterator.result} c.args.exprs.more.items (search rules) (search rules))
    c.turns.yielded c.turns.next-iterator c.turns.yielded_by c.next.result c.next.new.self c.in-None.is c.next.ensures.steps in
    rw (c.fitted-more.ensures, ← end.0, map-id) (sym (names_all _ _ _ _ c.turns.invariant))
