use Rattle.std.proofs.lemmas.Result.{on_ok_weaker}
use Rattle.go_typexpr_core.proofs.WrittenCollected.{numbers_some, numbers_none}
use Rattle.go_typexpr_core.proofs.written.terms.add_numbers.Goals as goal

pub returns-in-Some : goal.returns-in-Some
returns-in-Some c = on_ok_weaker c.add_more.result (λ e. numbers_some c.args.number c.args.names.now c.in-Some.idents c.args.lines.now.items _ _ c.in-Some.is c.in_ok-add.ensures e) c.add_more.ensures

pub returns-in-None : goal.returns-in-None
returns-in-None c = numbers_none c.args.number c.args.names.now c.args.lines.now.items _ c.in-None.is c.in_ok-add.ensures
