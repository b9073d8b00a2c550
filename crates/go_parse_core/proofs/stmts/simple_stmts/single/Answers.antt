use Rattle.std.proofs.Common.{sym, ap, ◌∙◌}
use Rattle.std.specs.Prelude.{◌==◌}
use Rattle.go_parse_core.proofs.StmtsCodeSimple.{several}
use Rattle.go_parse_core.proofs.stmts.simple_stmts.single.Goals as goal

pub returns-then-not-is_empty-clause-value : goal.returns-then-not-is_empty-clause-value
returns-then-not-is_empty-clause-value c =
    several c.args.exprs.first c.args.exprs.more.items (ap (λ n. n == 0) (sym c.args.exprs.more.ok.0) ∙ sym c.is_empty.ensures ∙ c.if-not-is_empty.true)
