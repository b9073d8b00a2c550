use Rattle.std.proofs.Common.{◌≡◌, true, false, sym, ◌∙◌}
use Rattle.go_typexpr_core.proofs.AliasesMaking.{own_then, own_else, refs}
use Rattle.go_typexpr_core.proofs.aliases.written.own_number.Goals as goal

pub returns-then-is_same : goal.returns-then-is_same
returns-then-is_same c = own_then c.args.path.now (refs c.args.aliases.now) c.args.key.now c.number.result c.number.ensures (c.is_same.ensures.0 c.if-is_same.true)

pub returns-else-is_same : goal.returns-else-is_same
returns-else-is_same c = own_else c.args.path.now (refs c.args.aliases.now) c.args.key.now (λ same. (let both : false ≡ true = sym c.if-is_same.false ∙ c.is_same.ensures.1 same in absurd (cc)))
