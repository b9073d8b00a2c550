use Rattle.std.proofs.Common.{◌≡◌, true, false, sym, ◌∙◌}
use Rattle.go_typexpr_core.proofs.AliasesMaking.{number_here, number_gone}
use Rattle.go_typexpr_core.proofs.aliases.written.number.Goals as goal

pub returns-then-is_at : goal.returns-then-is_at
returns-then-is_at c = number_here c.args.aliases.now c.args.decl c.count_before-place.result c.count_before-place.ensures.split (c.is_at.ensures.0 c.if-is_at.true)

pub returns-else-is_at : goal.returns-else-is_at
returns-else-is_at c = number_gone c.args.aliases.now c.args.decl c.count_before-place.result c.count_before-place.ensures.split c.requires (λ at. (let both : false ≡ true = sym c.if-is_at.false ∙ c.is_at.ensures.1 at in absurd (cc)))
