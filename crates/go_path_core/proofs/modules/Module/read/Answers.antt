use Rattle.std.proofs.Common.{◌≡◌, true, false, inl, inr, refl, sym, ◌∙◌}
use Rattle.go_path_core.proofs.modules.Module.read.Goals as goal

pub new-requires : goal.new-requires
new-requires c = c.is_path.ensures.0 c.if-not-is_path.false

pub returns-in-Ok-clause-ok : goal.returns-in-Ok-clause-ok
returns-in-Ok-clause-ok c = (c.in-Ok.ensures, c.is_path.ensures.0 c.if-not-is_path.false)

pub returns-in-Err-clause-err : goal.returns-in-Err-clause-err
returns-in-Err-clause-err c = inl (refl, c.is_path.ensures.0 c.if-not-is_path.false)

pub returns-then-not-is_path-clause-err : goal.returns-then-not-is_path-clause-err
returns-then-not-is_path-clause-err c = inr (refl, λ path. (let e : false ≡ true = sym c.if-not-is_path.true ∙ c.is_path.ensures.1 path in absurd (cc)))
