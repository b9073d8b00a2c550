use Rattle.std.proofs.Common.{◌≡◌, true, false, sym, ◌∙◌}
use Rattle.go_type_core.proofs.Keyed.{number_then, number_else}
use Rattle.go_type_core.proofs.own_keys.OwnKeys.number.Goals as goal
use Rattle.go_type_core.proofs.own_keys.OwnKeys.number.Goals.{else-is_at-via-then-is_at+else-is_same, else-is_at-via-else-is_at}

pub returns-then-is_same : goal.returns-then-is_same
returns-then-is_same c =
    number_then c.args.self.now c.self.inside.path c.self.inside.decls.items c.deref.result.now c.deref-2.result.now c.args.key.now c.count_before-place.result c.self.view_is c.deref.ensures.value c.deref-2.ensures.value c.count_before-place.ensures.split (c.is_at.ensures.0 c.if-is_at.true) (c.is_same.ensures.0 c.if-is_same.true)

pub returns-else-is_at : goal.returns-else-is_at
returns-else-is_at c =
    number_else c.args.self.now c.self.inside.path c.self.inside.decls.items c.deref.result.now c.deref-2.result.now c.args.key.now c.count_before-place.result c.self.view_is c.deref.ensures.value c.deref-2.ensures.value c.self.invariant c.count_before-place.ensures.split
    (λ at same. elim c.else-is_at.branch [
      | else-is_at-via-then-is_at+else-is_same w ↦ (let both : false ≡ true = sym w.if-is_same.false ∙ w.is_same.ensures.1 same in absurd (cc))
      | else-is_at-via-else-is_at w ↦ (let both : false ≡ true = sym w.if-is_at.false ∙ c.is_at.ensures.1 at in absurd (cc))
    ])
