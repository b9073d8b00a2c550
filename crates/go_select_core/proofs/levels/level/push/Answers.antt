use Rattle.std.proofs.Common.{◌≡◌, ◌||◌, refl, sym, ap, ◌∙◌}
use Rattle.go_select_core.proofs.LevelsListLemmas.{at_read}
use Rattle.go_select_core.proofs.LevelsWayLemmas.{push_ways}
use Rattle.go_select_core.proofs.levels.level.push.Goals as goal
use Rattle.go_select_core.proofs.levels.level.push.Goals.{then-owner, else-owner}

pub returns-clause-pushed : goal.returns-clause-pushed
returns-clause-pushed c =
    let r = c.index-owner.result.now in
    let at = at_read _ _ _ c.requires.inside c.index-owner.ensures in
    let p : c.if-owner.push ≡ r.pointer || c.args.field.pointer = elim c.if-owner.branch [
      | then-owner w ↦ w.push-is ∙ w.if-owner.true ∙ sym (ap (λ b. b || c.args.field.pointer) w.if-owner.true)
      | else-owner w ↦ w.push-is ∙ sym (ap (λ b. b || c.args.field.pointer) w.if-owner.false)
    ] in
    push_ways _ _ _ _ c.args.from _ r _ c.requires.sized at c.in_ok-add.ensures c.in_ok-push.ensures.items refl refl p
