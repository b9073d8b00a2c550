use Rattle.std.proofs.Common.{[], ◌∷◌, length, false, ap, sym, ◌∙◌}
use Rattle.std.proofs.lemmas.List.{get_or_default}
use Rattle.go_term_core.specs.settling.mirrors.Kept.{kept_fields, those_kept}
use Rattle.go_term_core.proofs.SettlingLoops.{one_kept, one_left, all_kept, within}
use Rattle.go_term_core.proofs.SettlingMasks.{put_field, fields_start, fields_onto}
use Rattle.go_term_core.proofs.settling.kept.settle_fields.Goals as goal
use Rattle.go_term_core.proofs.settling.kept.settle_fields.Goals.{then-index+in_ok-copy+in_ok-add, else-index}

pub loop-i-init : goal.loop-i-init
loop-i-init c =
    fields_start c.new-settled.result.items c.in_ok-kept.kept.items c.deref-field-items.result.now c.deref.result.now c.new-settled.ensures.items c.in_ok-kept.ensures.kept
    (c.deref.ensures.value ∙ sym c.deref-field-items.ensures.value)

pub loop-i-preserved : goal.loop-i-preserved
loop-i-preserved c =
    let k_lt = within c.loop-i.i (length c.in_ok-kept.kept.items) (length c.deref.result.now) (length c.deref-field-items.result.now) c.loop-i-test.true c.in_ok-kept.ensures.len (ap length (c.deref.ensures.value ∙ sym c.deref-field-items.ensures.value)) in
    let read = get_or_default c.in_ok-kept.kept.items c.loop-i.i false c.index.result.now k_lt ∙ sym c.index.ensures in
    elim c.if-index.branch [
      | then-index+in_ok-copy+in_ok-add w ↦ rw w.settled-is
          (one_kept put_field put_field [] _ _ _ _ _ _ _ _ k_lt c.loop-i-test.true (read ∙ w.if-index.true) c.field-item.is w.in_ok-add.ensures
          (λ rest. ap (λ f. f ∷ rest) w.in_ok-copy.ensures) c.loop-i.invariant)
      | else-index w ↦ rw w.settled-is
          (one_left put_field put_field [] _ _ _ _ _ _ k_lt c.loop-i-test.true (read ∙ w.if-index.false) c.field-item.is c.loop-i.invariant)
    ]

pub returns : goal.returns
returns c =
    sym (fields_onto c.loop-i.settled.items)
    ∙ (all_kept put_field put_field [] c.loop-i.settled.items c.in_ok-kept.kept.items c.deref-field-items.result.now c.loop-i.i _ c.loop-i-test.false c.loop-i.invariant
    ∙ ap (λ l. those_kept (kept_fields l) l) c.deref-field-items.ensures.value)
