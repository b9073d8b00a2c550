use Rattle.std.proofs.Common.{[], length, map, ap, ◌∙◌}
use Rattle.go_term_core.specs.settling.mirrors.Kept.{keeps_field, kept_fields}
use Rattle.go_term_core.proofs.SettlingLoops.{one_flag, all_flags}
use Rattle.go_term_core.proofs.SettlingMasks.{kept_len, names_len}
use Rattle.go_term_core.proofs.settling.kept.kept_fields.Goals as goal

pub loop-field-preserved : goal.loop-field-preserved
loop-field-preserved c =
    one_flag keeps_field (λ x. x.name) c.args.fields.now c.loop-field.field-index c.field-item.result c.loop-field.seen c.add.new.self c.as_str-name.result.now c.loop-field.kept.items c.add-in-loop-field.new.all.items
    c.in_ok-is_new.is_new c.keeps_field.result (kept_fields c.args.fields.now) c.loop-field-test.true c.field-item.is c.as_str-name.ensures c.in_ok-is_new.ensures.added c.in_ok-is_new.ensures.seen c.keeps_field.ensures
    c.in_ok-add.ensures c.loop-field.invariant

pub returns-clause-len : goal.returns-clause-len
returns-clause-len c =
    let is = all_flags keeps_field (λ x. x.name) c.args.fields.now c.loop-field.field-index c.loop-field.seen c.loop-field.kept.items (kept_fields c.args.fields.now) c.loop-field-test.false c.loop-field.invariant in
    ap length is ∙ (kept_len keeps_field [] (map (λ x. x.name) c.args.fields.now) ∙ names_len (λ x. x.name) c.args.fields.now)
