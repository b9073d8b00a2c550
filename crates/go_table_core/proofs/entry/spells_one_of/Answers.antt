use Rattle.std.proofs.Common.{◌≡◌, map, false, true, sym, ap, ◌∙◌}
use Rattle.go_table_core.specs.Shown.{member_shown}
use Rattle.go_table_core.specs.mirrors.Spots.{spells_some}
use Rattle.go_table_core.specs.Methods.{term_fields, field_spelled}
use Rattle.go_table_core.proofs.Spelled.{spells_step, spells_found, spells_end}
use Rattle.go_table_core.proofs.entry.spells_one_of.Goals as goal

pub loop-method-preserved : goal.loop-method-preserved
loop-method-preserved c =
    let off : field_spelled (term_fields c.args.underlying.now) c.method-item.result.name ≡ false =
    ap (λ t. field_spelled (term_fields t) c.method-item.result.name) (sym c.in_ok-fields.ensures)
    ∙ (ap (field_spelled (term_fields c.in_ok-fields.fields)) (sym c.as_str.ensures) ∙ (sym c.has_spelled.ensures ∙ c.if-has_spelled.false)) in
    spells_step c.args.methods.now c.loop-method.method-index c.method-item.result (term_fields c.args.underlying.now) (spells_some (map member_shown c.args.methods.now) (term_fields c.args.underlying.now))
    c.loop-method-test.true c.method-item.is c.loop-method.invariant off

pub returns-then-has_spelled : goal.returns-then-has_spelled
returns-then-has_spelled c =
    let there : field_spelled (term_fields c.args.underlying.now) c.method-item.result.name ≡ true =
    ap (λ t. field_spelled (term_fields t) c.method-item.result.name) (sym c.in_ok-fields.ensures)
    ∙ (ap (field_spelled (term_fields c.in_ok-fields.fields)) (sym c.as_str.ensures) ∙ (sym c.has_spelled.ensures ∙ c.if-has_spelled.true)) in
    spells_found c.args.methods.now c.loop-method.method-index c.method-item.result (term_fields c.args.underlying.now) (spells_some (map member_shown c.args.methods.now) (term_fields c.args.underlying.now))
    c.loop-method-test.true c.method-item.is c.loop-method.invariant there

pub returns : goal.returns
returns c = spells_end c.args.methods.now c.loop-method.method-index (term_fields c.args.underlying.now) (spells_some (map member_shown c.args.methods.now) (term_fields c.args.underlying.now)) c.loop-method-test.false c.loop-method.invariant
