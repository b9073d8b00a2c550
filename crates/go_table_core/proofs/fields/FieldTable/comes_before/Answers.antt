use Rattle.std.proofs.Common.{◌≡◌, ◌&&◌, true, false, sym, ap, ◌∙◌}
use Rattle.std.specs.Str.{chars}
use Rattle.std.proofs.lemmas.Bool.{true≢false}
use Rattle.go_collections_core.specs.text_core.Text.{exported}
use Rattle.go_table_core.specs.Methods.{field_spelled, term_fields}
use Rattle.go_table_core.specs.Shown.{member_shown}
use Rattle.go_table_core.specs.mirrors.Spots.{named_before, struct_path}
use Rattle.go_table_core.proofs.Spelled.{earlier_field, foreign_field}
use Rattle.go_table_core.proofs.fields.FieldTable.comes_before.Goals as goal

pub returns-then-is_same : goal.returns-then-is_same
returns-then-is_same c =
    c.has_before.ensures
    ∙ (ap (λ n. named_before (term_fields c.args.self.now) n c.args.method.now.place) c.as_str-name.ensures
    ∙ earlier_field c.args.self.now c.args.path.now c.in-Some.home.now (member_shown c.args.method.now) (ap struct_path (sym c.self.view_is) ∙ sym c.in-Some.ensures) (c.is_same.ensures.0 c.if-is_same.true))

pub returns-then-has_spelled : goal.returns-then-has_spelled
returns-then-has_spelled c =
    let spelled : field_spelled (term_fields c.args.self.now) c.args.method.now.name ≡ true = sym (c.has_spelled.ensures ∙ ap (field_spelled (term_fields c.args.self.now)) c.as_str-name.ensures) ∙ c.if-has_spelled.true in
    c.is_exported.ensures
    ∙ (ap (λ n. exported (chars n)) c.as_str-name.ensures
    ∙ (ap (λ b. b && exported (chars c.args.method.now.name)) (sym spelled)
    ∙ foreign_field c.args.self.now c.args.path.now c.in-Some.home.now (member_shown c.args.method.now) (ap struct_path (sym c.self.view_is) ∙ sym c.in-Some.ensures)
    (λ same. true≢false (sym (c.is_same.ensures.1 same) ∙ c.if-is_same.false))))

pub returns-else-has_spelled : goal.returns-else-has_spelled
returns-else-has_spelled c =
    let spelled : field_spelled (term_fields c.args.self.now) c.args.method.now.name ≡ false = sym (c.has_spelled.ensures ∙ ap (field_spelled (term_fields c.args.self.now)) c.as_str-name.ensures) ∙ c.if-has_spelled.false in
    c.if-has_spelled.false
    ∙ (ap (λ b. b && exported (chars c.args.method.now.name)) (sym spelled)
    ∙ foreign_field c.args.self.now c.args.path.now c.in-Some.home.now (member_shown c.args.method.now) (ap struct_path (sym c.self.view_is) ∙ sym c.in-Some.ensures)
    (λ same. true≢false (sym (c.is_same.ensures.1 same) ∙ c.if-is_same.false)))
