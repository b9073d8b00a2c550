use Rattle.std.proofs.Common.{sym, ap, ◌∙◌, arith}
use Rattle.std.specs.Option.{option_map}
use Rattle.go_embed_core.specs.OwnersShown.{owner_shown, embedded_shown}
use Rattle.go_select_core.proofs.SurveysSoles.{sole_start, held_skip, held_found, held_end}
use Rattle.go_select_core.proofs.surveys.sole.sole_field.Goals as goal
use Rattle.go_select_core.proofs.surveys.sole.sole_field.Goals.{in-Some+else-is_some, in_default}

pub fields-init : goal.fields-init
fields-init c = sole_start (owner_shown c.args.owner.now)

pub fields-preserved : goal.fields-preserved
fields-preserved c =
    let o = owner_shown c.args.owner.now in
    elim c.match-embedded.branch [
      | in-Some+else-is_some w ↦ held_found o c.fields.i c.fields.sole c.match-embedded.sole _ w.is_some.result c.fields.invariant w.is_some.ensures w.if-is_some.false w.sole-is (sym w.in-Some.ensures)
      | in_default w ↦ held_skip o c.fields.i c.fields.sole c.match-embedded.sole c.fields.invariant w.sole-is (sym c.embedded.ensures ∙ ap (option_map embedded_shown) w.in_default.is)
    ]

pub returns : goal.returns
returns c = held_end (owner_shown c.args.owner.now) c.fields.i c.fields.sole c.fields.invariant (omega (arith, c.field_count-i-end.ensures, c.fields-test.false))
