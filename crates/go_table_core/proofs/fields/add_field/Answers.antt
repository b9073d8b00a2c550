use Rattle.std.proofs.Common.{◌≡◌, ap, ◌∙◌}
use Rattle.go_table_core.specs.mirrors.Spots.{found_or_none, found_places, named_places}
use Rattle.go_table_core.proofs.Spelled.{adds_field, in_names}
use Rattle.go_table_core.proofs.fields.add_field.Goals as goal
use Rattle.go_table_core.proofs.fields.add_field.Goals.{in-Some, in-None}

pub returns-in-Ok : goal.returns-in-Ok
returns-in-Ok c =
    let at = in_names c.as_str-name.result.now c.args.places.now.entries ∙ ap (found_places (named_places c.args.places.now)) c.as_str-name.ensures in
    let before : c.match-get.so_far ≡ found_or_none (found_places (named_places c.args.places.now) c.args.field.now.name) =
    elim c.match-get.branch [
      | in-Some w ↦ w.so_far-is ∙ ap found_or_none (w.in-Some.ensures.value ∙ at)
      | in-None w ↦ w.so_far-is ∙ ap found_or_none (w.in-None.ensures.value ∙ at)
    ] in
    adds_field c.args.places.now c.insert.new.self c.as_str-name.result c.args.field.now.name c.match-get.so_far c.with.result c.args.field.now.place
    c.as_str-name.ensures c.in-Ok.ensures.updates before c.with.ensures
