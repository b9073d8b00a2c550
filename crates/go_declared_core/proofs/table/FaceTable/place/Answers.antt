use Rattle.std.proofs.Common.{ap, ◌∙◌}
use Rattle.go_collections_core.specs.name_table.Named.{value_at}
use Rattle.go_declared_core.specs.mirrors.Tables.{keyed, place_of}
use Rattle.go_declared_core.proofs.table.FaceTable.place.Goals as goal

pub returns : goal.returns
returns c =
    c.copied.ensures
    ∙ (c.find.ensures ∙ (ap (value_at c.self.inside.places.names) c.as_str.ensures.text ∙ (c.self.invariant c.args.path.now ∙ ap (λ ps. place_of (keyed ps) c.args.path.now) c.self.view_is)))
