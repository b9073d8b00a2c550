use Rattle.std.proofs.Common.{◌≡◌, ◌++◌, drop, map}
use Rattle.go_term_core.specs.Shapes.{fields_in, line_shapes}
use Rattle.go_embed_core.specs.Owners.{fields_found}
use Rattle.go_embed_core.specs.OwnersShown.{owner_shown, named_shown}
use Rattle.go_embed_core.proofs.owner.add_fields.Given as goal

abbrev pub invariant-loop-field : goal.invariant-loop-field
invariant-loop-field l = map named_shown l.members.items ++ fields_found (owner_shown l.owner) l.path (fields_in (line_shapes l.lines) (drop l.field-index l.fields)) ≡ map named_shown l.fn.members.items ++ fields_found (owner_shown l.owner) l.path (fields_in (line_shapes l.lines) l.fields)
