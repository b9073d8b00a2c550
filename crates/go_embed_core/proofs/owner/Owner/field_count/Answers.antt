use Rattle.go_term_core.specs.Shapes.{line_shapes}
use Rattle.go_embed_core.specs.OwnersShown.{owner_shown}
use Rattle.go_embed_core.proofs.Edging.{count_owner}
use Rattle.go_embed_core.proofs.owner.Owner.field_count.Goals as goal

pub returns : goal.returns
returns c = cc (count_owner (line_shapes c.fields.result.lines.now) (owner_shown c.args.self.now) c.fields.result.fields.now c.fields.ensures)
