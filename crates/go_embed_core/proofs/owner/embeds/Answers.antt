use Rattle.std.proofs.Common.{map, ap, arith, ◌∙◌}
use Rattle.go_embed_core.specs.Owners.{embedded_in}
use Rattle.go_embed_core.specs.OwnersShown.{owner_shown, embedded_shown}
use Rattle.go_embed_core.proofs.Edging.{edges_begin, edges_step, edges_end}
use Rattle.go_embed_core.proofs.owner.embeds.Goals as goal

pub loop-position-init : goal.loop-position-init
loop-position-init c = edges_begin (owner_shown c.of-owner.result) _ c.field_count-count.result c.new-edges.ensures.items c.field_count-count.ensures

pub loop-position-preserved : goal.loop-position-preserved
loop-position-preserved c = edges_step (owner_shown c.of-owner.result) (map embedded_shown c.loop-position.edges.items) (map embedded_shown c.add_edge.new.edges.items) _ c.loop-position.position c.field_count-count.result (omega arith) c.in_ok-add_edge.ensures c.loop-position.invariant

pub returns : goal.returns
returns c = edges_end (owner_shown c.of-owner.result) (map embedded_shown c.loop-position.edges.items) c.loop-position.position c.field_count-count.result (omega arith) c.loop-position.invariant ∙ ap embedded_in c.of-owner.ensures
