use Rattle.std.proofs.Common.{◌≡◌, ◌-◌, ◌++◌, map}
use Rattle.go_embed_core.specs.Owners.{embeds_at, embedded_in}
use Rattle.go_embed_core.specs.OwnersShown.{owner_shown, embedded_shown}
use Rattle.go_embed_core.specs.mirrors.Edges.{edges_from}
use Rattle.go_embed_core.proofs.owner.embeds.Given as goal

abbrev pub invariant-loop-position : goal.invariant-loop-position
invariant-loop-position l = map embedded_shown l.edges.items ++ edges_from (embeds_at (owner_shown l.owner)) l.position (l.count - l.position) ≡ embedded_in (owner_shown l.owner)
