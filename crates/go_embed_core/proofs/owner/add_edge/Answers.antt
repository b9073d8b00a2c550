use Rattle.std.proofs.Common.{map}
use Rattle.std.proofs.lemmas.Result.{on_ok_weaker}
use Rattle.go_embed_core.specs.OwnersShown.{owner_shown, embedded_shown}
use Rattle.go_embed_core.proofs.Edging.{edge_added, edge_none}
use Rattle.go_embed_core.proofs.owner.add_edge.Goals as goal

pub returns-in-Some : goal.returns-in-Some
returns-in-Some c = on_ok_weaker c.add.result (λ more. edge_added (owner_shown c.args.owner.now) c.args.edges.now.items c.add.new.all.items c.in-Some.edge c.args.position c.in-Some.ensures more) c.add.ensures

pub returns-in-None : goal.returns-in-None
returns-in-None c = edge_none (owner_shown c.args.owner.now) (map embedded_shown c.args.edges.now.items) c.args.position c.in-None.ensures
