use Rattle.std.proofs.Common.{◌∙◌, ap}
use Rattle.std.specs.List.{position}
use Rattle.std.specs.Map.{keys_of}
use Rattle.std.specs.Str.{bytes_eq}
use Rattle.go_graph_core.proofs.PathTables.{position_placed}
use Rattle.go_graph_core.proofs.path_table.PathTable.number.Goals as goal

pub returns : goal.returns
returns c =
    c.copied.ensures
    ∙ (c.find.ensures
    ∙ (position_placed c.self.inside.places.names (keys_of c.self.inside.packages.now) c.args.path.now c.self.invariant ∙ ap (position (bytes_eq c.args.path.now)) c.self.view_is))
