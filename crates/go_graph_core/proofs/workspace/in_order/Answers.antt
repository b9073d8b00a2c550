use Rattle.std.proofs.Common.{refl, rules}
use Rattle.std.proofs.lemmas.Fn.{always_returns_same}
use Rattle.go_graph_core.specs.Workspaces.{texts_of_files}
use Rattle.go_graph_core.proofs.Reading.{are_read, by_name, weak}
use Rattle.go_graph_core.proofs.workspace.in_order.Goals as goal

pub returns : goal.returns
returns c =
    are_read (texts_of_files c.args.files.items) c.args.files.items c.sort_unstable_by.new.self.items c.requires.names refl c.requires.read c.sort_unstable_by.ensures.permutation
    (c.sort_unstable_by.ensures.sorted by_name weak (always_returns_same _ _ _ (λ a r f' k. search rules)))
