-- What the crates above name of go_graph_core.
pub use Rattle.go_block_core.specs.graph_core.Lists as Lists
pub use Rattle.go_block_core.specs.graph_core.Packages as Packages
pub use Rattle.go_block_core.specs.graph_core.PlanEdges as PlanEdges
pub use Rattle.go_block_core.specs.graph_core.ToldApart as ToldApart
pub use Rattle.go_block_core.specs.graph_core.Workspaces as Workspaces
