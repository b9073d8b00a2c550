-- What the crates above name of go_graph_core.
pub use Rattle.go_graph_core.specs.Packages as Packages
pub use Rattle.go_graph_core.specs.Sources as Sources
pub use Rattle.go_graph_core.specs.Workspaces as Workspaces
pub use Rattle.go_graph_core.proofs.Zips as Zips
