-- What the crates above name of go_graph_core.
pub use Rattle.go_graph_core.proofs.Assemblies as Assemblies
pub use Rattle.go_graph_core.specs.Imports as Imports
pub use Rattle.go_graph_core.proofs.Numbers as Numbers
pub use Rattle.go_graph_core.proofs.OutcomeLaws as OutcomeLaws
pub use Rattle.go_graph_core.specs.Packages as Packages
pub use Rattle.go_graph_core.specs.Sources as Sources
pub use Rattle.go_graph_core.specs.Workspaces as Workspaces
pub use Rattle.go_graph_core.proofs.Zips as Zips
pub use Rattle.go_graph_core.specs.declared as declared
