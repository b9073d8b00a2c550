-- What the crates above name of go_text_core.
pub use Rattle.go_tree_nodes.specs.text_core.Text as Text
pub use Rattle.go_tree_nodes.specs.text_core.declared as declared
