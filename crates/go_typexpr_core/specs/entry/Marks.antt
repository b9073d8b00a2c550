-- Which type declarations declare aliases.
use Rattle.std.specs.Prelude.{Option}
use Rattle.go_path_core.specs.text_core.declared.span.Span.{Span}
use Rattle.go_tree_nodes.specs.Trees.{TypeSpecTree}

-- the place of `=`, where it is an alias
abbrev pub alias_mark : TypeSpecTree → Option Span
alias_mark t = t.alias
