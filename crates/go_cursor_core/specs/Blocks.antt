-- The locals that are open at a place of a function: those of the blocks around the innermost block, the outermost first, and its own.
use Rattle.std.specs.Prelude.{List}
use Rattle.go_tree_nodes.specs.declared.names.Ident.{Ident}

pub record OpenBlock : Type 0 where
  pub outer : List Ident
  pub block : List Ident

abbrev pub opened : List Ident → List Ident → OpenBlock
opened xs ys = record { outer = xs; block = ys }
