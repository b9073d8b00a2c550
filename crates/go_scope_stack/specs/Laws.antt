-- Laws of short declarations.
use Rattle.std.specs.Prelude.{◌≡◌, ℕ, false, List, ◌++◌}
use Rattle.go_scope_stack.specs.Blocks.{block_after, names_in, short_names, any_new, only_new}

-- the names that are new go last in their block, in their order, and the others leave it as it is
pub record AddsNew (X : Type 0) : Type 0 where
  pub added : (block names : List (List ℕ × X)) → block_after block names ≡ block ++ only_new (short_names block (names_in names)) names
  pub unchanged : (block names : List (List ℕ × X)) → any_new (short_names block (names_in names)) ≡ false → block_after block names ≡ block
