-- A block: its names with what they are bound to, in the order in which they were bound.
use Rattle.std.specs.Prelude.{ℕ, Bool, not, List, [], ◌∷◌, ◌++◌, is_some, if◌then◌else◌}
use Rattle.std.specs.List.{filter}
-- the names of a table as a block, what a block has at a name, and its names in order
pub use Rattle.go_scope_stack.specs.Blocks.{block_of, in_block, names_in}

-- whether a block has a name
abbrev pub has : {X : Type 0} → List (List ℕ × X) → List ℕ → Bool
has block name = is_some (in_block block name)

-- a block with one more name, unless it has it
abbrev pub with_first : {X : Type 0} → List (List ℕ × X) → List ℕ → X → List (List ℕ × X)
with_first block name x = if has block name then block else block ++ (name, x) ∷ []

-- what a block binds names to that another has not
abbrev pub without : {X Z : Type 0} → List (List ℕ × Z) → List (List ℕ × X) → List (List ℕ × X)
without other block = filter (λ e. not (has other e.0)) block
