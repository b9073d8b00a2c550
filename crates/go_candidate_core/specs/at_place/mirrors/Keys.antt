-- The keys of elements, as the loop over them goes.
use Rattle.std.specs.Prelude.{ℕ, suc, nat_eq, Bool, true, false, List, [], ◌∷◌, ◌++◌, Option}
use Rattle.go_tree_nodes.specs.declared.exprs.«Item» as declared_item
use Rattle.go_tree_nodes.specs.declared.exprs.Key.{Key}
use Rattle.go_tree_nodes.specs.Shapes.{shape_key}
use Rattle.go_expr_core.specs.Elements.{key_names}

abbrev pub key_unless : Bool → Option Key → List (List ℕ)
key_unless true k = []
key_unless false k = key_names k

-- those of elements of which the first is that of a number, but for that of another number
abbrev pub keys_but : ℕ → ℕ → List declared_item.Item → List (List ℕ)
keys_but at number [] = []
keys_but at number (x ∷ xs) = key_unless (nat_eq number at) (shape_key x.key) ++ keys_but at (suc number) xs
