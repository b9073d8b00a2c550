-- The marks of the elements of a literal, by their keys.
use Rattle.std.specs.Prelude.{ℕ, false, List, [], ◌∷◌, ◌++◌, Option, Some, None}
use Rattle.go_tree_nodes.specs.declared.exprs.Key.{Key}
use Rattle.go_tree_nodes.specs.Trees.{ItemTrees, NoItems, Item}
use Rattle.go_denote_core.specs.declared.composite.things.KeyMark.{KeyMark}
use Rattle.go_denote_core.specs.composite.Look.{FieldOf}
use Rattle.go_denote_core.specs.composite.Marks.{made_mark}
use Rattle.go_denote_core.specs.composite.Repeats.{has_name}
use Rattle.go_expr_core.specs.Elements.{key_names, all_keys}

-- that of an element without a key
abbrev pub unmarked : KeyMark
unmarked = record { is_repeated = false; field = None }

-- that of an element of a literal of a type with these fields, beside the other keys
abbrev pub mark_of : {T D : Type 0} → List (FieldOf T D) → Option Key → List (List ℕ) → KeyMark
mark_of fields None others = unmarked
mark_of fields (Some k) others = made_mark fields (has_name k.name.name others) k.name.name

-- those of all, behind elements with these keys
abbrev pub marks_of : {T D : Type 0} → List (FieldOf T D) → List (List ℕ) → ItemTrees → List KeyMark
marks_of fields before NoItems = []
marks_of fields before (Item key e comma rest) = mark_of fields key (before ++ all_keys rest) ∷ marks_of fields (before ++ key_names key) rest

-- the marks of keys, put to the elements that have them
abbrev pub spread : List KeyMark → ItemTrees → List KeyMark
spread known NoItems = []
spread known (Item None e comma rest) = unmarked ∷ spread known rest
spread [] (Item (Some k) e comma rest) = unmarked ∷ spread [] rest
spread (m ∷ known) (Item (Some k) e comma rest) = m ∷ spread known rest
