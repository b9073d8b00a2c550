-- The slots of the names behind the first.
use Rattle.std.specs.Prelude.{ℕ, List, [], ◌∷◌, ◌++◌, Option}
use Rattle.go_tree_nodes.specs.declared.names.NextIdent.{NextIdent}
use Rattle.go_code_core.specs.fragments.Names.{CodeLooks}
use Rattle.go_code_core.specs.fragments.Slots.{local_slot, new_slot, param_slot}

abbrev pub param_names_more : List NextIdent → List (Option ℕ)
param_names_more [] = []
param_names_more (n ∷ ns) = param_slot n.ident ∷ param_names_more ns

abbrev pub locals_more : List NextIdent → List (Option ℕ)
locals_more [] = []
locals_more (n ∷ ns) = local_slot n.ident ++ locals_more ns

abbrev pub new_more : CodeLooks → List NextIdent → List (Option ℕ)
new_more looks [] = []
new_more looks (n ∷ ns) = new_slot looks n.ident ++ new_more looks ns
