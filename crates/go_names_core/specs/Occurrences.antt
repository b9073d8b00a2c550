-- The uses of names in a function are those of its occurrences that are looked up in scope.
use Rattle.std.specs.Prelude.{◌≡◌, Bool, true, false, List, [], ◌∷◌, ◌++◌, if◌then◌else◌}
use Rattle.go_tree_nodes.specs.declared.names.Ident.{Ident}
use Rattle.go_tree_nodes.specs.Trees.{FuncTree}
use Rattle.go_tree_core.specs.declared.occurrence.Role.{Role}
use Rattle.go_tree_core.specs.declared.occurrence.Role.TheVariants as role
use Rattle.go_tree_core.specs.declared.occurrence.Occ.{Occ}
use Rattle.go_tree_core.specs.Occurrences.{func_occs}
use Rattle.go_local_core.specs.Steps.{Steps, Done, Check, Declare, Inner}
use Rattle.go_local_core.specs.Outline.{func_steps}
use Rattle.go_names_core.specs.Uses.{piece_used_idents}

-- an occurrence of this role is a name that is looked up in scope
abbrev pub is_looked_up : Role → Bool
is_looked_up role.«Type» = true
is_looked_up role.«Value» = true
is_looked_up role.Callee = true
is_looked_up role.Qualifier = true
is_looked_up role.Import = false
is_looked_up (role.Selector u) = false
is_looked_up role.Key = false
is_looked_up role.Call = false

-- those occurrences that are looked up
abbrev pub looked_up : List Occ → List Ident
looked_up [] = []
looked_up (o ∷ os) = (if is_looked_up o.role then record { name = o.spelling; span = o.span } ∷ [] else []) ++ looked_up os

-- the uses of the pieces of some steps
abbrev pub steps_uses : Steps → List Ident
steps_uses Done = []
steps_uses (Check p rest) = piece_used_idents p ++ steps_uses rest
steps_uses (Declare m from p xs rest) = piece_used_idents p ++ steps_uses rest
steps_uses (Inner o c steps rest) = steps_uses steps ++ steps_uses rest

-- the pieces of a function use those names among its occurrences that are looked up, each once and in their order
abbrev pub PieceNamesAreOccurrences : Type 0
PieceNamesAreOccurrences = (f : FuncTree) → looked_up (func_occs f) ≡ steps_uses (func_steps f)
