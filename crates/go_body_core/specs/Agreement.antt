-- Two rules that say the same of each piece of a function say the same of the function.
use Rattle.std.specs.Prelude.{◌≡◌, ℕ, List, [], map, Option}
use Rattle.go_tree_nodes.specs.Trees.{FuncTree}
use Rattle.go_local_core.specs.Steps.{Steps, Done, Check, Declare, Inner}
use Rattle.go_local_core.specs.Outline.{func_steps, func_opens}
use Rattle.go_local_core.specs.Binding.{Local, bound, is_first}
use Rattle.go_local_core.specs.Law.{Rules}
use Rattle.go_local_core.specs.Tables.{out_by_intervals, IsTable}

-- where names are bound by these declarations, both rules note the same of each piece of the steps of a block, and the names that it declares
-- mean the same
abbrev pub NoteAlike : {X N : Type 0} → Rules X N → Rules X N → (List ℕ → Option X) → List (Local X) → ℕ → Steps → Type 0
NoteAlike rules other beyond all opens Done = Unit {0}
NoteAlike rules other beyond all opens (Check p rest) = (rules.notes (bound beyond all) [] p ≡ other.notes (bound beyond all) [] p) × NoteAlike rules other beyond all opens rest
NoteAlike rules other beyond all opens (Declare m from p xs rest) =
    (rules.notes (bound beyond all) (map (is_first all opens) xs) p ≡ other.notes (bound beyond all) (map (is_first all opens) xs) p)
    × (rules.means (bound beyond all) (map (is_first all opens) xs) p ≡ other.means (bound beyond all) (map (is_first all opens) xs) p)
    × NoteAlike rules other beyond all opens rest
NoteAlike rules other beyond all opens (Inner o c steps rest) = NoteAlike rules other beyond all o steps × NoteAlike rules other beyond all opens rest

-- then a list of declarations that is right by the one is right by the other, and both give the same of the function
abbrev pub AlikeRulesGiveOne : (X N : Type 0) → Type 0
AlikeRulesGiveOne X N =
    (rules other : Rules X N) (beyond : List ℕ → Option X) (f : FuncTree) (all : List (Local X))
    → IsTable rules beyond f all → NoteAlike rules other beyond all (func_opens f) (func_steps f)
    → IsTable other beyond f all × (out_by_intervals other beyond f all ≡ out_by_intervals rules beyond f all)
