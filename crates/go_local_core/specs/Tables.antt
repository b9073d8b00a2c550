-- The declarations of a function with what they mean: there is one list that is right.
use Rattle.std.specs.Prelude.{◌≡◌, ℕ, List, [], Option, ◌↔◌}
use Rattle.go_tree_nodes.specs.Terminals.{InOrder}
use Rattle.go_tree_nodes.specs.Trees.{FuncTree}
use Rattle.go_tree_nodes.specs.Spelling.{spell_func}
use Rattle.go_local_core.specs.Binding.{Local}
use Rattle.go_local_core.specs.Law.{Rules, Out, law_out, IsRight}
use Rattle.go_local_core.specs.mirrors.Walk.{walk_out}
use Rattle.go_local_core.specs.Outline.{func_steps, func_opens, func_closes}
use Rattle.go_local_core.specs.Alike.{LookAtNames}

-- the tokens of a function follow one another
abbrev pub IsFuncPlaced : FuncTree → Type 0
IsFuncPlaced f = (low : ℕ) × ((high : ℕ) × InOrder low (spell_func f) high)

-- what comes of a function, on the way through it
abbrev pub walked : {X N : Type 0} → Rules X N → (List ℕ → Option X) → FuncTree → Out X N
walked rules beyond f = walk_out rules beyond [] [] (func_opens f) (func_closes f) (func_steps f)

-- what comes of a function, by intervals, where these are its declarations
abbrev pub out_by_intervals : {X N : Type 0} → Rules X N → (List ℕ → Option X) → FuncTree → List (Local X) → Out X N
out_by_intervals rules beyond f all = law_out rules beyond all (func_opens f) (func_closes f) (func_steps f)

-- a list of the declarations of a function is right where each means what its piece gives
abbrev pub IsTable : {X N : Type 0} → Rules X N → (List ℕ → Option X) → FuncTree → List (Local X) → Type 0
IsTable rules beyond f all = IsRight rules beyond (func_opens f) (func_closes f) (func_steps f) all

-- the list that the walk makes is right, no other is, and what comes of the walk is what it gives
abbrev pub OneTable : (X N : Type 0) → Type 0
OneTable X N =
    (rules : Rules X N) → LookAtNames X N rules → (beyond : List ℕ → Option X) (f : FuncTree) → IsFuncPlaced f
    → ((all : List (Local X)) → IsTable rules beyond f all ↔ (all ≡ (walked rules beyond f).declares)) × (out_by_intervals rules beyond f (walked rules beyond f).declares ≡ walked rules beyond f)
