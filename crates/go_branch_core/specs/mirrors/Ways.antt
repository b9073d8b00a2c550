-- Ways through the steps of a function: from what is open and noted before them to what is after.
use Rattle.std.specs.Prelude.{◌≡◌, ℕ, false, Result, Ok, Err, List, [], ◌∷◌, ◌++◌}
use Rattle.std.specs.declared.alloc.AllocError.{AllocError}
use Rattle.go_local_core.specs.scope_stack.declared.DeclId.{DeclId}
use Rattle.go_scope_core.specs.block_core.Blocks.{BlocksModel}
use Rattle.go_scope_core.specs.Models.{scopes_model}
use Rattle.go_local_core.specs.Steps.{Steps, Done}
use Rattle.go_local_core.specs.Law.{Rules}
use Rattle.go_local_core.specs.mirrors.Walk.{Names, walk_out}
use Rattle.go_names_core.specs.declared.meaning.Outside.{Outside}
use Rattle.go_names_core.specs.declared.function.Checked.{Checked}
use Rattle.go_local_core.specs.declared.Fault.{Fault}
use Rattle.go_names_core.specs.Scope.{beyond_in}
use Rattle.go_names_core.specs.Scenes.{NameScene}
use Rattle.go_names_core.specs.mirrors.Run.{Noted, also}
use Rattle.go_names_core.specs.mirrors.States.{Blocks, State}
use Rattle.go_names_core.proofs.Runs.{EachBlock, Distinct, Shows, ShowAll, flat, noted_of}

-- these names are open, with what they mean: those of the blocks outside, and those of the innermost block
pub record IsOpen (X : Type 0) (around : BlocksModel) (file : ℕ) (s : NameScene X) (cs : List (Names X)) (c : Names X) : Type 0 where
  pub outer : Blocks
  pub block : List (List ℕ × DeclId)
  pub is : s.scopes ≡ scopes_model around file (outer ++ block ∷ [])
  pub shown : ShowAll s.locals outer cs
  pub here : Shows s.locals block c
  pub distinct : EachBlock Distinct cs
  pub first : Distinct c

-- these steps, before further ones, lead from the first state to the second: what is noted on the way through all of them is what is noted so far, and
-- what comes of the further ones with the names that are open then
pub record Comes (X N : Type 0) (outside : Outside → X) (a : State X N) (steps : Steps → Steps) (b : State X N) : Type 0 where
  pub rules : b.rules ≡ a.rules
  pub goes : (around : BlocksModel) (file : ℕ) (cs : List (Names X)) (c : Names X) → IsOpen X around file a.scene cs c
      → (d : Names X) × (IsOpen X around file b.scene cs d
      × ((o e : ℕ) (rest : Steps) → also a.noted (noted_of (walk_out a.rules (beyond_in outside around file) (flat cs) c o e (steps rest))) ≡ also b.noted (noted_of (walk_out a.rules (beyond_in outside around file) (flat cs) d o e rest))))

-- these are the last steps of a block: all that comes of them is noted, and the blocks outside are open as they were
pub record Ends (X N : Type 0) (outside : Outside → X) (a : State X N) (steps : Steps → Steps) (b : State X N) : Type 0 where
  pub rules : b.rules ≡ a.rules
  pub goes : (around : BlocksModel) (file : ℕ) (cs : List (Names X)) (c : Names X) → IsOpen X around file a.scene cs c
      → (d : Names X) × (IsOpen X around file b.scene cs d
      × ((o e : ℕ) → also a.noted (noted_of (walk_out a.rules (beyond_in outside around file) (flat cs) c o e (steps Done))) ≡ b.noted))

-- the same, where memory was not wanting
abbrev pub ComesTo : {X N : Type 0} → (Outside → X) → State X N → (Steps → Steps) → State X N → Type 0
ComesTo {X} {N} outside a steps b = b.lacks_memory ≡ false → (a.lacks_memory ≡ false) × Comes X N outside a steps b

abbrev pub EndsTo : {X N : Type 0} → (Outside → X) → State X N → (Steps → Steps) → State X N → Type 0
EndsTo {X} {N} outside a steps b = b.lacks_memory ≡ false → (a.lacks_memory ≡ false) × Ends X N outside a steps b

-- this comes of some steps, by what is open before them
abbrev pub IsNotedOf : {X N : Type 0} → (Outside → X) → Rules X N → NameScene X → Steps → Noted N → Type 0
IsNotedOf {X} outside rules s steps n =
    (around : BlocksModel) (file : ℕ) (cs : List (Names X)) (c : Names X) → IsOpen X around file s cs c → (o e : ℕ) → noted_of (walk_out rules (beyond_in outside around file) (flat cs) c o e steps) ≡ n

-- these were noted of two parts, that of the first before that of the second; of each something was noted
abbrev pub IsBoth : {N : Type 0} → Result (Checked N) AllocError → Result (Checked N) AllocError → List N → List Fault → Type 0
IsBoth (Ok a) (Ok b) ns fs = (ns ≡ a.notes.items ++ b.notes.items) × (fs ≡ a.faults.items ++ b.faults.items)
IsBoth (Ok a) (Err e) ns fs = ⊥
IsBoth (Err e) r ns fs = ⊥

-- the same, behind what was noted before
abbrev pub IsAdded : {N : Type 0} → Result (Checked N) AllocError → Result (Checked N) AllocError → List N → List Fault → List N → List Fault → Type 0
IsAdded {N} first second ns fs ns' fs' = (ms : List N) × ((gs : List Fault) × (IsBoth first second ms gs × ((ns' ≡ ns ++ ms) × (fs' ≡ fs ++ gs))))
