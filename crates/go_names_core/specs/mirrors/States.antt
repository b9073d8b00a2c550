-- States of a walk: the rules, the open names, what is noted so far, and whether memory was wanting.
use Rattle.std.specs.Prelude.{◌≡◌, ℕ, Bool, false, List, [], ◌∷◌, ◌++◌}
use Rattle.go_local_core.specs.scope_stack.declared.DeclId.{DeclId}
use Rattle.go_scope_core.specs.Models.{ScopesModel}
use Rattle.go_local_core.specs.declared.Fault.{Fault}
use Rattle.go_local_core.specs.Steps.{Steps}
use Rattle.go_local_core.specs.Law.{Rules}
use Rattle.go_names_core.specs.declared.meaning.Outside.{Outside}
use Rattle.go_names_core.specs.Scenes.{NameScene, name_scene, entered}
use Rattle.go_names_core.specs.mirrors.Run.{Noted, noted, before, run}

-- blocks of a function
abbrev pub Blocks : Type 0
Blocks = List (List (List ℕ × DeclId))

pub record State (X N : Type 0) : Type 0 where
  pub rules : Rules X N
  pub scene : NameScene X
  pub noted : Noted N
  pub lacks_memory : Bool

abbrev pub state : {X N : Type 0} → Rules X N → ScopesModel → List X → List N → List Fault → Bool → State X N
state rules s ms ns fs lacks = record { rules = rules; scene = name_scene s ms; noted = noted ns fs; lacks_memory = lacks }

-- the same blocks outside functions
abbrev pub SameAround : {X : Type 0} → NameScene X → NameScene X → Type 0
SameAround s t = (t.scopes.blocks ≡ s.scopes.blocks) × (t.scopes.file ≡ s.scopes.file)

-- these steps, before further ones, lead from the first state to the second
pub record IsAhead (X N : Type 0) (outside : Outside → X) (a : State X N) (steps : Steps → Steps) (b : State X N) : Type 0 where
  pub rules : b.rules ≡ a.rules
  pub around : SameAround a.scene b.scene
  pub outer : (outer : Blocks) (block : List (List ℕ × DeclId)) → a.scene.scopes.open_blocks ≡ outer ++ block ∷ [] → (other : List (List ℕ × DeclId)) × (b.scene.scopes.open_blocks ≡ outer ++ other ∷ [])
  pub noted : (rest : Steps) → before a.noted (run a.rules outside a.scene (steps rest)) ≡ before b.noted (run b.rules outside b.scene rest)

abbrev pub LeadsTo : {X N : Type 0} → (Outside → X) → State X N → (Steps → Steps) → State X N → Type 0
LeadsTo {X} {N} outside a steps b = b.lacks_memory ≡ false → (a.lacks_memory ≡ false) × IsAhead X N outside a steps b

abbrev pub EntersTo : {X N : Type 0} → State X N → State X N → Type 0
EntersTo a b = b.lacks_memory ≡ false → (a.lacks_memory ≡ false) × (b.rules ≡ a.rules) × (b.scene ≡ entered a.scene) × (b.noted ≡ a.noted)

abbrev pub LeavesTo : {X N : Type 0} → State X N → State X N → Type 0
LeavesTo a b = b.lacks_memory ≡ false → (a.lacks_memory ≡ false) × (b.rules ≡ a.rules) × SameAround a.scene b.scene × (b.scene.locals ≡ a.scene.locals) × (b.noted ≡ a.noted)
    × ((outer : Blocks) (block : List (List ℕ × DeclId)) → a.scene.scopes.open_blocks ≡ outer ++ block ∷ [] → b.scene.scopes.open_blocks ≡ outer)
