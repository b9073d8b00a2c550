-- What a walk over a tree lists.
use Rattle.std.specs.Prelude.{◌≡◌, Bool, false, List, ◌++◌, map}
use Rattle.go_tree_nodes.specs.TypeShapes.{shape_type}
use Rattle.go_tree_nodes.specs.Trees.{TypeTree}
use Rattle.go_names_core.specs.local_core.declared.Fault.{Fault}
use Rattle.go_inline_core.specs.declared.listing.TypeList.{TypeList}
use Rattle.go_inline_core.specs.declared.repeated.FaultList.{FaultList}

-- what is listed, and whether memory was wanting
pub record Listed (A : Type 0) : Type 0 where
  pub items : List A
  pub lacks_memory : Bool

abbrev pub types_listed : TypeList → Listed TypeTree
types_listed a = record { items = map (λ t. shape_type t.now) a.trees.items; lacks_memory = a.lacks_memory }

abbrev pub faults_listed : FaultList → Listed Fault
faults_listed a = record { items = a.faults.items; lacks_memory = a.lacks_memory }

-- these are listed behind the others, unless memory was wanting
abbrev pub Adds : {A : Type 0} → Listed A → List A → Listed A → Type 0
Adds a xs b = b.lacks_memory ≡ false → (a.lacks_memory ≡ false) × (b.items ≡ a.items ++ xs)

abbrev pub Lists : TypeList → List TypeTree → TypeList → Type 0
Lists a xs b = Adds (types_listed a) xs (types_listed b)

abbrev pub Breaks : FaultList → List Fault → FaultList → Type 0
Breaks a xs b = Adds (faults_listed a) xs (faults_listed b)
