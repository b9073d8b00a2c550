-- What checking a function gives.
use Rattle.std.specs.Prelude.{◌≡◌, ℕ, suc, List, [], ◌∷◌, Option}
use Rattle.go_tree_nodes.specs.declared.names.Ident.{Ident}
use Rattle.go_tree_nodes.specs.declared.files.FuncDecl.{FuncDecl}
use Rattle.go_tree_nodes.specs.TypeShapes.{shape_signature}
use Rattle.go_tree_nodes.specs.Trees.{FuncTree}
use Rattle.go_local_core.specs.declared.Fault.{Fault}
use Rattle.go_local_core.specs.Steps.{Piece, Header}
use Rattle.go_local_core.specs.Outline.{header_idents}
use Rattle.go_local_core.specs.Binding.{Local}
use Rattle.go_local_core.specs.Law.{Rules}
use Rattle.go_local_core.specs.Tables.{walked, out_by_intervals, IsTable}

-- the names of a function's receiver, parameters and results, and what is checked of them
abbrev pub func_idents : FuncDecl → List Ident
func_idents f = header_idents f.receiver (shape_signature f.signature)

abbrev pub func_header : FuncDecl → Piece
func_header f = Header f.receiver (shape_signature f.signature)

-- what names mean, from the n-th on
abbrev pub each_means : {X : Type 0} → (ℕ → X) → ℕ → List Ident → List X
each_means means n [] = []
each_means means n (x ∷ xs) = means n ∷ each_means means (suc n) xs

-- what the rules note, and the faults of names, on the way through the function
abbrev pub AreWalked : {X N : Type 0} → Rules X N → (List ℕ → Option X) → FuncTree → List N → List Fault → Type 0
AreWalked rules beyond f notes faults = (notes ≡ (walked rules beyond f).notes) × (faults ≡ (walked rules beyond f).faults)

-- what they are by intervals: where all declarations of the function are given, each with what its piece gives under the names as they
-- are bound by these very declarations
abbrev pub AreGiven : {X N : Type 0} → Rules X N → (List ℕ → Option X) → FuncTree → List N → List Fault → Type 0
AreGiven {X} rules beyond f notes faults =
    (all : List (Local X)) → IsTable rules beyond f all → (notes ≡ (out_by_intervals rules beyond f all).notes) × (faults ≡ (out_by_intervals rules beyond f all).faults)
