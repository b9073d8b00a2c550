-- What a program reaches.
--
-- docs/RULES.md, "Stack code".
use Rattle.std.specs.Prelude.{◌≡◌, ◌≤◌, ℕ, ◌+◌, ◌↔◌, Bool, true, false, List, [], ◌∷◌, ◌++◌, length, map, Option, Some, None, Contains, slice_get, slice_index_or}
use Rattle.std.specs.List.{flat_map}
use Rattle.go_object_core.specs.declared.instructions.instruction.Instruction.{Instruction}
use Rattle.go_object_core.specs.declared.instructions.instruction.Instruction.TheVariants as instructions
use Rattle.go_digraph_core.specs.declared.cycle.edge.Edge.{Edge}
use Rattle.go_digraph_core.specs.cycle.Cycle.{Reaches}
use Rattle.go_machine_core.specs.Programs.{LinkedOf}
use Rattle.go_machine_core.specs.link.Packages.{PackageOf}

abbrev pub edge : ℕ → ℕ → Edge
edge from to = record { from = from; to = to }

-- an edge to a number, where there is one
abbrev pub edge_if : ℕ → Option ℕ → List Edge
edge_if from None = []
edge_if from (Some to) = edge from to ∷ []

-- from rows that are numbered from the n-th on to the numbers in them
abbrev pub edges_from : ℕ → List (List (Option ℕ)) → List Edge
edges_from n [] = []
edges_from n (row ∷ rows) = flat_map (edge_if n) row ++ edges_from (n + 1) rows

-- from each package to those that it imports
abbrev pub import_edges : List PackageOf → List Edge
import_edges ps = edges_from 0 (map (λ p. p.imports) ps)

-- from each function to those that it refers to
abbrev pub call_edges : List LinkedOf → List Edge
call_edges fs = edges_from 0 (map (λ f. f.callees) fs)

-- the marks are on the packages that the package of a number reaches by imports, itself among them, and on no other
pub record AreReached (ps : List PackageOf) (from : ℕ) (marks : List Bool) : Type 0 where
  pub many : length marks ≡ length ps
  pub each : (n : ℕ) → (slice_index_or marks n false ≡ true) ↔ Reaches (import_edges ps) from n

abbrev pub has_none : List (Option ℕ) → Bool
has_none [] = false
has_none (None ∷ ns) = true
has_none (Some n ∷ ns) = has_none ns

-- a package that imports one that has no object
abbrev pub lacks_object : PackageOf → Bool
lacks_object p = has_none p.imports

-- code of a function of which none is made
abbrev pub is_outside : List Instruction → Bool
is_outside (instructions.Outside ∷ []) = true
is_outside code = false

-- a package that is reached imports one that has no object
pub record ReachesMissing (ps : List PackageOf) (from : ℕ) : Type 0 where
  pub number : ℕ
  pub lacking : PackageOf
  pub reached : Reaches (import_edges ps) from number
  pub is : slice_get ps number ≡ Some lacking
  pub lacks : lacks_object lacking ≡ true

-- references lead to a function of which no code is made, from one of those that begin the program
pub record ReachesOutside (fs : List LinkedOf) (starts : List ℕ) : Type 0 where
  pub start : ℕ
  pub number : ℕ
  pub function : LinkedOf
  pub begins : Contains starts start
  pub reached : Reaches (call_edges fs) start number
  pub is : slice_get fs number ≡ Some function
  pub outside : is_outside function.code ≡ true

-- it is the first of such functions, in their order
pub record IsFirstOutside (fs : List LinkedOf) (starts : List ℕ) (number : ℕ) : Type 0 where
  pub there : ReachesOutside fs starts
  pub here : there.number ≡ number
  pub first : (other : ReachesOutside fs starts) → number ≤ other.number
