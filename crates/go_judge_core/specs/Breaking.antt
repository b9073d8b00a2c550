-- Which rules a piece breaks.
--
-- docs/RULES.md, "Expressions: roles, order, faults of parts", "Assignments, declarations, returns, statements".
use Rattle.std.specs.Prelude.{◌≡◌, ◌⊎◌, ℕ, Bool, true, false, List, Option, Contains}
use Rattle.go_tree_nodes.specs.text_core.declared.rule.Rule.{Rule}
use Rattle.go_tree_nodes.specs.declared.decls.ValueKind.{ValueKind}
use Rattle.go_tree_nodes.specs.Trees.{ValueSpecTree}
use Rattle.go_tree_nodes.specs.Shapes.{shape, shape_simple, shape_some_exprs, shape_value_spec}
use Rattle.go_names_core.specs.local_core.declared.Fault.{Fault}
use Rattle.go_stmt_core.specs.denote_core.declared.things.Outcome.TheVariants as outcomes
use Rattle.go_stmt_core.specs.denote_core.declared.things.Stand.TheVariants as stands
use Rattle.go_stmt_core.specs.expr_core.declared.things.Use.{Use}
use Rattle.go_stmt_core.specs.expr_core.Looks.{Looks}
use Rattle.go_stmt_core.specs.expr_core.Uses.{uses}
use Rattle.go_stmt_core.specs.piece.Specifications.{outer_faults, spec_faults, spec_uses}
use Rattle.go_stmt_core.specs.piece.Statements.{condition_faults, returned_faults, returned_uses, simple_faults, simple_uses}
use Rattle.go_env_core.specs.declared.here.Here.{Here}
use Rattle.go_complete_core.specs.package_core.PackagePartParts.{PartModel}
use Rattle.go_judge_core.specs.declared.known.PackageKnown.{PackageKnown}
use Rattle.go_judge_core.specs.declared.pieces.Piece.{Piece}
use Rattle.go_judge_core.specs.declared.pieces.Piece.TheVariants as pieces
use Rattle.go_judge_core.specs.Places.{IsPlaceIn}
use Rattle.go_judge_core.specs.Written.{looks_at}

-- the faults of a specification, in a function or outside
abbrev pub spec_faults_in : {T S D P : Type 0} → Looks T S D P → Bool → ValueKind → ValueSpecTree → List Fault
spec_faults_in looks true kind v = spec_faults looks kind v
spec_faults_in looks false kind v = outer_faults looks kind v

-- what the identifiers and the calls of a piece have
abbrev pub uses_of : {T S D P : Type 0} → Looks T S D P → Piece → List (Use D P)
uses_of looks (pieces.«Simple» s) = simple_uses looks (shape_simple s.now)
uses_of looks (pieces.«Return» place values) = returned_uses looks (shape_some_exprs values.now)
uses_of looks (pieces.«Condition» e) = uses looks stands.«Value» (shape e.now)
uses_of looks (pieces.«Spec» kind v) = spec_uses looks (shape_value_spec v.now)

-- the faults of a piece
abbrev pub faults_of : {T S D P : Type 0} → Looks T S D P → Bool → List Bool → List (Option T) → Bool → Piece → List Fault
faults_of looks inside news results has_names (pieces.«Simple» s) = simple_faults looks news (shape_simple s.now)
faults_of looks inside news results has_names (pieces.«Return» place values) = returned_faults looks results has_names place (shape_some_exprs values.now)
faults_of looks inside news results has_names (pieces.«Condition» e) = condition_faults looks (shape e.now)
faults_of looks inside news results has_names (pieces.«Spec» kind v) = spec_faults_in looks inside kind (shape_value_spec v.now)

-- a fault of a rule lies at an offset
abbrev pub HasFault : List Fault → ℕ → Rule → Type 0
HasFault faults offset rule = Contains faults (record { offset = offset; rule = rule })

-- an occurrence stands at an offset and is refused by a rule
abbrev pub IsRefusedAt : {D P : Type 0} → Use D P → ℕ → Rule → Type 0
IsRefusedAt u offset rule = (u.offset ≡ offset) × (u.outcome ≡ outcomes.Refused rule)

abbrev pub HasRefusal : {D P : Type 0} → List (Use D P) → ℕ → Rule → Type 0
HasRefusal {D = D} {P = P} us offset rule = (u : Use D P) × Contains us u × IsRefusedAt u offset rule

-- a rule is among these faults and outcomes, at an offset
abbrev pub IsNoted : {D P : Type 0} → List (Use D P) → List Fault → ℕ → Rule → Type 0
IsNoted us faults offset rule = HasFault faults offset rule ⊎ HasRefusal us offset rule

-- a piece breaks a rule at an offset by what is known where it stands, in a function or outside, whatever names are new and whatever results are wanted
abbrev pub IsBroken : {T S D P : Type 0} → Looks T S D P → Piece → ℕ → Rule → Type 0
IsBroken {T = T} looks piece offset rule =
    (inside : Bool) × (news : List Bool) × (results : List (Option T)) × (has_names : Bool)
    × IsNoted (uses_of looks piece) (faults_of looks inside news results has_names piece) offset rule

-- a piece breaks a rule at an offset, at a place of the file with what is known of its package
abbrev pub BreaksIn : PartModel → PackageKnown → ℕ → Piece → ℕ → Rule → Type 0
BreaksIn p k file piece offset rule = (h : Here) × IsPlaceIn p k file h × IsBroken (looks_at h) piece offset rule
