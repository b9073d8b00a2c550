-- What a piece of a function comes to is the same, and what its names stand for is near.
use Rattle.std.specs.Prelude.{◌≡◌, Bool, List, Option}
use Rattle.go_tree_nodes.specs.declared.decls.ValueKind.{ValueKind}
use Rattle.go_tree_nodes.specs.Trees.{ValueSpecTree}
use Rattle.go_names_core.specs.local_core.Steps.{Piece}
use Rattle.go_report_core.specs.expr_core.Looks.{Looks}
use Rattle.go_body_core.specs.stmt_core.PiecePieces.{piece_uses, piece_faults, piece_values}
use Rattle.go_body_core.specs.stmt_core.PieceSpecifications.{outer_faults, outer_values}
use Rattle.go_snap_core.specs.near.Near.{IfAny, NearOperand}
use Rattle.go_body_core.specs.stmt_core.StatementLocality.{Each}

-- in a function whose results have near types
pub record IsPieceNearby {T S D P : Type 0} (Near : T → Type 0) (looks others : Looks T S D P) (p : Piece) : Type 0 where
  pub near : (firsts : List Bool) → Each (IfAny (NearOperand Near)) (piece_values looks firsts p)
  pub values : (firsts : List Bool) → piece_values looks firsts p ≡ piece_values others firsts p
  pub uses : piece_uses looks p ≡ piece_uses others p
  pub faults : (results : List (Option T)) (has_names : Bool) (firsts : List Bool) → Each (IfAny Near) results → piece_faults looks results has_names firsts p ≡ piece_faults others results has_names firsts p

-- a specification outside functions
pub record IsOuterNearby {T S D P : Type 0} (Near : T → Type 0) (looks others : Looks T S D P) (k : ValueKind) (v : ValueSpecTree) : Type 0 where
  pub near : Each (IfAny (NearOperand Near)) (outer_values looks k v)
  pub values : outer_values looks k v ≡ outer_values others k v
  pub faults : outer_faults looks k v ≡ outer_faults others k v
