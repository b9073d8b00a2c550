-- The declarations of a file are the same in two stands that agree on what is near.
use Rattle.std.proofs.Common.{◌≡◌, List, [], ◌++◌, refl}
use Rattle.std.specs.Prelude.{Option, Some, None, false}
use Rattle.std.specs.List.{flat_map}
use Rattle.go_path_core.specs.text_core.declared.span.Span.{Span}
use Rattle.go_tree_nodes.specs.declared.decls.ValueKind.{ValueKind}
use Rattle.go_tree_nodes.specs.declared.decls.ValueKind.TheVariants as kinds
use Rattle.go_tree_nodes.specs.Trees.{Separated, One, Then, ExprTree, Specs, ValueSpecTree, ValueTree, TypeDeclTree, of_specs}
use Rattle.go_names_core.specs.local_core.Steps.{Spec}
use Rattle.go_report_core.specs.denote_core.declared.things.Stand.TheVariants as stands
use Rattle.go_report_core.specs.expr_core.Looks.{Looks}
use Rattle.go_report_core.specs.expr_core.Places.{start}
use Rattle.go_report_core.specs.expr_core.Faults.{fault_at}
use Rattle.go_body_core.specs.stmt_core.ToplevelInitial.{initial_rule, list_initial_faults, values_initial_faults, initial_faults}
use Rattle.go_body_core.specs.stmt_core.ToplevelTops.{top_spec_faults, value_decl_uses, value_decl_faults, type_spec_uses, type_decl_uses}
use Rattle.go_body_core.specs.stmt_core.PieceSpecifications.{spec_uses}
use Rattle.go_snap_core.specs.near.Near.{NearRest}
use Rattle.go_snap_core.specs.near.Looks.{AreClosed, LooksAgree}
use Rattle.go_snap_core.proofs.NearExpressions.{denoted_same, type_used}
use Rattle.go_snap_core.proofs.NearPieces.{outer_nearby, pieces_nearby}

flat_same : {A B : Type 0} (f g : A → List B) (xs : List A) → ((x : A) → f x ≡ g x) → flat_map f xs ≡ flat_map g xs
flat_same f g xs h = λ j. flat_map (λ x. h x j) xs

specs_same : {A B : Type 0} (f g : A → List B) (xs : Specs A) → ((x : A) → f x ≡ g x) → of_specs f xs ≡ of_specs g xs
specs_same f g xs h = λ j. of_specs (λ x. h x j) xs

module _ {T S D P : Type 0} (Near : T → Type 0) (Rest : NearRest S D) (looks others : Looks T S D P) (law : AreClosed Near Rest looks) (agree : LooksAgree Near Rest looks others) where
  spec_used : (v : ValueSpecTree) → spec_uses looks v ≡ spec_uses others v
  spec_used v = (pieces_nearby Near Rest looks others law agree (Spec kinds.Var v)).uses

  pub values_used : (d : ValueTree) → value_decl_uses looks d ≡ value_decl_uses others d
  values_used d = specs_same (spec_uses looks) (spec_uses others) d.specs spec_used

  initial_list : (es : Separated ExprTree) → list_initial_faults looks es ≡ list_initial_faults others es
  initial_list (One e) = λ j. fault_at (start e) (initial_rule (denoted_same Near Rest looks others law agree stands.«Value» e j))
  initial_list (Then e comma more) = λ j. fault_at (start e) (initial_rule (denoted_same Near Rest looks others law agree stands.«Value» e j)) ++ initial_list more j

  initial_values : (es : Option (Span × Separated ExprTree)) → values_initial_faults looks es ≡ values_initial_faults others es
  initial_values None = refl
  initial_values (Some v) = initial_list v.1

  initial_same : (k : ValueKind) (v : ValueSpecTree) → initial_faults looks k v ≡ initial_faults others k v
  initial_same kinds.Const v = refl
  initial_same kinds.Var v = initial_values v.values

  top_same : (k : ValueKind) (v : ValueSpecTree) → top_spec_faults looks k v ≡ top_spec_faults others k v
  top_same k v = λ j. (outer_nearby Near Rest looks others law agree k v).faults j ++ initial_same k v j

  pub values_break : (d : ValueTree) → value_decl_faults looks d ≡ value_decl_faults others d
  values_break d = specs_same (top_spec_faults looks d.kind) (top_spec_faults others d.kind) d.specs (top_same d.kind)

  pub types_used : (d : TypeDeclTree) → type_decl_uses looks d ≡ type_decl_uses others d
  types_used d = specs_same (type_spec_uses looks) (type_spec_uses others) d.specs (λ x. type_used Near Rest looks others law agree x.type_expr)
