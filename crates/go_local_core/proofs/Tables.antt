-- There is one list of the declarations of a function that is right.
use Rattle.std.proofs.Common.{◌≡◌, ℕ, ◌+◌, true, false, List, [], Option, sym, ap, subst, ◌∙◌, ◌↔◌, arith}
use Rattle.std.proofs.lemmas.List.{append-nil}
use Rattle.go_tree_nodes.specs.Trees.{FuncTree}
use Rattle.go_local_core.specs.Binding.{Local}
use Rattle.go_local_core.specs.Law.{Rules, Out}
use Rattle.go_local_core.specs.Outline.{func_steps, func_opens, func_closes}
use Rattle.go_local_core.specs.Alike.{LookAtNames}
use Rattle.go_local_core.specs.Tables.{IsFuncPlaced, walked, out_by_intervals, IsTable, OneTable}
use Rattle.go_local_core.proofs.Placed.{func_placed}
use Rattle.go_local_core.proofs.Fits.{fits_start}
use Rattle.go_local_core.proofs.Agreement.{steps_agree}

module _ (X N : Type 0) (rules : Rules X N) (at_names : LookAtNames X N rules) (beyond : List ℕ → Option X) (f : FuncTree) (placed : IsFuncPlaced f) where
  -- a right list is the walk's
  right_is : (all : List (Local X)) → IsTable rules beyond f all → out_by_intervals rules beyond f all ≡ walked rules beyond f
  right_is all h =
      steps_agree X N rules at_names beyond all true (func_steps f) [] [] [] [] (func_opens f) (func_closes f) (func_opens f + 1) (func_closes f) (fits_start X all (func_opens f) (func_closes f)) (func_placed f placed.0 placed.1.0 placed.1.1) (omega arith)
      (h ∙ sym (append-nil (out_by_intervals rules beyond f all).declares)) tt

  walk_is : out_by_intervals rules beyond f (walked rules beyond f).declares ≡ walked rules beyond f
  walk_is =
      let all = (walked rules beyond f).declares in
      steps_agree X N rules at_names beyond all false (func_steps f) [] [] [] [] (func_opens f) (func_closes f) (func_opens f + 1) (func_closes f) (fits_start X all (func_opens f) (func_closes f)) (func_placed f placed.0 placed.1.0 placed.1.1) (omega arith)
      (sym (append-nil all)) tt

  pub one_table_of : ((all : List (Local X)) → IsTable rules beyond f all ↔ (all ≡ (walked rules beyond f).declares)) × (out_by_intervals rules beyond f (walked rules beyond f).declares ≡ walked rules beyond f)
  one_table_of = (
    λ all. (
      λ h. h ∙ ap (λ (o : Out X N). o.declares) (right_is all h),
      λ e. subst (λ l. IsTable rules beyond f l) (sym e) (ap (λ (o : Out X N). o.declares) (sym walk_is)),
    ),
    walk_is,
  )

pub one_table : (X N : Type 0) → OneTable X N
one_table X N rules at_names beyond f placed = one_table_of X N rules at_names beyond f placed
