-- The faults of a function, put together from those of its parts.
use Rattle.std.proofs.Common.{◌≡◌, false, List, ◌++◌, ap, ◌∙◌, append_assoc}
use Rattle.go_tree_nodes.specs.Trees.{FuncTree}
use Rattle.go_local_core.specs.declared.Fault.{Fault}
use Rattle.go_local_core.specs.walks.Ends.{lines_loop_faults}
use Rattle.go_body_core.specs.Notes.{TheUse, NoteOf, all_uses, noted_faults}
use Rattle.go_body_core.specs.Ends.{end_faults}

-- the lists of faults are those after the pieces, the names, `break` and `continue`, and the end
module _ (f : FuncTree) (notes : List NoteOf) (names loops slice : List Fault) (us used : List TheUse) (f0 f1 f2 f3 : List Fault) where
  pub gathers :
      us ≡ all_uses notes → f0 ≡ noted_faults notes → f1 ≡ f0 ++ names → loops ≡ lines_loop_faults false f.body → slice ≡ loops → f2 ≡ f1 ++ slice → used ≡ us → f3 ≡ f2 ++ end_faults used f
      → f3 ≡ noted_faults notes ++ ((names ++ lines_loop_faults false f.body) ++ end_faults (all_uses notes) f)
  gathers uses_are pieces_are names_added loops_are lent loops_added used_are ended =
      let a = noted_faults notes in
      let l = lines_loop_faults false f.body in
      let e = end_faults (all_uses notes) f in
      ended
      ∙ (ap (λ u. f2 ++ end_faults u f) (used_are ∙ uses_are)
      ∙ (ap (λ x. x ++ e) (loops_added ∙ (ap (λ x. x ++ slice) (names_added ∙ ap (λ x. x ++ names) pieces_are) ∙ (ap (λ x. (a ++ names) ++ x) (lent ∙ loops_are) ∙ append_assoc a names l)))
      ∙ append_assoc a (names ++ l) e))
