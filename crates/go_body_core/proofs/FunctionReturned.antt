-- What a function returns has the types that its table has, since no local of the function is seen in its header.
use Rattle.std.proofs.Common.{◌≡◌, true, List, [], ◌∷◌, ◌++◌, refl, ap, ◌∙◌}
use Rattle.go_text_core.proofs.Each.{Each}
use Rattle.go_tree_nodes.specs.Trees.{TypeTree, SignatureTree, ResultTree, ParamTrees, Signed, NoResult, OneResult, Results, NoParams, Param}
use Rattle.go_tree_nodes.specs.WrittenTypes.{params_types, result_types, signature_types}
use Rattle.go_expr_core.specs.Denoting.{written_type}
use Rattle.go_stmt_core.specs.piece.Headers.{of_entry, entry_types, types_of_result, returned_types}
use Rattle.go_env_core.specs.Looks.{TheLooks}

pub each_left : {A : Type 0} (P : A → Type 0) (xs ys : List A) → Each P (xs ++ ys) → Each P xs
each_left P [] ys h = tt
each_left P (x ∷ xs) ys h = (h.0, each_left P xs ys h.1)

pub each_right : {A : Type 0} (P : A → Type 0) (xs ys : List A) → Each P (xs ++ ys) → Each P ys
each_right P [] ys h = h
each_right P (x ∷ xs) ys h = each_right P xs ys h.1

pub each_both : {A : Type 0} (P Q R : A → Type 0) → ((x : A) → P x → Q x → R x) → (xs : List A) → Each P xs → Each Q xs → Each R xs
each_both P Q R f [] h k = tt
each_both P Q R f (x ∷ xs) h k = (f x h.0 k.0, each_both P Q R f xs h.1 k.1)

module _ (looks other : TheLooks) where
  -- a type that is written out is one by both
  abbrev pub IsOne : TypeTree → Type 0
  IsOne t = written_type looks t ≡ written_type other t

  entries_same : (ps : ParamTrees) → Each IsOne (params_types ps) → entry_types looks true ps ≡ entry_types other true ps
  entries_same NoParams h = refl
  entries_same (Param xs t comma rest) h =
      ap (λ u. of_entry true xs u ++ entry_types looks true rest) h.0 ∙ ap (λ l. of_entry true xs (written_type other t) ++ l) (entries_same rest h.1)

  results_same : (r : ResultTree) → Each IsOne (result_types r) → types_of_result looks true r ≡ types_of_result other true r
  results_same NoResult h = refl
  results_same (OneResult t) h = ap (λ u. u ∷ []) h.0
  results_same (Results first params last) h = entries_same params h

  pub returned_same : (s : SignatureTree) → Each IsOne (signature_types s) → returned_types looks s ≡ returned_types other s
  returned_same (Signed first params last result) h = results_same result (each_right IsOne (params_types params) (result_types result) h)
