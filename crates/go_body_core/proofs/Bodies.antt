-- What the check of a function gives, from what is noted of its pieces.
use Rattle.std.proofs.Common.{◌≡◌, ℕ, Bool, false, List, ◌++◌, map, Option, Result, Ok, Err, subst, sym, ap, ◌∙◌}
use Rattle.std.specs.Result.{IfOk}
use Rattle.go_tree_nodes.specs.Trees.{FuncTree}
use Rattle.go_term_core.specs.Terms.{Term}
use Rattle.go_local_core.specs.declared.Fault.{Fault}
use Rattle.go_local_core.specs.Law.{Rules, Out}
use Rattle.go_local_core.specs.Tables.{walked, out_by_intervals}
use Rattle.go_local_core.specs.walks.Ends.{lines_loop_faults}
use Rattle.go_names_core.specs.Body.{AreWalked, AreGiven}
use Rattle.go_expr_core.specs.Looks.{WrittenRules}
use Rattle.go_stmt_core.specs.piece.Headers.{returned_types, returned_names}
use Rattle.go_declared_core.specs.Faces.{TheFace}
use Rattle.go_env_core.specs.declared.meaning.Meaning.{Meaning}
use Rattle.go_env_core.specs.Scenes.{SceneModel}
use Rattle.go_body_core.specs.declared.body.CheckedBody.{CheckedBody}
use Rattle.go_body_core.specs.Notes.{TheUse, TheLocal, NoteOf, all_uses, noted_faults, all_locals}
use Rattle.go_body_core.specs.Rules.{body_rules, func_body_rules, outside_looks, outside_in}
use Rattle.go_body_core.specs.Body.{BodyOf, body_of, IsBody, IsWalkedBody, IsGivenBody}
use Rattle.go_body_core.specs.Ends.{end_faults}

body_by : (f : FuncTree) (o : Out Meaning NoteOf) (notes : List NoteOf) (names : List Fault) (us : List TheUse) (fs : List Fault) (ls : List TheLocal)
    → notes ≡ o.notes → names ≡ o.faults → IsBody f notes names us fs ls → (us ≡ (body_of f o).uses) × (fs ≡ (body_of f o).faults) × (ls ≡ (body_of f o).locals)
body_by f o notes names us fs ls n m h = (
  h.0 ∙ ap all_uses n,
  h.1
      ∙ (ap (λ ns. noted_faults ns ++ ((names ++ lines_loop_faults false f.body) ++ end_faults (all_uses ns) f)) n
      ∙ ap (λ xs. noted_faults o.notes ++ ((xs ++ lines_loop_faults false f.body) ++ end_faults (all_uses o.notes) f)) m),
  h.2 ∙ ap all_locals n,
)

module _ (s : SceneModel) (file : ℕ) (known : List (Option TheFace)) (written : WrittenRules Term) (f : FuncTree) where
  -- the rules for the results of a function's own header are its rules
  pub same_rules : (results : List (Option Term)) (has_names : Bool) → results ≡ returned_types (outside_looks s file known written) f.signature → has_names ≡ returned_names f.signature
      → body_rules s file known written results has_names ≡ func_body_rules s file known written f
  same_rules results has_names r h = ap (λ rs. body_rules s file known written rs has_names) r ∙ ap (body_rules s file known written (returned_types (outside_looks s file known written) f.signature)) h

  module _ (rules : Rules Meaning NoteOf) (same : rules ≡ func_body_rules s file known written f) (notes : List NoteOf) (names : List Fault) (us : List TheUse) (fs : List Fault) (ls : List TheLocal) where
    pub walked_by : AreWalked rules (outside_in s file) f notes names → IsBody f notes names us fs ls → IsWalkedBody s file known written f us fs ls
    walked_by made is =
        let right = subst (λ r. AreWalked r (outside_in s file) f notes names) same made in
        body_by f (walked (func_body_rules s file known written f) (outside_in s file) f) notes names us fs ls right.0 right.1 is

    pub given_by : AreGiven rules (outside_in s file) f notes names → IsBody f notes names us fs ls → IsGivenBody s file known written f us fs ls
    given_by made is all h =
        let right = subst (λ r. AreGiven r (outside_in s file) f notes names) same made all h in
        body_by f (out_by_intervals (func_body_rules s file known written f) (outside_in s file) f all) notes names us fs ls right.0 right.1 is

  module _ (rules : Rules Meaning NoteOf) (same : rules ≡ func_body_rules s file known written f) (notes : List NoteOf) (names list : List Fault) (are : names ≡ list) where
    pub walked_ok : {E : Type 0} (r : Result CheckedBody E) → AreWalked rules (outside_in s file) f notes list → IfOk r (λ b. IsBody f notes names b.uses.items b.faults.items b.locals.items) → IfOk r (λ b. IsWalkedBody s file known written f b.uses.items b.faults.items b.locals.items)
    walked_ok (Ok b) made is = walked_by rules same notes names b.uses.items b.faults.items b.locals.items (subst (λ l. AreWalked rules (outside_in s file) f notes l) (sym are) made) is
    walked_ok (Err e) made is = tt

    pub given_ok : {E : Type 0} (r : Result CheckedBody E) → AreGiven rules (outside_in s file) f notes list → IfOk r (λ b. IsBody f notes names b.uses.items b.faults.items b.locals.items) → IfOk r (λ b. IsGivenBody s file known written f b.uses.items b.faults.items b.locals.items)
    given_ok (Ok b) made is = given_by rules same notes names b.uses.items b.faults.items b.locals.items (subst (λ l. AreGiven rules (outside_in s file) f notes l) (sym are) made) is
    given_ok (Err e) made is = tt
