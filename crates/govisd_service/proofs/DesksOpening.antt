-- A session that was opened, or not.
use Rattle.std.proofs.Common.{◌≡◌, ◌⊎◌, ℕ, List, [], ◌∙◌, ap, inl, inr, ⊎_elim, subst}
use Rattle.go_path_core.specs.text_core.declared.rule.Rule.{Rule}
use Rattle.go_path_core.specs.text_core.declared.rule.Rule.TheVariants.{M0, O2}
use Rattle.go_path_core.specs.Path.{IsPath}
use Rattle.go_hall.specs.Refusals.{IsOpenRefusal}
use Rattle.go_board_core.specs.submit_core.Trees.{TreeModel, tree_with}
use Rattle.govisd_service.specs.desks.Sessions.{RefusesOpen}

pub opened_is : (text shown own : List ℕ) (draft : TreeModel) (submits : ℕ) → (own ≡ shown) × IsPath shown → shown ≡ text → (draft ≡ tree_with own []) × (submits ≡ 0)
    → IsPath text × (draft ≡ tree_with text []) × (submits ≡ 0)
opened_is text shown own draft submits r same s =
    let is : own ≡ text = r.0 ∙ same in
    (subst IsPath same r.1, s.0 ∙ ap (λ o. tree_with o []) is, s.1)

-- the text was not read as a module
pub not_read : (text shown : List ℕ) (rule : Rule) → ((rule ≡ M0) × IsPath shown) ⊎ ((rule ≡ O2) × ¬ IsPath shown) → shown ≡ text → RefusesOpen text rule
not_read text shown rule refused same =
    subst (λ (t : List ℕ). RefusesOpen t rule) same
    (⊎_elim (λ (m : (rule ≡ M0) × IsPath shown). inr (m.1, inl m.0)) (λ (o : (rule ≡ O2) × ¬ IsPath shown). inl o) refused)

-- the hall refused the module
pub not_opened : (text shown own : List ℕ) (rule : Rule) → (own ≡ shown) × IsPath shown → shown ≡ text → IsOpenRefusal own rule → RefusesOpen text rule
not_opened text shown own rule r same refused =
    subst (λ (t : List ℕ). RefusesOpen t rule) same (inr (r.1, subst (λ (t : List ℕ). IsOpenRefusal t rule) r.0 refused))
