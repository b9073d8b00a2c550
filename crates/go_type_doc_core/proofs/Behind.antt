-- What a text names behind the name of another package and a dot.
use Rattle.std.proofs.Common.{◌≡◌, ◌⊎◌, inl, inr, ℕ, true, false, List, [], ◌∷◌, Option, Some, None, sym, ap, ◌∙◌, subst, if◌then◌else◌}
use Rattle.std.proofs.lemmas.Slice.Eq.{bytes_eq-Decides}
use Rattle.go_path_core.specs.text_core.Text.{is_blank}
use Rattle.go_path_core.specs.text_core.declared.rule.Rule.{Rule}
use Rattle.go_path_core.specs.text_core.declared.rule.Rule.TheVariants.{M0, S8}
use Rattle.go_tree_nodes.specs.declared.usage.Usage.TheVariants as usages
use Rattle.go_term_core.specs.Terms.{Term}
use Rattle.go_expr_core.specs.denote_core.Answers.{refused}
use Rattle.go_expr_core.specs.denote_core.Selectors.{exported_answer}
use Rattle.go_summary_core.specs.declared_core.declared.shown.ShownFace.{ShownFace}
use Rattle.go_summary_core.specs.declared_core.Packages.{PackageFacesModel, package_in, shown_by, shown_in_some}
use Rattle.go_package_core.specs.env_core.Found.{exported_shown}
use Rattle.go_summary_core.specs.Summaries.{SummaryModel}
use Rattle.go_package_core.specs.package_part.Inputs.{path_in}
use Rattle.go_package_core.specs.package_part.Parts.{IsPart, PartModel}
use Rattle.go_type_doc_core.specs.Names.{BreaksRule, NamesType, TheAnswer}
use Rattle.go_type_doc_core.specs.Naming.{IsOtherRefusal, IsOtherType, other_answer}
use Rattle.go_type_doc_core.specs.mirrors.Named.{IsNoneShown, IsTypeShown}
use Rattle.go_type_doc_core.specs.mirrors.Shown.{IsShownRefusal, IsShownType, shown_answer}

-- what a package shows is of its path
faces_path : (p : PartModel) → IsPart p.input p.content → p.content.summary.faces.path ≡ path_in p.input
faces_path p made = ap (λ (s : SummaryModel). s.faces.path) made.summary ∙ ap (λ (f : PackageFacesModel). f.path) made.is_checked.faces

alone : (path : List ℕ) (f : PackageFacesModel) → f.path ≡ path → package_in (f ∷ []) path ≡ Some f
alone path f is = ap (λ b. if b then Some f else None) ((bytes_eq-Decides path f.path).1 (sym is))

module _ (q p : PartModel) (made : IsPart p.input p.content) (name : List ℕ) where
  other_is : other_answer q p name ≡ shown_answer p name
  other_is =
      ap (λ o. if is_blank name then refused S8 else exported_answer usages.«Type» (exported_shown (path_in p.input) (shown_in_some o name)))
      (alone (path_in p.input) p.content.summary.faces (faces_path p made))

  pub other_typed : (t : Option Term) → IsShownType p name t → IsOtherType q p name t
  other_typed t h = subst (λ (a : TheAnswer). NamesType a t) (sym other_is) h

  pub other_refused : (rule : Rule) → IsShownRefusal p name rule → IsOtherRefusal q p name rule
  other_refused rule h = subst (λ (a : TheAnswer). BreaksRule a rule) (sym other_is) h

-- behind the name of the package of a part
module _ (p : PartModel) (name : List ℕ) (plain : is_blank name ≡ false) (f : PackageFacesModel) (same : f ≡ p.content.summary.faces) (shown : ShownFace) (is : shown ≡ shown_by f name) where
  answer_is : exported_answer usages.«Type» (exported_shown (path_in p.input) shown) ≡ shown_answer p name
  answer_is =
      ap (λ (s : ShownFace). exported_answer usages.«Type» (exported_shown (path_in p.input) s)) (is ∙ ap (λ (g : PackageFacesModel). shown_by g name) same)
      ∙ sym (ap (λ b. if b then refused S8 else exported_answer usages.«Type» (exported_shown (path_in p.input) (shown_by p.content.summary.faces name))) plain)

  pub plain_shown : (t : Option Term) → IsTypeShown shown t → IsShownType p name t
  plain_shown t h = subst (λ (a : TheAnswer). NamesType a t) answer_is (h (path_in p.input))

  pub plain_none : (rule : Rule) → (rule ≡ M0) ⊎ IsNoneShown shown rule → (rule ≡ M0) ⊎ IsShownRefusal p name rule
  plain_none rule (inl memory) = inl memory
  plain_none rule (inr h) = inr (subst (λ (a : TheAnswer). BreaksRule a rule) answer_is (h (path_in p.input)))

pub blank_shown : (p : PartModel) (name : List ℕ) → is_blank name ≡ true → IsShownRefusal p name S8
blank_shown p name is =
    let whole : shown_answer p name ≡ refused S8 = ap (λ b. if b then refused S8 else exported_answer usages.«Type» (exported_shown (path_in p.input) (shown_by p.content.summary.faces name))) is in
    ap (λ (a : TheAnswer). a.outcome) whole
