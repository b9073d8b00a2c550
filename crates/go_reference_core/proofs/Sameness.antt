-- Whether two declarations are the same.
use Rattle.std.proofs.Common.{◌≡◌, ◌↔◌, ◌∙◌, ℕ, Bool, true, false, List, sym, ap, subst}
use Rattle.std.specs.Prelude.{IsTrue}
use Rattle.std.proofs.lemmas.Bool.{true≢false}
use Rattle.go_denote_core.specs.declared.things.Outcome.TheVariants as outcomes
use Rattle.go_handle_core.specs.Declarations.{Declaration, Universe, Package, InFile}
use Rattle.go_query_core.specs.report_core.UsageUsed.{FileUse, TheOutcome}
use Rattle.go_term_core.specs.declared.term.MemberPlace.{MemberPlace}
use Rattle.go_tree_core.specs.Occurrences.{is_identifier}
use Rattle.go_universe_core.specs.declared.Predeclared.{Predeclared}
use Rattle.go_query_core.specs.Defining.{Declares}
use Rattle.go_reference_core.specs.References.{HasDeclaration, IsRefused}

-- ---- the same declaration

universe_name : (a b : Predeclared) → Universe a ≡ Universe b → a ≡ b
universe_name a b e = cc

package_path : (a b : List ℕ) → Package a ≡ Package b → a ≡ b
package_path a b e = cc

file_path : (a b : List ℕ) (p q : MemberPlace) → InFile a p ≡ InFile b q → a ≡ b
file_path a b p q e = cc

file_place : (a b : List ℕ) (p q : MemberPlace) → InFile a p ≡ InFile b q → p ≡ q
file_place a b p q e = cc

pub same_universe : (r : Bool) (a b : Predeclared) (d : Declaration) → d ≡ Universe a → IsTrue r ↔ (a ≡ b) → IsTrue r ↔ (d ≡ Universe b)
same_universe r a b d is test = (λ (on : IsTrue r). is ∙ ap Universe (test.0 on), λ (e : d ≡ Universe b). test.1 (universe_name a b (sym is ∙ e)))

pub same_package : (r : Bool) (a b : List ℕ) (d : Declaration) → d ≡ Package a → IsTrue r ↔ (a ≡ b) → IsTrue r ↔ (d ≡ Package b)
same_package r a b d is test = (λ (on : IsTrue r). is ∙ ap Package (test.0 on), λ (e : d ≡ Package b). test.1 (package_path a b (sym is ∙ e)))

pub same_place : (r : Bool) (a b : List ℕ) (p q : MemberPlace) (d : Declaration) → d ≡ InFile a p → IsTrue r ↔ ((p ≡ q) × (a ≡ b)) → IsTrue r ↔ (d ≡ InFile b q)
same_place r a b p q d is test = (
  λ (on : IsTrue r). is ∙ (ap (λ (x : List ℕ). InFile x p) (test.0 on).1 ∙ ap (InFile b) (test.0 on).0),
  λ (e : d ≡ InFile b q). test.1 (file_place a b p q (sym is ∙ e), file_path a b p q (sym is ∙ e)),
)

-- ---- what an occurrence has

-- an outcome has one declaration
one_declaration : (o : TheOutcome) (d e : Declaration) → Declares o d → Declares o e → d ≡ e
one_declaration (outcomes.Declared x) d e p q = p ∙ sym q
one_declaration (outcomes.Selected x path) d e p q = p ∙ sym q
one_declaration (outcomes.Refused rule) d e p q = absurd p

no_declaration : (o : TheOutcome) (d : Declaration) → IsRefused o → Declares o d → ⊥
no_declaration (outcomes.Declared x) d refused h = absurd refused
no_declaration (outcomes.Selected x path) d refused h = absurd refused
no_declaration (outcomes.Refused rule) d refused h = absurd h

module _ (u : FileUse) (d : Declaration) where
  pub no_identifier : (b : Bool) → b ≡ is_identifier u.role → b ≡ false → IsTrue false ↔ HasDeclaration d u
  no_identifier b is off = (λ (on : IsTrue false). absurd (true≢false (sym on)), λ (h : HasDeclaration d u). absurd (true≢false (sym h.identifier ∙ (sym is ∙ off))))

  pub refused : IsRefused u.outcome → IsTrue false ↔ HasDeclaration d u
  refused none = (λ (on : IsTrue false). absurd (true≢false (sym on)), λ (h : HasDeclaration d u). absurd (no_declaration u.outcome d none h.declares))

  pub compared : (b same : Bool) (own shown : Declaration) → b ≡ is_identifier u.role → b ≡ true → Declares u.outcome own → shown ≡ own → IsTrue same ↔ (shown ≡ d) → IsTrue same ↔ HasDeclaration d u
  compared b same own shown is on has shows test = (
    λ (met : IsTrue same). record { identifier = sym is ∙ on; declares = subst (Declares u.outcome) (sym shows ∙ test.0 met) has },
    λ (h : HasDeclaration d u). test.1 (shows ∙ one_declaration u.outcome own d has h.declares),
  )
