-- What an occurrence had, and has.
use Rattle.std.proofs.Common.{◌≡◌, ◌↔◌, ◌∙◌, ℕ, Bool, true, false, List, Option, Some, None, eqb, map, refl, sym, ap, subst, slice_get}
use Rattle.std.specs.Prelude.{IsTrue}
use Rattle.std.specs.Option.{option_map}
use Rattle.std.proofs.lemmas.Bool.{eq-eqb, eqb-true, true≢false}
use Rattle.std.proofs.lemmas.Option.{slice_get-map}
use Rattle.go_path_core.specs.text_core.declared.rule.Rule.{Rule}
use Rattle.go_term_core.specs.decl_core.declared.keys.DeclRef.{DeclRef}
use Rattle.go_term_core.specs.declared.term.LocalPlace.{LocalPlace}
use Rattle.go_term_core.specs.declared.term.MemberPlace.{MemberPlace}
use Rattle.go_term_core.specs.declared.term.MemberPlace.TheVariants as member
use Rattle.go_query_core.specs.snap_core.declared.fault.PlacedFault.{PlacedFault}
use Rattle.go_denote_core.specs.declared.things.Outcome.TheVariants as outcomes
use Rattle.go_graph_core.specs.Workspaces.{PackageModel}
use Rattle.go_handle_core.specs.Declarations.{Declaration, InFile}
use Rattle.go_query_core.specs.package_core.PackagePartParts.{PartModel}
use Rattle.go_query_core.specs.report_core.UsageUsed.{FileUse, TheOutcome}
use Rattle.go_reference_core.specs.rename.Moving.{IsMovedFault, IsMovedInFile, IsMovedOutcome, IsMovedPart, IsMovedPlace, IsMovedUse, Lies, Moves}
use Rattle.go_reference_core.proofs.RenameMoved.{never}

-- a list that is shown in another way, at a number
pub shown_there : {A B : Type 0} (f : A → B) (xs : List A) (i : ℕ) (o : Option A) → slice_get xs i ≡ o → slice_get (map f xs) i ≡ option_map f o
shown_there f xs i o at = slice_get-map f xs i ∙ ap (option_map f) at

-- numbers that are tested
pub number_test : (a b k : ℕ) → a ≡ k → IsTrue (eqb a b) ↔ (b ≡ k)
number_test a b k is = (λ on. sym (eqb-true a b on) ∙ is, λ e. eq-eqb a b (is ∙ sym e))

-- a test of one value is one of an equal value
pub at_value : {A : Type 0} (b : Bool) (P : A → Type 0) (x y : A) → x ≡ y → IsTrue b ↔ P y → IsTrue b ↔ P x
at_value b P x y is test = subst (λ z. IsTrue b ↔ P z) (sym is) test

pub nothing : IsTrue false ↔ ⊥
nothing = never ⊥ (λ x. x)

-- ---- outcomes

module _ (rule : Rule) (o : TheOutcome) where
  pub declared_not : (d : Declaration) → o ≡ outcomes.Declared d → IsTrue false ↔ (o ≡ outcomes.Refused rule)
  declared_not d is = never (o ≡ outcomes.Refused rule) (λ e. (let no : outcomes.Declared d ≡ outcomes.Refused rule = sym is ∙ e in cc))

  pub selected_not : (d : Declaration) (path : List ℕ) → o ≡ outcomes.Selected d path → IsTrue false ↔ (o ≡ outcomes.Refused rule)
  selected_not d path is = never (o ≡ outcomes.Refused rule) (λ e. (let no : outcomes.Selected d path ≡ outcomes.Refused rule = sym is ∙ e in cc))

  pub refused_by : (b : Bool) (its : Rule) → o ≡ outcomes.Refused its → IsTrue b ↔ (its ≡ rule) → IsTrue b ↔ (o ≡ outcomes.Refused rule)
  refused_by b its is test = (λ on. is ∙ ap (λ (r : Rule). outcomes.Refused r) (test.0 on), λ e. test.1 (let same : outcomes.Refused its ≡ outcomes.Refused rule = sym is ∙ e in cc))

module _ (m : Moves) (ps : List PackageModel) (number file : ℕ) (u v : FileUse) where
  pub lies_not : (b : Bool) → b ≡ false → IsTrue b ↔ Lies m number file u.offset v.offset → IsTrue false ↔ IsMovedUse m ps number file u v
  lies_not b off test = never (IsMovedUse m ps number file u v) (λ h. true≢false (sym (test.1 h.lies) ∙ off))

  pub role_not : (b : Bool) → b ≡ false → IsTrue b ↔ (v.role ≡ u.role) → IsTrue false ↔ IsMovedUse m ps number file u v
  role_not b off test = never (IsMovedUse m ps number file u v) (λ h. true≢false (sym (test.1 h.role) ∙ off))

  pub whole_use : (r lies role : Bool) → lies ≡ true → IsTrue lies ↔ Lies m number file u.offset v.offset → role ≡ true → IsTrue role ↔ (v.role ≡ u.role) → IsTrue r ↔ IsMovedOutcome m ps u.outcome v.outcome → IsTrue r ↔ IsMovedUse m ps number file u v
  whole_use r lies role a first b second test = (λ on. record { lies = first.0 a; role = second.0 b; outcome = test.0 on }, λ h. test.1 h.outcome)

-- ---- places

module _ (decl : DeclRef) (p : MemberPlace) where
  pub declared_there : (b : Bool) (own : DeclRef) → p ≡ member.Declared own → IsTrue b ↔ (own ≡ decl) → IsTrue b ↔ (p ≡ member.Declared decl)
  declared_there b own is test = (λ on. is ∙ ap (λ (d : DeclRef). member.Declared d) (test.0 on), λ e. test.1 (let same : member.Declared own ≡ member.Declared decl = sym is ∙ e in cc))

  pub local_there : (own : LocalPlace) → p ≡ member.Local own → IsTrue false ↔ (p ≡ member.Declared decl)
  local_there own is = never (p ≡ member.Declared decl) (λ e. (let no : member.Local own ≡ member.Declared decl = sym is ∙ e in cc))

module _ (m : Moves) (ps : List PackageModel) (path : List ℕ) (place : MemberPlace) (its : List ℕ) (there : MemberPlace) where
  pub other_path : (b : Bool) → b ≡ false → IsTrue b ↔ (its ≡ path) → IsTrue false ↔ IsMovedInFile m ps path place (InFile its there)
  other_path b off test = never (IsMovedInFile m ps path place (InFile its there)) (λ h. true≢false (sym (test.1 h.0) ∙ off))

  pub same_path : (b r : Bool) → b ≡ true → IsTrue b ↔ (its ≡ path) → IsTrue r ↔ IsMovedPlace m ps path place there → IsTrue r ↔ IsMovedInFile m ps path place (InFile its there)
  same_path b r on path_test test = (λ met. (path_test.0 on, test.0 met), λ h. test.1 h.1)

-- ---- parts

-- where nothing was assembled, nothing is
pub none_moved : (m : Moves) (ps : List PackageModel) (number : ℕ) (q : Option PartModel) → (q ≡ None) ↔ IsMovedPart m ps number None q
none_moved m ps number None = (λ e. tt, λ h. refl)
none_moved m ps number (Some q) = (λ e. (let no : Some q ≡ None = e in cc), λ h. absurd h)

-- ---- faults

module _ (m : Moves) (f g : PlacedFault) where
  pub fault_not : (IsMovedFault m f g → ⊥) → IsTrue false ↔ IsMovedFault m f g
  fault_not none = never (IsMovedFault m f g) none

  pub fault_lies : (b : Bool) → g.«package» ≡ f.«package» → g.file ≡ f.file → g.rule ≡ f.rule → IsTrue b ↔ Lies m f.«package» f.file f.offset g.offset → IsTrue b ↔ IsMovedFault m f g
  fault_lies b of_package file rule test = (λ on. record { of_package = of_package; file = file; rule = rule; lies = test.0 on }, λ h. test.1 h.lies)
