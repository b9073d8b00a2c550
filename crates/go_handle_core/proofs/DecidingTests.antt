-- Tests that decide.
use Rattle.std.proofs.Common.{◌≡◌, ◌↔◌, ℕ, Bool, true, false, not, ◌&&◌, ◌||◌, List, IsTrue, ◌⊎◌, inl, inr, refl, subst, eq-eqb}
use borrow.Author.Tests.{eqb-true}
use Rattle.std.specs.Prelude.{nat_eq}
use Rattle.std.proofs.lemmas.Bool.{and_parts, and_from, or_cases, or_left, or_right}
use Rattle.std.proofs.lemmas.Slice.Eq.{bytes_eq-Decides}
use Rattle.go_term_core.specs.decl_core.declared.keys.DeclKey.{DeclKey}
use Rattle.go_term_core.specs.declared.term.Basic.{Basic}
use Rattle.go_term_core.specs.declared.term.Basic.TheVariants as basics
use Rattle.go_term_core.specs.Identity.{TagsAgree}
use Rattle.go_table_core.specs.Entries.{same_key}
use Rattle.go_table_core.proofs.Keys.{same_key_itself, same_key_true}
use Rattle.go_denote_core.specs.operand_core.Values.{is_basic}
use Rattle.go_handle_core.specs.deciding.Identity.{tags_agree}
use Rattle.go_constant_core.specs.Values.{bool_same}

-- both of two tests
pub both_decide : {P Q : Type 0} (a b : Bool) → (IsTrue a ↔ P) → (IsTrue b ↔ Q) → IsTrue (a && b) ↔ (P × Q)
both_decide a b p q = (λ h. let x = and_parts a b h in (p.0 x.0, q.0 x.1), λ h. and_from a b (p.1 h.0) (q.1 h.1))

-- one of two tests
pub some_decide : {P Q : Type 0} (a b : Bool) → (IsTrue a ↔ P) → (IsTrue b ↔ Q) → IsTrue (a || b) ↔ (P ⊎ Q)
some_decide a b p q = (
  λ h. elim (or_cases a b h) [ inl x ↦ inl (p.0 x) | inr y ↦ inr (q.0 y) ],
  λ h. elim h [ inl x ↦ or_left a b (p.1 x) | inr y ↦ or_right a b (q.1 y) ],
)

-- a test that is never passed, of what never holds
pub never : {P : Type 0} → (P → ⊥) → IsTrue false ↔ P
never none = (λ h. cc, λ p. absurd (none p))

pub decides_not : {P : Type 0} (a : Bool) → (IsTrue a ↔ P) → IsTrue (not a) ↔ (P → ⊥)
decides_not true p = (λ h. cc, λ h. absurd (h (p.0 refl)))
decides_not false p = (λ h x. let z : false ≡ true = p.1 x in (cc), λ h. refl)

pub decides_number : (m n : ℕ) → IsTrue (nat_eq m n) ↔ (m ≡ n)
decides_number m n = (λ h. eqb-true m n h, λ h. eq-eqb m n h)

pub decides_flag : (a b : Bool) → IsTrue (bool_same a b) ↔ (a ≡ b)
decides_flag true true = (λ h. refl, λ h. refl)
decides_flag true false = (λ h. cc, λ h. cc)
decides_flag false true = (λ h. cc, λ h. cc)
decides_flag false false = (λ h. refl, λ h. refl)

pub decides_tags : (tags : Bool) (x y : List ℕ) → IsTrue (tags_agree tags x y) ↔ TagsAgree tags x y
decides_tags true x y = ((bytes_eq-Decides x y).0, (bytes_eq-Decides x y).1)
decides_tags false x y = (λ h. tt, λ h. refl)

pub decides_basic : (b c : Basic) → IsTrue (is_basic b c) ↔ (b ≡ c)
decides_basic basics.Bool basics.Bool = (λ h. refl, λ h. refl)
decides_basic basics.Bool basics.Int = (λ h. cc, λ h. cc)
decides_basic basics.Bool basics.Text = (λ h. cc, λ h. cc)
decides_basic basics.Int basics.Bool = (λ h. cc, λ h. cc)
decides_basic basics.Int basics.Int = (λ h. refl, λ h. refl)
decides_basic basics.Int basics.Text = (λ h. cc, λ h. cc)
decides_basic basics.Text basics.Bool = (λ h. cc, λ h. cc)
decides_basic basics.Text basics.Int = (λ h. cc, λ h. cc)
decides_basic basics.Text basics.Text = (λ h. refl, λ h. refl)

pub decides_key : (a b : DeclKey) → IsTrue (same_key a b) ↔ (a ≡ b)
decides_key a b = (λ h. same_key_true a b h, λ h. subst (λ k. same_key a k ≡ true) h (same_key_itself a))
