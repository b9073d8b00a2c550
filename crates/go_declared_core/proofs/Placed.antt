-- The order of declarations by file and number.
use Rattle.std.proofs.Common.{◌≡◌, ℕ, inl, inr, Bool, true, false, ◌&&◌, refl, sym, ap, ◌∙◌, arith, cond}
use Rattle.std.specs.Prelude.{nat_lt, nat_eq}
use Rattle.std.specs.Cmp.{IsTotalOrder}
use Rattle.std.specs.Ordering.{nat_cmp, is_lt, ordering_then, ordering_reverse}
use Rattle.std.specs.declared.cmp.Ordering.{Ordering}
use Rattle.std.specs.declared.cmp.Ordering.TheVariants.{Less, Equal, Greater}
use Rattle.std.proofs.lemmas.Bool.{and_parts, and_from, or_cases, eqb-true, eq-eqb, ltb-true}
use Rattle.std.proofs.lemmas.Cmp.{nat_cmp_total, on_total, then_total, ranked}
use Rattle.go_term_core.specs.decl_core.declared.keys.DeclRef.{DeclRef}
use Rattle.go_declared_core.specs.Written.{same_decl_place, IsDeclBefore}
use Rattle.go_term_core.specs.decl_core.Order.{place_cmp}

pub place_total : IsTotalOrder place_cmp
place_total = then_total (on_total (λ d. d.file) nat_cmp_total) (on_total (λ d. d.number) nat_cmp_total)

-- of one place

pub same_parts : (a b : DeclRef) → same_decl_place a b ≡ true → (a.file ≡ b.file) × (a.number ≡ b.number)
same_parts a b h = (let p = and_parts (nat_eq a.file b.file) (nat_eq a.number b.number) h in (eqb-true a.file b.file p.0, eqb-true a.number b.number p.1))

pub parts_same : (a b : DeclRef) → a.file ≡ b.file → a.number ≡ b.number → same_decl_place a b ≡ true
parts_same a b f n = and_from (nat_eq a.file b.file) (nat_eq a.number b.number) (eq-eqb a.file b.file f) (eq-eqb a.number b.number n)

pub same_itself : (a : DeclRef) → same_decl_place a a ≡ true
same_itself a = parts_same a a refl refl

pub equal_same : (a b : DeclRef) → place_cmp a b ≡ Equal → same_decl_place a b ≡ true
equal_same a b h = by (nat_cmp a.file b.file) (nat_cmp a.number b.number) refl refl h
  where
    by : (o r : Ordering) → nat_cmp a.file b.file ≡ o → nat_cmp a.number b.number ≡ r → ordering_then o r ≡ Equal → same_decl_place a b ≡ true
    by Less r e d k = absurd (let no : Less ≡ Equal = k in cc)
    by Equal Less e d k = absurd (let no : Less ≡ Equal = k in cc)
    by Equal Equal e d k = parts_same a b (ranked a.file b.file Equal (sym e)) (ranked a.number b.number Equal (sym d))
    by Equal Greater e d k = absurd (let no : Greater ≡ Equal = k in cc)
    by Greater r e d k = absurd (let no : Greater ≡ Equal = k in cc)

nat_equal : (a b : ℕ) → a ≡ b → nat_cmp a b ≡ Equal
nat_equal a b h = ap (λ t. cond t Less (cond (nat_eq a b) Equal Greater)) (less_not a b h) ∙ ap (λ t. cond t Equal Greater) (eq-eqb a b h)
  where
    less_not : (a b : ℕ) → a ≡ b → nat_lt a b ≡ false
    less_not a b h = by (nat_lt a b) refl
      where
        by : (t : Bool) → nat_lt a b ≡ t → t ≡ false
        by true e = (let lt = ltb-true a b e in absurd (omega (arith, h, lt)))
        by false e = refl

pub same_equal : (a b : DeclRef) → same_decl_place a b ≡ true → place_cmp a b ≡ Equal
same_equal a b h =
    let p = same_parts a b h in
    ap (λ o. ordering_then o (nat_cmp a.number b.number)) (nat_equal a.file b.file p.0) ∙ nat_equal a.number b.number p.1

-- before

less_is : (a b : ℕ) → nat_lt a b ≡ true → nat_cmp a b ≡ Less
less_is a b h = ap (λ t. cond t Less (cond (nat_eq a b) Equal Greater)) h

pub before_less : (a b : DeclRef) → IsDeclBefore a b → place_cmp a b ≡ Less
before_less a b h = elim (or_cases (nat_lt a.file b.file) (nat_eq a.file b.file && nat_lt a.number b.number) h) [
  | inl f ↦ ap (λ o. ordering_then o (nat_cmp a.number b.number)) (less_is a.file b.file f)
  | inr s ↦ (
      let p = and_parts (nat_eq a.file b.file) (nat_lt a.number b.number) s in
      ap (λ o. ordering_then o (nat_cmp a.number b.number)) (nat_equal a.file b.file (eqb-true a.file b.file p.0)) ∙ less_is a.number b.number p.1
      )
]

pub not_less_back : (a b : DeclRef) → place_cmp a b ≡ Less → is_lt (place_cmp b a) ≡ false
not_less_back a b h = ap is_lt (place_total.antisymm b a ∙ ap ordering_reverse h)

-- two of one place do not stand one before the other
pub less_apart : (a b d : DeclRef) → place_cmp a b ≡ Less → same_decl_place a d ≡ true → same_decl_place b d ≡ true → ⊥
less_apart a b d h k l =
    let p = same_parts a d k in
    let q = same_parts b d l in
    let no : Less ≡ Equal = sym h ∙ same_equal a b (parts_same a b (p.0 ∙ sym q.0) (p.1 ∙ sym q.1)) in
    cc
