-- The order of faults.
use Rattle.std.proofs.Common.{◌≡◌, ◌⊎◌, inl, inr, ℕ, ◌<◌, true, List, get_or, refl, sym, ap, ◌∙◌, arith}
use Rattle.std.specs.Prelude.{AllPairs}
use Rattle.std.specs.Cmp.{IsTotalOrder, IsStrictWeakOrder, IsEquivalence}
use Rattle.std.specs.List.Sorted.{IsStrictlySortedBy}
use Rattle.std.specs.Ordering.{is_lt, is_eq, nat_cmp, ordering_then, eq_by_cmp}
use Rattle.std.specs.declared.cmp.Ordering.{Ordering}
use Rattle.std.specs.declared.cmp.Ordering.TheVariants.{Less, Equal, Greater}
use Rattle.std.proofs.lemmas.Bool.{true≢false}
use Rattle.std.proofs.lemmas.Cmp.{nat_cmp_total, nat_list_cmp_total, on_total, then_total, tied_itself, ranked, eq_by_cmp_equiv}
use Rattle.std.proofs.lemmas.List.Sorted.{ranks_by}
use Rattle.std.proofs.lemmas.Map.Keys.{Less-from_sorted}
use Rattle.std.proofs.lemmas.Map.Lookups.{exact_bytes}
use Rattle.go_path_core.specs.text_core.declared.rule.Rule.{Rule}
use Rattle.go_path_core.specs.text_core.Rules.{rule_number}
use Rattle.go_expr_core.specs.local_core.declared.Fault.{Fault}
use Rattle.go_report_core.specs.Faults.{number_order, fault_order, ComesBefore}
use Rattle.go_report_core.proofs.Numbers.{same_rule}

pub order_total : IsTotalOrder fault_order
order_total = then_total (on_total (λ (f : Fault). f.offset) nat_cmp_total) (on_total (λ (f : Fault). rule_number f.rule) nat_list_cmp_total)

pub order_weak : IsStrictWeakOrder (λ (f g : Fault). is_lt (fault_order f g))
order_weak = ranks_by order_total (λ (f : Fault). f)

pub order_equiv : IsEquivalence (eq_by_cmp fault_order)
order_equiv = eq_by_cmp_equiv order_total

-- what is no other by the order is the same

then_equal : (o p : Ordering) → ordering_then o p ≡ Equal → (o ≡ Equal) × (p ≡ Equal)
then_equal Less p h = cc
then_equal Equal p h = (refl, h)
then_equal Greater p h = cc

pub fault_is : (m n : ℕ) (r s : Rule) → m ≡ n → r ≡ s → (let a : Fault = record { offset = m; rule = r } in a) ≡ record { offset = n; rule = s }
fault_is m n r s e h = ap (λ k. let a : Fault = record { offset = k; rule = r } in a) e ∙ ap (λ t. let a : Fault = record { offset = n; rule = t } in a) h

pub order_same : (f g : Fault) → fault_order f g ≡ Equal → f ≡ g
order_same f g h =
    let both = then_equal (nat_cmp f.offset g.offset) (number_order f.rule g.rule) h in
    fault_is f.offset g.offset f.rule g.rule (ranked f.offset g.offset Equal (sym both.0)) (same_rule f.rule g.rule (exact_bytes (rule_number f.rule) (rule_number g.rule) both.1))

is_equal : (o : Ordering) → is_eq o ≡ true → o ≡ Equal
is_equal Less h = absurd (true≢false (sym h))
is_equal Equal h = refl
is_equal Greater h = absurd (true≢false (sym h))

pub tie_same : (f g : Fault) → eq_by_cmp fault_order f g ≡ true → f ≡ g
tie_same f g h = order_same f g (is_equal (fault_order f g) h)

pub tied : (f : Fault) → fault_order f f ≡ Equal
tied f = tied_itself order_total f

-- what comes before

then_less : (o p : Ordering) → ordering_then o p ≡ Less → (o ≡ Less) ⊎ ((o ≡ Equal) × (p ≡ Less))
then_less Less p h = inl refl
then_less Equal p h = inr (refl, h)
then_less Greater p h = cc

pub less_before : (f g : Fault) → fault_order f g ≡ Less → ComesBefore f g
less_before f g h =
    elim (then_less (nat_cmp f.offset g.offset) (number_order f.rule g.rule) h) [
      | inl e ↦ inl (ranked f.offset g.offset Less (sym e))
      | inr e ↦ inr (ranked f.offset g.offset Equal (sym e.0), e.1)
    ]

nat_less : (m n : ℕ) (o : Ordering) → o ≡ nat_cmp m n → m < n → o ≡ Less
nat_less m n Less e h = refl
nat_less m n Equal e h = absurd (omega (arith, h, ranked m n Equal e))
nat_less m n Greater e h = absurd (omega (arith, h, ranked m n Greater e))

nat_tied : (m n : ℕ) → m ≡ n → nat_cmp m n ≡ Equal
nat_tied m n e = ap (λ k. nat_cmp m k) (sym e) ∙ tied_itself nat_cmp_total m

pub before_less : (f g : Fault) → ComesBefore f g → fault_order f g ≡ Less
before_less f g (inl h) = ap (λ o. ordering_then o (number_order f.rule g.rule)) (nat_less f.offset g.offset (nat_cmp f.offset g.offset) refl h)
before_less f g (inr h) = ap (λ o. ordering_then o (number_order f.rule g.rule)) (nat_tied f.offset g.offset h.0) ∙ h.1

pub never_itself : (f : Fault) → ComesBefore f f → ⊥
never_itself f h = (let no : Equal ≡ Less = sym (tied f) ∙ before_less f f h in cc)

pub before_onward : (f g h : Fault) → ComesBefore f g → ComesBefore g h → ComesBefore f h
before_onward f g h a b = less_before f h (order_total.trans f g h (before_less f g a) (before_less g h b))

pub sorted_pairs : (fs : List Fault) → IsStrictlySortedBy fault_order fs → AllPairs ComesBefore fs
sorted_pairs fs h = λ i j d low high. less_before (get_or fs i d) (get_or fs j d) (Less-from_sorted fault_order fs i j d h low high)
