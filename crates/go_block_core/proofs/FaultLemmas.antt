-- The order of faults.
use Rattle.std.proofs.Common.{◌≡◌, ◌+◌, Bool, true, false, ◌&&◌, List, get_or, refl, sym, ap, ◌∙◌}
use Rattle.std.specs.Cmp.{IsTotalOrder, IsEquivalence}
use Rattle.std.specs.Ordering.{nat_cmp, eq_by_cmp, ordering_then, is_eq, is_lt}
use Rattle.std.specs.declared.cmp.Ordering.TheVariants.{Equal}
use Rattle.std.specs.List.Sorted.{IsSorted}
use Rattle.std.proofs.lemmas.Bool.{eqb-true}
use Rattle.std.proofs.lemmas.Cmp.{nat_cmp_total, on_total, then_total, eq_by_cmp_equiv}
use Rattle.go_block_core.specs.declared.fault.BlockRule.{BlockRule}
use Rattle.go_block_core.specs.declared.fault.BlockRule.TheVariants.{B1, B2, B3}
use Rattle.go_block_core.specs.declared.fault.BlockFault.{BlockFault}
use Rattle.go_block_core.specs.contracts.fault.BlockRuleOrd.TheImpl as rule_ord
use Rattle.go_block_core.specs.contracts.fault.BlockRulePartialEq.TheImpl as rule_eq
use Rattle.go_block_core.specs.contracts.fault.BlockFaultOrd.TheImpl as fault_ord
use Rattle.go_block_core.specs.contracts.fault.BlockFaultPartialEq.TheImpl as fault_eq
use Rattle.go_block_core.specs.contracts.fault.BlockFaultOrd.TheImpl.Laws as laws
use Rattle.go_block_core.specs.Faults.{block_fault, fault_cmp, rank}

pub fault_total : IsTotalOrder fault_cmp
fault_total = then_total (on_total (λ f. f.file) nat_cmp_total) (then_total (on_total (λ f. f.offset) nat_cmp_total) (on_total (λ f. rank f.rule) nat_cmp_total))

-- the derived order is this one
same_rule : (r s : BlockRule) → (rule_ord.ghosts).cmp r s ≡ nat_cmp (rank r) (rank s)
same_rule B1 B1 = refl
same_rule B1 B2 = refl
same_rule B1 B3 = refl
same_rule B2 B1 = refl
same_rule B2 B2 = refl
same_rule B2 B3 = refl
same_rule B3 B1 = refl
same_rule B3 B2 = refl
same_rule B3 B3 = refl

pub same_cmp : (x y : BlockFault) → (fault_ord.ghosts).cmp x y ≡ fault_cmp x y
same_cmp x y = ap (λ o. ordering_then (nat_cmp x.file y.file) (ordering_then (nat_cmp x.offset y.offset) o)) (same_rule x.rule y.rule)

pub sorted_by_fault_cmp : (xs : List BlockFault) → IsSorted (fault_ord.ghosts).cmp xs → IsSorted fault_cmp xs
sorted_by_fault_cmp xs h = λ k d low high. ap is_lt (sym (same_cmp (get_or xs (k + 1) d) (get_or xs k d))) ∙ h k d low high

-- the derived equality is that of the order, and is equality
abbrev pub same : BlockFault → BlockFault → Bool
same x y = (fault_eq.ghosts).eq x y

pub same_eq : (x y : BlockFault) → same x y ≡ eq_by_cmp fault_cmp x y
same_eq x y = laws.matches_eq-law x y ∙ ap is_eq (same_cmp x y)

pub same_equiv : IsEquivalence same
same_equiv = let e = eq_by_cmp_equiv fault_total in record {
  refl = λ x. same_eq x x ∙ e.refl x;
  symm = λ x y. same_eq x y ∙ (e.symm x y ∙ sym (same_eq y x));
  congr = λ x y z h. same_eq x z ∙ (e.congr x y z (sym (same_eq x y) ∙ h) ∙ sym (same_eq y z));
}

pub both : (a b : Bool) → a && b ≡ true → (a ≡ true) × (b ≡ true)
both true b h = (refl, h)
both false b h = cc

rule_means : (r s : BlockRule) → (rule_eq.ghosts).eq r s ≡ true → r ≡ s
rule_means B1 B1 h = refl
rule_means B1 B2 h = (let j : false ≡ true = h in cc)
rule_means B1 B3 h = (let j : false ≡ true = h in cc)
rule_means B2 B1 h = (let j : false ≡ true = h in cc)
rule_means B2 B2 h = refl
rule_means B2 B3 h = (let j : false ≡ true = h in cc)
rule_means B3 B1 h = (let j : false ≡ true = h in cc)
rule_means B3 B2 h = (let j : false ≡ true = h in cc)
rule_means B3 B3 h = refl

pub same_means : (x y : BlockFault) → same x y ≡ true → x ≡ y
same_means x y h =
    let parts = both _ _ h in
    let rest = both _ _ parts.1 in
    ap (λ f. block_fault f x.offset x.rule) (eqb-true x.file y.file parts.0)
    ∙ (ap (λ o. block_fault y.file o x.rule) (eqb-true x.offset y.offset rest.0)
    ∙ ap (λ r. block_fault y.file y.offset r) (rule_means x.rule y.rule rest.1))

pub fault_equal : (x y : BlockFault) → fault_cmp x y ≡ Equal → x ≡ y
fault_equal x y h = same_means x y (same_eq x y ∙ ap is_eq h)
