-- The slots of an order.
use Rattle.std.proofs.Common.{◌≡◌, ◌<◌, ◌≤◌, ◌≢◌, ⊎_elim, ℕ, ◌+◌, List, [], ◌∷◌, ◌++◌, length, get_or, set, take, replicate, sym, ◌∙◌, subst, arith, Some}
use Rattle.std.specs.Prelude.{slice_get, Contains, All}
use Rattle.std.proofs.lemmas.Bool.{cases_eq}
use Rattle.std.proofs.lemmas.List.{take_more, take_all, length-replicate}
use Rattle.std.proofs.lemmas.List.Elements.{Contains-push, Contains-push_cases, Contains-append_left}
use Rattle.go_batch_core.specs.declared.slot.Slot.{Slot}
use Rattle.go_batch_core.specs.declared.slot.Slot.TheVariants.{NoAction, Untaken}
use Rattle.go_batch_core.proofs.Slots.{at_set_same, at_set_other, length_set, at_replicate}

pub record AreOrdered (count : ℕ) (order : List ℕ) (slots : List Slot) : Type 0 where
  pub many : length slots ≡ count
  pub ordered : (n : ℕ) → Contains order n → slice_get slots n ≡ Some Untaken
  pub others : (n : ℕ) (s : Slot) → slice_get slots n ≡ Some s → (Contains order n → ⊥) → s ≡ NoAction

nothing_in : (n : ℕ) → Contains [] n → ⊥
nothing_in n h = omega (arith, h.1)

pub none_ordered : (count : ℕ) (slots : List Slot) → slots ≡ replicate count NoAction → AreOrdered count [] slots
none_ordered count slots is = subst (λ (l : List Slot). AreOrdered count [] l) (sym is) (record {
  many = length-replicate {A = Slot} count NoAction;
  ordered = λ n h. absurd (nothing_in n h);
  others = λ n s e none. at_replicate count n NoAction s e;
})

one_more : (count : ℕ) (order : List ℕ) (n : ℕ) (slots : List Slot) → n < count → AreOrdered count order slots → AreOrdered count (order ++ n ∷ []) (set slots n Untaken)
one_more count order n slots within so_far = record {
  many = length_set slots n Untaken ∙ so_far.many;
  ordered = λ m there. ⊎_elim
      (λ (same : m ≡ n). subst (λ (k : ℕ). slice_get (set slots n Untaken) k ≡ Some Untaken) (sym same) (at_set_same slots n Untaken (omega (arith, within, so_far.many))))
      (λ (ne : m ≢ n). at_set_other slots n m Untaken ne ∙ so_far.ordered m (⊎_elim (λ (old : Contains order m). old) (λ (new : n ≡ m). absurd (ne (sym new))) (Contains-push_cases order n m there)))
      (cases_eq m n);
  others = λ m s e none. ⊎_elim
      (λ (same : m ≡ n). absurd (none (subst (λ (k : ℕ). Contains (order ++ n ∷ []) k) (sym same) (Contains-push order n))))
      (λ (ne : m ≢ n). so_far.others m s (sym (at_set_other slots n m Untaken ne) ∙ e) (λ there. none (Contains-append_left order (n ∷ []) m there)))
      (cases_eq m n);
}

pub ordered_more : (count : ℕ) (order : List ℕ) (i : ℕ) (slots : List Slot) → i < length order → All (λ (n : ℕ). n < count) order → AreOrdered count (take i order) slots → AreOrdered count (take (i + 1) order) (set slots (get_or order i 0) Untaken)
ordered_more count order i slots within all so_far =
    subst (λ (l : List ℕ). AreOrdered count l (set slots (get_or order i 0) Untaken)) (sym (take_more order i 0 within)) (one_more count (take i order) (get_or order i 0) slots (all i 0 within) so_far)

pub ordered_all : (count : ℕ) (order : List ℕ) (i : ℕ) (slots : List Slot) → length order ≤ i → AreOrdered count (take i order) slots → AreOrdered count order slots
ordered_all count order i slots end so_far = subst (λ (l : List ℕ). AreOrdered count l slots) (take_all i order end) so_far
