-- Whether a name is among those of a form.
use Rattle.std.proofs.Common.{◌≡◌, ◌↔◌, ◌+◌, ◌<◌, ◌≤◌, ◌∙◌, inl, inr, ℕ, Bool, true, false, List, length, map, Some, Result, Ok, Err, refl, sym, ap, subst, arith}
use Rattle.std.specs.Option.{option_map}
use Rattle.std.specs.Prelude.{Contains, IsTrue, is_ok, slice_get}
use Rattle.std.specs.List.Sorted.{IsBinarySearchResult, IsSearchInRange, IsStrictlySortedBy}
use Rattle.std.proofs.lemmas.Bool.{cases_lt, true≢false}
use Rattle.std.proofs.lemmas.Option.{slice_get-get_or, slice_get-map}
use Rattle.go_typexpr_core.proofs.EntryAmong.{Among, among_from, among_map, among_to}
use Rattle.go_graph_core.specs.Workspaces.{by_bytes}
use Rattle.go_query_core.specs.snap_core.MakeSearching.{found, not_found}
use Rattle.go_query_core.specs.snap_core.WholeWorkspaceLists.{one_at}
use Rattle.go_reference_core.specs.forms.Forms.{IsAmongFirst, IsNamed}
use Rattle.go_reference_core.proofs.FormsRead.{contained}

module _ {A : Type 0} (key : A → List ℕ) (xs : List A) (name : List ℕ) where
  keyed : (k : ℕ) (x : A) → slice_get xs k ≡ Some x → key x ≡ name → Contains (map key xs) name
  keyed k x at same = contained (map key xs) k name (slice_get-map key xs k ∙ (ap (option_map key) at ∙ ap Some same))

  unkeyed : Contains (map key xs) name → (k : ℕ) × (x : A) × (slice_get xs k ≡ Some x) × (key x ≡ name)
  unkeyed c = by (among_map key xs name (among_from (map key xs) name c))
    where
      by : (x : A) × Among xs x × (key x ≡ name) → (k : ℕ) × (x : A) × (slice_get xs k ≡ Some x) × (key x ≡ name)
      by w = (let at = among_to xs w.0 w.1 in (at.0, w.0, slice_get-get_or xs at.0 w.0 at.1 ∙ ap Some at.2, w.2))

  -- a search answers whether it is there
  pub searched : (r : Result ℕ ℕ) → IsStrictlySortedBy by_bytes (map key xs) → IsSearchInRange r (length xs) → IsBinarySearchResult (λ x. by_bytes (key x) name) xs r → IsTrue (is_ok r) ↔ IsNamed (map key xs) name
  searched (Ok i) order within is = (λ on. (let f = found key xs name i within is in keyed i f.0 f.1 f.2), λ h. refl)
  searched (Err i) order within is = (λ on. absurd (true≢false (sym on)), λ h. (let u = unkeyed h in absurd (not_found key xs name i order is u.0 u.1 u.2 u.3)))

-- ---- the first so many forms

module _ (all : List (List (List ℕ))) (name : List ℕ) where
  -- it is among those of none before a number
  abbrev pub Missing : ℕ → Type 0
  Missing count = IsAmongFirst all count name → ⊥

  pub none_missing : Missing 0
  none_missing h = (let lt = h.below in omega (arith, lt))

  pub missing_more : (i : ℕ) (names : List (List ℕ)) (b : Bool) → slice_get all i ≡ Some names → b ≡ false → IsTrue b ↔ IsNamed names name → Missing i → Missing (i + 1)
  missing_more i names b at off test none h = elim (cases_lt h.number i) [
    | inl lt ↦ none (record { number = h.number; below = lt; among = h.among })
    | inr ge ↦
        let below = h.below in
        let here : h.number ≡ i = omega (arith, below, ge) in
        let same : h.among.names ≡ names = one_at all i h.among.names names (ap (λ (k : ℕ). slice_get all k) (sym here) ∙ h.among.there) at in
        let on = test.1 (subst (λ (ns : List (List ℕ)). IsNamed ns name) same h.among.among) in
        true≢false (sym on ∙ off)
  ]

  pub is_here : (i count : ℕ) (names : List (List ℕ)) (b : Bool) → i < count → slice_get all i ≡ Some names → b ≡ true → IsTrue b ↔ IsNamed names name → IsTrue true ↔ IsAmongFirst all count name
  is_here i count names b lt at on test = (λ met. record { number = i; below = lt; among = record { names = names; there = at; among = test.0 on } }, λ h. refl)

  pub is_nowhere : (i count : ℕ) → count ≤ i → Missing i → IsTrue false ↔ IsAmongFirst all count name
  is_nowhere i count le none = (λ on. absurd (true≢false (sym on)), λ h. (let lt = h.below in absurd (none (record { number = h.number; below = omega (arith, lt, le); among = h.among }))))
