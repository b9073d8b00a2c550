-- Where faults stand, by the ends of their chains of causes.
use Rattle.std.proofs.Common.{◌≡◌, ◌≢◌, ◌<◌, ◌+◌, ◌⊎◌, inl, inr, ℕ, zero, suc, Bool, true, false, List, [], ◌∷◌, ◌++◌, length, get_or, nat_eq, Option, Some, None, refl, sym, ap, ◌∙◌, subst, arith}
use Rattle.std.specs.Prelude.{if◌then◌else◌}
use Rattle.std.specs.List.{Contains, slice_get}
use Rattle.std.proofs.lemmas.Option.{get_or_from_slice_get, slice_get_within}
use Rattle.std.proofs.lemmas.Cmp.{nat_eq_equiv}
use Rattle.go_digraph_core.specs.chain.Chains.{AreEnds, EndsAt}
use Rattle.go_digraph_core.specs.chain.Laws.{EndsAreCounted, counted_end}
use Rattle.go_cause_core.specs.declared.cause.Cause.{Cause}
use Rattle.go_cause_core.specs.declared.cause.Cause.TheVariants.{Root, Follows}
use Rattle.go_cause_core.specs.Causes.{AreRoots, HaveRoots, cause_at}
use Rattle.go_cause_core.proofs.Growing.{at_end, at_front, below_next}

pub more : (ends : List (Option ℕ)) (old new : List Cause) (n : ℕ) (c : Cause) → length old ≡ n → new ≡ old ++ c ∷ [] → c ≡ cause_at n (get_or ends n None)
    → ((i : ℕ) → i < n → slice_get old i ≡ Some (cause_at i (get_or ends i None))) → (i : ℕ) → i < n + 1 → slice_get new i ≡ Some (cause_at i (get_or ends i None))
more ends old new n c len is stands each i lt = elim (below_next i n lt) [
  | inl e ↦
      (let P : ℕ → Type 0 = λ x. slice_get new x ≡ Some (cause_at x (get_or ends x None)) in
      let last : slice_get new n ≡ Some c = ap (λ l. slice_get l n) is ∙ ap (slice_get (old ++ c ∷ [])) (sym len) ∙ at_end old c in
      subst P (sym e) (last ∙ ap Some stands))
  | inr less ↦ ap (λ l. slice_get l i) is ∙ at_front old c i (omega (arith, less, len)) ∙ each i less
]

pub are_roots : EndsAreCounted → (next ends : List (Option ℕ)) (causes : List Cause) → AreEnds next ends → length causes ≡ length ends
    → ((i : ℕ) → i < length ends → slice_get causes i ≡ Some (cause_at i (get_or ends i None))) → AreRoots next causes
are_roots law next ends causes are len each = record {
  as_many = len ∙ are.as_many;
  each = λ i lt. (let many : length ends ≡ length next = are.as_many in each i (omega (arith, lt, many)) ∙ ap (λ e. Some (cause_at i e)) (law.listed next ends are i));
}

-- what stands at an end
own_end : (n : ℕ) → cause_at n (Some n) ≡ Root
own_end n = ap (λ b. if b then Root else Follows n) (nat_eq_equiv.refl n)

end_is_root : EndsAreCounted → (next : List (Option ℕ)) (causes : List Cause) → AreRoots next causes → (i end : ℕ) → counted_end (length next) next i ≡ Some end → slice_get causes end ≡ Some Root
end_is_root law next causes are i end h =
    let at : EndsAt next i end = (law.counted next i end).1 h in
    let itself : EndsAt next end end = ([], refl, at.2) in
    let counted : counted_end (length next) next end ≡ Some end = (law.counted next end end).0 itself in
    are.each end (slice_get_within next end None at.2) ∙ ap (λ o. Some (cause_at end o)) counted ∙ ap Some (own_end end)

-- what follows has another fault for its end
apart : (a b : ℕ) → nat_eq a b ≡ false → a ≡ b → ⊥
apart a b differ same =
    let P : ℕ → Type 0 = λ x. nat_eq a x ≡ false in
    let own : nat_eq a a ≡ false = subst P (sym same) differ in
    let alike : nat_eq a a ≡ true = nat_eq_equiv.refl a in
    (cc)

by_test : (i end root : ℕ) (b : Bool) → nat_eq end i ≡ b → (if b then Root else Follows end) ≡ Follows root → (end ≡ root) × (root ≢ i)
by_test i end root true is h = absurd (cc)
by_test i end root false is h = (let same : end ≡ root = (cc) in (same, λ e. apart end i is (same ∙ e)))

follows_end : (i root : ℕ) (o : Option ℕ) → cause_at i o ≡ Follows root → (o ≡ Some root) × (root ≢ i)
follows_end i root None h = absurd (cc)
follows_end i root (Some end) h = (let found = by_test i end root (nat_eq end i) refl h in (ap Some found.0, found.1))

same_cause : (a b : Cause) → Some a ≡ Some b → a ≡ b
same_cause a b h = (cc)

named : EndsAreCounted → (next : List (Option ℕ)) (causes : List Cause) → AreRoots next causes → (i root : ℕ) → slice_get causes i ≡ Some (Follows root) → (root ≢ i) × (slice_get causes root ≡ Some Root)
named law next causes are i root h =
    let many : length causes ≡ length next = are.as_many in
    let within = slice_get_within causes i (Follows root) h in
    let stands = are.each i (omega (arith, within, many)) in
    let found = follows_end i root (counted_end (length next) next i) (same_cause _ _ (sym stands ∙ h)) in
    (found.1, end_is_root law next causes are i root found.0)

cause_cases : (c : Cause) → (c ≡ Root) ⊎ ((root : ℕ) × (c ≡ Follows root))
cause_cases Root = inl refl
cause_cases (Follows root) = inr (root, refl)

is_among : (causes : List Cause) (i : ℕ) (c : Cause) → slice_get causes i ≡ Some c → Contains causes c
is_among causes i c h = (i, slice_get_within causes i c h, get_or_from_slice_get causes i c c h)

never_silent : EndsAreCounted → (next : List (Option ℕ)) (causes : List Cause) → AreRoots next causes → 0 < length causes → Contains causes Root
never_silent law next causes are some =
    let many : length causes ≡ length next = are.as_many in
    let first : Cause = cause_at 0 (counted_end (length next) next 0) in
    let stands : slice_get causes 0 ≡ Some first = are.each 0 (omega (arith, some, many)) in
    elim (cause_cases first) [
      | inl e ↦ is_among causes 0 Root (stands ∙ ap Some e)
      | inr f ↦ is_among causes f.0 Root ((named law next causes are 0 f.0 (stands ∙ ap Some f.1)).1)
    ]

pub have_roots : EndsAreCounted → (next : List (Option ℕ)) (causes : List Cause) → AreRoots next causes → HaveRoots causes
have_roots law next causes are = record {
  named = λ i root h. named law next causes are i root h;
  never_silent = λ some. never_silent law next causes are some;
}
