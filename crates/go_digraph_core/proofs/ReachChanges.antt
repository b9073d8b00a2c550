-- What a change of the words does to the set.
use Rattle.std.proofs.Common.{◌≡◌, ◌⊎◌, ◌↔◌, inl, inr, ℕ, ◌*◌, ◌/◌, ◌%◌, ◌^◌, ◌<◌, ◌≤◌, true, List, [], ◌∷◌, ◌+◌, length, get_or, replicate, Contains, sym, ap, ◌∙◌, subst, arith, refl, bit_or, slice_set, length-set}
use Rattle.std.proofs.lemmas.Bool.{cases_lt, cases_eq, cases_Bool, both_ways}
use Rattle.std.proofs.lemmas.List.{get_or-replicate, get_or_past, length-replicate}
use Rattle.go_digraph_core.specs.reach.Numbers.{Numbers, no_numbers}
use Rattle.go_digraph_core.specs.reach.mirrors.Words.{has_bit, numbers_of, AreWords}
use Rattle.go_digraph_core.proofs.ReachBits.{AreUnited, has_here, has_other, has_none, united_cases, united_left, united_right}
use Rattle.go_digraph_core.proofs.ReachMembers.{in_numbers}

-- the members of a set that is seen
pub in_seen : (bound : ℕ) (ws : List ℕ) (seen : Numbers) → numbers_of bound ws ≡ seen → (k : ℕ) → Contains seen.members k ↔ ((k < bound) × (has_bit ws k ≡ true))
in_seen bound ws seen is k = (let P : Numbers → Type 0 = λ s. Contains s.members k ↔ ((k < bound) × (has_bit ws k ≡ true)) in subst P is (in_numbers bound ws k))

-- a set bit is a member's
bit_below : (bound : ℕ) (ws : List ℕ) → AreWords bound ws → (k : ℕ) → has_bit ws k ≡ true → k < bound
bit_below bound ws are k h = elim (cases_lt k bound) [
  | inl lt ↦ lt
  | inr past ↦ absurd (both_ways (has_bit ws k) (are.rest k past) h)
]

-- words without ones
abbrev pub zeros : ℕ → List ℕ
zeros n = replicate n 0

zero_words : (n m : ℕ) → get_or (zeros n) m 0 ≡ 0
zero_words n m = elim (cases_lt m n) [
  | inl lt ↦ get_or-replicate n m 0 0 lt
  | inr past ↦ (let len : length (replicate n 0) ≤ m = omega (arith, past, length-replicate {A = ℕ} n 0) in get_or_past (zeros n) m 0 len)
]

pub empty_words : (bound n : ℕ) (ws : List ℕ) → ws ≡ zeros n → n ≡ bound / 64 + 1 → AreWords bound ws
empty_words bound n ws e m = record {
  len = ap length e ∙ (length-replicate n 0 ∙ m);
  rest = λ k past. has_none ws k (ap (λ l. get_or l (k / 64) 0) e ∙ zero_words n (k / 64));
}

no_members : (xs : List ℕ) → ((k : ℕ) → Contains xs k → ⊥) → xs ≡ []
no_members [] h = refl
no_members (x ∷ xs) h = absurd (h x (let lt : 0 < length (x ∷ xs) = omega arith in (0, lt, refl)))

pub empty_numbers : (bound n : ℕ) (ws : List ℕ) → ws ≡ zeros n → numbers_of bound ws ≡ no_numbers bound
empty_numbers bound n ws e =
    let none = λ (k : ℕ) (h : Contains (numbers_of bound ws).members k). both_ways (has_bit ws k) (has_none ws k (ap (λ l. get_or l (k / 64) 0) e ∙ zero_words n (k / 64))) ((in_numbers bound ws k).0 h).1 in
    ap (λ ms. record { bound = bound; members = ms }) (no_members (numbers_of bound ws).members none)

-- the words with the bit of a number set, where the word was read before
abbrev pub after_insert : List ℕ → ℕ → ℕ → List ℕ
after_insert ws k w = slice_set ws (k / 64) (bit_or w (1 * 2 ^ (k % 64) % 2 ^ 64))

module _ (bound : ℕ) (ws : List ℕ) (seen : Numbers) (k w : ℕ) (is : numbers_of bound ws ≡ seen) (are : AreWords bound ws) (below : k < seen.bound) (read : w ≡ get_or ws (k / 64) 0) where
  inside : k < bound
  inside = omega (arith, below, ap (λ (s : Numbers). s.bound) is)

  place : k / 64 < length ws
  place = (let lt : k < bound = inside in omega (arith, are.len, lt))

  here : has_bit (after_insert ws k w) k ≡ true
  here = (let P : ℕ → Type 0 = λ x. has_bit (after_insert ws k x) k ≡ true in subst P (sym read) (has_here ws k place))

  other : (j : ℕ) → (j ≡ k → ⊥) → has_bit (after_insert ws k w) j ≡ has_bit ws j
  other j ne = (let P : ℕ → Type 0 = λ x. has_bit (after_insert ws k x) j ≡ has_bit ws j in subst P (sym read) (has_other ws k j place ne))

  pub insert_words : AreWords bound (after_insert ws k w)
  insert_words = record {
    len = length-set ws (k / 64) (bit_or w (1 * 2 ^ (k % 64) % 2 ^ 64)) ∙ are.len;
    rest = λ j past. (let ne = λ (e : j ≡ k). (let lt : k < bound = inside in let no : ⊥ = omega (arith, lt, past, e) in no) in other j ne ∙ are.rest j past);
  }

  pub insert_members : (j : ℕ) → Contains (numbers_of bound (after_insert ws k w)).members j ↔ ((j ≡ k) ⊎ Contains seen.members j)
  insert_members j =
      let new = in_numbers bound (after_insert ws k w) j in
      let old = in_seen bound ws seen is j in
      elim (cases_eq j k) [
        | inl same ↦ (
          (λ h. inl same),
          (λ h. new.1 ((let lt : k < bound = inside in let lt' : j < bound = omega (arith, same, lt) in lt'), ap (has_bit (after_insert ws k w)) same ∙ here)),
        )
        | inr ne ↦ (
          (λ h. inr (old.1 ((new.0 h).0, sym (other j ne) ∙ (new.0 h).1))),
          (λ h. elim h [ inl same ↦ absurd (ne same) | inr m ↦ new.1 ((old.0 m).0, other j ne ∙ (old.0 m).1) ]),
        )
      ]

module _ (bound bound' : ℕ) (ws vs zs : List ℕ) (seen seen' : Numbers) (is : numbers_of bound ws ≡ seen) (is' : numbers_of bound' vs ≡ seen') (are : AreWords bound ws) (are' : AreWords bound' vs) (within : seen'.bound ≤ seen.bound) (len : length zs ≡ length ws) (united : AreUnited ws vs zs) where
  bounds : bound' ≤ bound
  bounds = omega (arith, within, ap (λ (s : Numbers). s.bound) is, ap (λ (s : Numbers). s.bound) is')

  pub united_words : AreWords bound zs
  united_words = record {
    len = len ∙ are.len;
    rest = λ j past. elim (cases_Bool (has_bit zs j)) [
      | inl yes_here ↦ absurd (elim (united_cases ws vs zs j united yes_here) [
        | inl a ↦ both_ways (has_bit ws j) (are.rest j past) a
        | inr b ↦ (let le : bound' ≤ bound = bounds in let past' : bound' ≤ j = omega (arith, le, past) in both_ways (has_bit vs j) (are'.rest j past') b)
      ])
      | inr none_here ↦ none_here
    ];
  }

  pub united_members : (j : ℕ) → Contains (numbers_of bound zs).members j ↔ (Contains seen.members j ⊎ Contains seen'.members j)
  united_members j =
      let new = in_numbers bound zs j in
      let old = in_seen bound ws seen is j in
      let more = in_seen bound' vs seen' is' j in (
        (λ h. elim (united_cases ws vs zs j united (new.0 h).1) [
          | inl a ↦ inl (old.1 ((new.0 h).0, a))
          | inr b ↦ inr (more.1 (bit_below bound' vs are' j b, b))
        ]),
        (λ h. elim h [
          | inl a ↦ new.1 ((old.0 a).0, united_left ws vs zs j united (old.0 a).1)
          | inr b ↦ new.1 ((let le : bound' ≤ bound = bounds in let lt : j < bound = omega (arith, le, (more.0 b).0) in lt), united_right ws vs zs j united (more.0 b).1)
        ]),
      )
