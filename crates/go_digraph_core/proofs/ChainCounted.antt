-- Ends that are reached in as many steps as there are numbers.
use Rattle.std.proofs.Common.{◌≡◌, ℕ, zero, suc, ◌+◌, ◌<◌, ◌≤◌, inl, inr, Bool, true, false, not, List, [], ◌∷◌, ◌++◌, length, get_or, set, Option, Some, None, refl, sym, ap, ◌∙◌, subst, arith, replicate}
use Rattle.std.specs.List.{count_by, slice_get}
use Rattle.std.proofs.lemmas.Option.{slice_get-get_or, slice_get_within, get_or_from_slice_get}
use Rattle.std.proofs.lemmas.List.{length-append}
use Rattle.std.proofs.lemmas.List.Sums.{count_by-le-length}
use Rattle.std.proofs.Math.ListN.{length-set}
use Rattle.go_digraph_core.specs.chain.Chains.{AreEnds, ChainLeads, EndsAt}
use Rattle.go_digraph_core.specs.chain.Laws.{EndsAreCounted, counted_end, end_within}
use Rattle.go_digraph_core.proofs.ChainBack.{Passed, bool_cases, option_cases, passed_now, passed_still}
use Rattle.go_digraph_core.proofs.ChainChained.{leads_along, no_end_before, one_end, shared_end}
use Rattle.go_digraph_core.proofs.ChainLists.{fewer_left, marked_before, none_marked, unmarked_len}

-- what is counted is an end
pub counted_ends : (n : ℕ) (next : List (Option ℕ)) (i j : ℕ) (o : Option (Option ℕ)) → slice_get next i ≡ o → end_within n next i o ≡ Some j → EndsAt next i j
counted_ends n next i j None at e = absurd (cc)
counted_ends n next i j (Some None) at e = (let ij : i ≡ j = cc in let P : ℕ → Type 0 = λ x. slice_get next x ≡ Some None in ([], ij, subst P ij at))
counted_ends zero next i j (Some (Some k)) at e = absurd (cc)
counted_ends (suc n) next i j (Some (Some k)) at e = (let r = counted_ends n next k j (slice_get next k) refl e in (k ∷ r.0, (at, r.1), r.2))

-- two ways to a number that leads nowhere are as long
as_long : (next : List (Option ℕ)) (i k : ℕ) (path other : List ℕ) → ChainLeads next i path k → ChainLeads next i other k → slice_get next k ≡ Some None → length path ≡ length other
as_long next i k [] [] h e z = refl
as_long next i k [] (n ∷ other) h e z = (let P : ℕ → Type 0 = λ x. slice_get next x ≡ Some None in absurd (no_end_before next i n (subst P (sym h) z) e.0))
as_long next i k (m ∷ path) [] h e z = (let P : ℕ → Type 0 = λ x. slice_get next x ≡ Some None in absurd (no_end_before next i m (subst P (sym e) z) h.0))
as_long next i k (m ∷ path) (n ∷ other) h e z =
    let two = sym h.0 ∙ e.0 in
    let mn : n ≡ m = (cc) in
    let P : ℕ → Type 0 = λ x. ChainLeads next x other k in
    ap suc (as_long next m k path other h.1 (subst P mn e.1) z)

-- what leads back has no end
back_endless : (next : List (Option ℕ)) (j k : ℕ) → Passed next j j → EndsAt next j k → ⊥
back_endless next j k back e =
    let twice : ChainLeads next j ((back.0 ∷ back.1) ++ e.0) k = leads_along next j j k (back.0 ∷ back.1) e.0 back.2 e.1 in
    let same : length ((back.0 ∷ back.1) ++ e.0) ≡ length e.0 = as_long next j k ((back.0 ∷ back.1) ++ e.0) e.0 twice e.1 e.2 in
    let sum : length ((back.0 ∷ back.1) ++ e.0) ≡ length (back.0 ∷ back.1) + length e.0 = length-append (back.0 ∷ back.1) e.0 in
    omega (arith, same, sum)

none_leads : (next : List (Option ℕ)) (i j : ℕ) → slice_get next i ≡ None → EndsAt next i j → ⊥
none_leads next i j gone e = along e.0 e.1
  where
    along : (path : List ℕ) → ChainLeads next i path j → ⊥
    along [] h = (let P : ℕ → Type 0 = λ x. slice_get next x ≡ Some None in let both = sym gone ∙ subst P (sym h) e.2 in (cc))
    along (m ∷ path) h = (let both = sym gone ∙ h.0 in (cc))

-- the chain passes no number twice, so that what has no mark bounds its steps
module _ (next : List (Option ℕ)) (k : ℕ) where
  counted : (n : ℕ) (marks : List Bool) (at : ℕ) (o : Option (Option ℕ)) → slice_get next at ≡ o → length marks ≡ length next → count_by (λ m. not m) marks ≤ n → EndsAt next at k
      → ((j : ℕ) → get_or marks j false ≡ true → Passed next at j) → end_within n next at o ≡ Some k
  counted n marks at None s len few e passed = absurd (none_leads next at k s e)
  counted n marks at (Some None) s len few e passed = ap Some (one_end next at at k ([], refl, s) e)
  counted zero marks at (Some (Some f)) s len few e passed = elim (bool_cases (get_or marks at false)) [
    | inl m ↦ absurd (back_endless next at k (passed at m) e)
    | inr u ↦
        (let lt = slice_get_within next at (Some f) s in
        let fewer : count_by (λ m. not m) (set marks at true) < count_by (λ m. not m) marks = fewer_left marks at (omega (arith, lt, len)) u in
        absurd (omega (arith, fewer, few)))
  ]
  counted (suc n) marks at (Some (Some f)) s len few e passed = elim (bool_cases (get_or marks at false)) [
    | inl m ↦ absurd (back_endless next at k (passed at m) e)
    | inr u ↦
        (let lt = slice_get_within next at (Some f) s in
        let fewer : count_by (λ m. not m) (set marks at true) < count_by (λ m. not m) marks = fewer_left marks at (omega (arith, lt, len)) u in
        counted n (set marks at true) f (slice_get next f) refl (length-set marks at true ∙ len) (omega (arith, fewer, few)) (shared_end next at f k (f ∷ []) (s, refl) e)
        (λ j m. elim (marked_before marks at j m) [
          | inl q ↦ passed_now next at f j s q
          | inr o ↦ passed_still next at f j s (passed j o)
        ]))
  ]

-- as many steps as there are numbers lead to the end
counted_all : (next : List (Option ℕ)) (i j : ℕ) → EndsAt next i j → counted_end (length next) next i ≡ Some j
counted_all next i j e =
    let marks : List Bool = replicate (length next) false in
    let few : count_by (λ m. not m) marks ≤ length marks = count_by-le-length (λ m. not m) marks in
    let len : length marks ≡ length next = unmarked_len (length next) in
    counted next j (length next) marks i (slice_get next i) refl len (omega (arith, few, len)) e (λ m h. absurd (none_marked (length next) m h))

no_more : (n : ℕ) (next : List (Option ℕ)) (i : ℕ) → ((j : ℕ) → EndsAt next i j → ⊥) → None ≡ counted_end n next i
no_more n next i z = elim (option_cases (counted_end n next i)) [
  | inl e ↦ sym e
  | inr f ↦ absurd (z f.0 (counted_ends n next i f.0 (slice_get next i) refl f.1))
]

get_or_gone : (xs : List (Option ℕ)) (i : ℕ) → slice_get xs i ≡ None → get_or xs i None ≡ None
get_or_gone [] i h = refl
get_or_gone (x ∷ xs) zero h = absurd (cc)
get_or_gone (x ∷ xs) (suc i) h = get_or_gone xs i h

no_place : (next ends : List (Option ℕ)) (i : ℕ) → length ends ≡ length next → slice_get ends i ≡ None → slice_get next i ≡ None
no_place next ends i len gone = elim (option_cases (slice_get next i)) [
  | inl e ↦ e
  | inr f ↦
      (let lt = slice_get_within next i f.0 f.1 in
      let there : slice_get ends i ≡ Some (get_or ends i None) = slice_get-get_or ends i None (omega (arith, lt, len)) in
      let both = sym gone ∙ there in
      absurd (cc))
]

counted_by : (next ends : List (Option ℕ)) → AreEnds next ends → (i : ℕ) (o : Option (Option ℕ)) → slice_get ends i ≡ o → get_or ends i None ≡ counted_end (length next) next i
counted_by next ends are i None at = get_or_gone ends i at ∙ sym (ap (end_within (length next) next i) (no_place next ends i are.as_many at))
counted_by next ends are i (Some None) at = get_or_from_slice_get ends i None None at ∙ no_more (length next) next i (λ j e. are.endless i j at e)
counted_by next ends are i (Some (Some j)) at = get_or_from_slice_get ends i (Some j) None at ∙ sym (counted_all next i j (are.ends_at i j at))

pub ends_are_counted : EndsAreCounted
ends_are_counted = record {
  counted = λ next i j. (counted_all next i j, counted_ends (length next) next i j (slice_get next i) refl);
  listed = λ next ends are i. counted_by next ends are i (slice_get ends i) refl;
}
