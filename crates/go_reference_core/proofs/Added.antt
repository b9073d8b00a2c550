-- Lists of references, step by step.
use Rattle.std.proofs.Common.{◌≡◌, ◌↔◌, ◌++◌, ◌+◌, ◌<◌, ◌⊎◌, ◌∙◌, inl, inr, ℕ, List, [], ◌∷◌, refl, sym, ap, subst, arith, append_assoc, append-nil}
use Rattle.std.specs.Prelude.{AllPairs}
use Rattle.std.proofs.lemmas.Bool.{cases_lt}
use Rattle.std.proofs.lemmas.List.Kept.{AllPairs-cons}
use Rattle.go_typexpr_core.proofs.EntryAmong.{Among, among_cases, among_from, among_left, among_right, among_to}
use Rattle.go_query_core.specs.snap_core.WholeWorkspaceLists.{all_from_among, pairs_head, pairs_tail}
use Rattle.go_reference_core.specs.declared.reference.Reference.{Reference}
use Rattle.go_reference_core.specs.References.{IsBefore}
use Rattle.go_reference_core.specs.mirrors.Adding.{Adds, Are}

pairs_append : {A : Type 0} (R : A → A → Type 0) (xs ys : List A) → AllPairs R xs → AllPairs R ys → ((x y : A) → Among xs x → Among ys y → R x y) → AllPairs R (xs ++ ys)
pairs_append {A} R [] ys h k f = k
pairs_append {A} R (x ∷ xs) ys h k f =
    AllPairs-cons R x (xs ++ ys)
    (all_from_among (R x) (xs ++ ys) (λ y at. both y (among_cases xs ys y at)))
    (pairs_append R xs ys (pairs_tail R x xs h) k (λ a b i j. f a b (inr i) j))
  where
    both : (y : A) → Among xs y ⊎ Among ys y → R x y
    both y (inl a) = pairs_head R x xs h y a
    both y (inr b) = f x y (inl refl) b

pub are_none : (Q : Reference → Type 0) → ((r : Reference) → Q r → ⊥) → Are Q []
are_none Q none = record { ordered = λ i j d lt below. absurd (omega (arith, below)); same = λ r. (λ c. absurd (omega (arith, c.1)), λ q. absurd (none r q)) }

pub are_one : (Q : Reference → Type 0) (x : Reference) → Q x → ((r : Reference) → Q r → r ≡ x) → Are Q (x ∷ [])
are_one Q x q only = record { ordered = λ i j d lt below. absurd (omega (arith, lt, below)); same = λ r. (λ c. by r (among_from (x ∷ []) r c), λ h. among_to (x ∷ []) r (inl (sym (only r h)))) }
  where
    by : (r : Reference) → Among (x ∷ []) r → Q r
    by r (inl e) = subst Q e q
    by r (inr h) = absurd h

pub are_both : (P Q R : Reference → Type 0) (xs ys : List Reference) → Are P xs → Are Q ys → ((a b : Reference) → P a → Q b → IsBefore a b) → ((r : Reference) → R r ↔ (P r ⊎ Q r)) → Are R (xs ++ ys)
are_both P Q R xs ys p q before same = record {
  ordered = pairs_append IsBefore xs ys p.ordered q.ordered (λ a b i j. before a b ((p.same a).0 (among_to xs a i)) ((q.same b).0 (among_to ys b j)));
  same = λ r. (λ c. (same r).1 (from r (among_cases xs ys r (among_from (xs ++ ys) r c))), λ h. among_to (xs ++ ys) r (to r ((same r).0 h)));
}
  where
    from : (r : Reference) → Among xs r ⊎ Among ys r → P r ⊎ Q r
    from r (inl a) = inl ((p.same r).0 (among_to xs r a))
    from r (inr a) = inr ((q.same r).0 (among_to ys r a))

    to : (r : Reference) → P r ⊎ Q r → Among (xs ++ ys) r
    to r (inl h) = among_left xs ys r (among_from xs r ((p.same r).1 h))
    to r (inr h) = among_right xs ys r (among_from ys r ((q.same r).1 h))

-- ---- what is added

pub adds_none : (Q : Reference → Type 0) (old : List Reference) → ((r : Reference) → Q r → ⊥) → Adds Q old old
adds_none Q old none = record { more = []; is = sym (append-nil old); are = are_none Q none }

pub adds_one : (Q : Reference → Type 0) (old new : List Reference) (x : Reference) → new ≡ old ++ x ∷ [] → Q x → ((r : Reference) → Q r → r ≡ x) → Adds Q old new
adds_one Q old new x is q only = record { more = x ∷ []; is = is; are = are_one Q x q only }

pub adds_same : (P Q : Reference → Type 0) (old new : List Reference) → ((r : Reference) → P r ↔ Q r) → Adds P old new → Adds Q old new
adds_same P Q old new same h = record {
  more = h.more;
  is = h.is;
  are = record { ordered = h.are.ordered; same = λ r. (λ c. (same r).0 ((h.are.same r).0 c), λ q. (h.are.same r).1 ((same r).1 q)) };
}

-- nothing has a number below 0
pub adds_start : (Q : Reference → Type 0) (ix : Reference → ℕ) (old : List Reference) → Adds (λ r. Q r × (ix r < 0)) old old
adds_start Q ix old = adds_none (λ r. Q r × (ix r < 0)) old (λ r h. (let low = h.1 in omega (arith, low)))

-- those of one number more
pub adds_step : (Q : Reference → Type 0) (ix : Reference → ℕ) (k : ℕ) (old mid new : List Reference) → ((a b : Reference) → Q a → Q b → ix a < ix b → IsBefore a b)
    → Adds (λ r. Q r × (ix r < k)) old mid → Adds (λ r. Q r × (ix r ≡ k)) mid new → Adds (λ r. Q r × (ix r < k + 1)) old new
adds_step Q ix k old mid new before a b = record {
  more = a.more ++ b.more;
  is = b.is ∙ (ap (λ (l : List Reference). l ++ b.more) a.is ∙ append_assoc old a.more b.more);
  are =
      are_both (λ r. Q r × (ix r < k)) (λ r. Q r × (ix r ≡ k)) (λ r. Q r × (ix r < k + 1)) a.more b.more a.are b.are
      (λ x y p q. (let low = p.1 in let at = q.1 in before x y p.0 q.0 (omega (arith, low, at)))) (λ r. (to r, from r));
}
  where
    to : (r : Reference) → Q r × (ix r < k + 1) → (Q r × (ix r < k)) ⊎ (Q r × (ix r ≡ k))
    to r h = (let low = h.1 in elim (cases_lt (ix r) k) [ inl lt ↦ inl (h.0, lt) | inr ge ↦ inr (h.0, omega (arith, low, ge)) ])

    from : (r : Reference) → (Q r × (ix r < k)) ⊎ (Q r × (ix r ≡ k)) → Q r × (ix r < k + 1)
    from r (inl h) = (let low = h.1 in (h.0, omega (arith, low)))
    from r (inr h) = (let at = h.1 in (h.0, omega (arith, at)))

-- all of them
pub adds_end : (Q : Reference → Type 0) (ix : Reference → ℕ) (n : ℕ) (old new : List Reference) → ((r : Reference) → Q r → ix r < n) → Adds (λ r. Q r × (ix r < n)) old new → Adds Q old new
adds_end Q ix n old new within h = adds_same (λ r. Q r × (ix r < n)) Q old new (λ r. (λ q. q.0, λ q. (q, within r q))) h
