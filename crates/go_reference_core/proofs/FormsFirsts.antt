-- Names that are listed form by form, step by step.
use Rattle.std.proofs.Common.{◌≡◌, ◌++◌, ◌+◌, ◌<◌, ◌≤◌, ◌⊎◌, ◌∙◌, inl, inr, ℕ, List, [], ◌∷◌, length, Some, refl, sym, ap, subst, arith}
use Rattle.std.specs.Prelude.{AllPairs, Contains, slice_get}
use Rattle.std.specs.declared.cmp.Ordering.TheVariants.{Less}
use Rattle.std.proofs.lemmas.Bool.{cases_lt}
use Rattle.std.proofs.lemmas.List.Kept.{AllPairs-cons}
use Rattle.std.proofs.lemmas.Option.{slice_get_within}
use Rattle.go_typexpr_core.proofs.EntryAmong.{Among, among_cases, among_from, among_left, among_right, among_to}
use Rattle.go_graph_core.specs.Workspaces.{by_bytes}
use Rattle.go_query_core.specs.snap_core.WholeWorkspaceLists.{all_from_among, one_at, pairs_head, pairs_tail}
use Rattle.go_reference_core.specs.forms.Forms.{ByForm, ByName, FittingModel, IsAmongFirst, IsBefore, IsFirst}
use Rattle.go_reference_core.specs.forms.mirrors.Listing.{AddsFirst, AreFirst, AreListed}

pairs_push : {A : Type 0} (R : A → A → Type 0) (xs : List A) (y : A) → AllPairs R xs → ((x : A) → Among xs x → R x y) → AllPairs R (xs ++ y ∷ [])
pairs_push {A} R [] y h f = λ i j d lt below. absurd (omega (arith, lt, below))
pairs_push {A} R (x ∷ xs) y h f =
    AllPairs-cons R x (xs ++ y ∷ []) (all_from_among (R x) (xs ++ y ∷ []) (λ z at. both z (among_cases xs (y ∷ []) z at))) (pairs_push R xs y (pairs_tail R x xs h) (λ z at. f z (inr at)))
  where
    both : (z : A) → Among xs z ⊎ Among (y ∷ []) z → R x z
    both z (inl a) = pairs_head R x xs h z a
    both z (inr (inl e)) = subst (R x) e (f x (inl refl))
    both z (inr (inr b)) = absurd b

abbrev pub fit : List ℕ → ℕ → FittingModel
fit name form = record { name = name; form = form }

-- what is listed of the forms before a number, and of its own before a place
abbrev Below : ℕ → List (List ℕ) → FittingModel → Type 0
Below form before x = (x.form < form) ⊎ ((x.form ≡ form) × Contains before x.name)

-- what stands before a place stands before the next one
wider : (all : List (List (List ℕ))) (form : ℕ) (before : List (List ℕ)) (name : List ℕ) (x : FittingModel) → IsFirst all x × Below form before x → IsFirst all x × Below form (before ++ name ∷ []) x
wider all form before name x (f, inl lt) = (f, inl lt)
wider all form before name x (f, inr q) = (f, inr (q.0, among_to (before ++ name ∷ []) x.name (among_left before (name ∷ []) x.name (among_from before x.name q.1))))

module _ (all : List (List (List ℕ))) (form : ℕ) (names : List (List ℕ)) (there : slice_get all form ≡ Some names) where
  pub one_more : (before : List (List ℕ)) (name : List ℕ) (old new : List FittingModel) → Contains names name → ((n : List ℕ) → Contains before n → by_bytes n name ≡ Less) → AreListed all form before old → AddsFirst all form name old new → AreListed all form (before ++ name ∷ []) new
  one_more before name old new has low h (inl seen) = subst (AreListed all form (before ++ name ∷ [])) (sym seen.1) (record { ordered = h.ordered; same = λ x. (λ c. wider all form before name x ((h.same x).0 c), λ q. (h.same x).1 (q.0, kept x q.0 q.1)) })
    where
      again : (x : FittingModel) → IsFirst all x → x.form ≡ form → name ≡ x.name → ⊥
      again x f e same = f.none_before (subst (λ (n : List ℕ). IsAmongFirst all x.form n) same (subst (λ (k : ℕ). IsAmongFirst all k name) (sym e) seen.0))

      kept : (x : FittingModel) → IsFirst all x → Below form (before ++ name ∷ []) x → Below form before x
      kept x f (inl lt) = inl lt
      kept x f (inr q) = elim (among_cases before (name ∷ []) x.name (among_from (before ++ name ∷ []) x.name q.1)) [
        | inl a ↦ inr (q.0, among_to before x.name a)
        | inr b ↦ elim b [ inl e ↦ absurd (again x f q.0 e) | inr none ↦ absurd none ]
      ]
  one_more before name old new has low h (inr fresh) = subst (AreListed all form (before ++ name ∷ [])) (sym fresh.1) (record { ordered = pairs_push IsBefore old (fit name form) h.ordered (λ x at. behind x ((h.same x).0 (among_to old x at))); same = λ x. (λ c. from x (among_cases old (fit name form ∷ []) x (among_from (old ++ fit name form ∷ []) x c)), λ q. among_to (old ++ fit name form ∷ []) x (to x q.0 q.1)) })
    where
      first : IsFirst all (fit name form)
      first = record { among = record { names = names; there = there; among = has }; none_before = fresh.0 }

      behind : (x : FittingModel) → IsFirst all x × Below form before x → IsBefore x (fit name form)
      behind x (f, inl lt) = ByForm lt
      behind x (f, inr q) = ByName q.0 (low x.name q.1)

      from : (x : FittingModel) → Among old x ⊎ Among (fit name form ∷ []) x → IsFirst all x × Below form (before ++ name ∷ []) x
      from x (inl a) = wider all form before name x ((h.same x).0 (among_to old x a))
      from x (inr (inl e)) = subst (λ (y : FittingModel). IsFirst all y × Below form (before ++ name ∷ []) y) e (first, inr (refl, among_to (before ++ name ∷ []) name (among_right before (name ∷ []) name (inl refl))))
      from x (inr (inr none)) = absurd none

      to : (x : FittingModel) → IsFirst all x → Below form (before ++ name ∷ []) x → Among (old ++ fit name form ∷ []) x
      to x f (inl lt) = among_left old (fit name form ∷ []) x (among_from old x ((h.same x).1 (f, inl lt)))
      to x f (inr q) = elim (among_cases before (name ∷ []) x.name (among_from (before ++ name ∷ []) x.name q.1)) [
        | inl a ↦ among_left old (fit name form ∷ []) x (among_from old x ((h.same x).1 (f, inr (q.0, among_to before x.name a))))
        | inr b ↦ elim b [ inl e ↦ among_right old (fit name form ∷ []) x (inl (ap (λ (n : List ℕ). fit n form) e ∙ ap (λ (k : ℕ). fit x.name k) (sym q.0))) | inr none ↦ absurd none ]
      ]

  -- the next form begins where all names of this one are listed
  pub next_form : (found : List FittingModel) → AreListed all form names found → AreListed all (form + 1) [] found
  next_form found h = record { ordered = h.ordered; same = λ x. (λ c. to x ((h.same x).0 c), λ q. (h.same x).1 (q.0, from x q.0 q.1)) }
    where
      to : (x : FittingModel) → IsFirst all x × Below form names x → IsFirst all x × Below (form + 1) [] x
      to x (f, inl lt) = (f, inl (omega (arith, lt)))
      to x (f, inr q) = (let e = q.0 in (f, inl (omega (arith, e))))

      at : (x : FittingModel) → IsFirst all x → x.form ≡ form → Contains names x.name
      at x f e =
          let same : f.among.names ≡ names = one_at all form f.among.names names (subst (λ (k : ℕ). slice_get all k ≡ Some f.among.names) e f.among.there) there in
          subst (λ (ns : List (List ℕ)). Contains ns x.name) same f.among.among

      from : (x : FittingModel) → IsFirst all x → Below (form + 1) [] x → Below form names x
      from x f (inl lt) = elim (cases_lt x.form form) [ inl low ↦ inl low | inr ge ↦ inr (omega (arith, lt, ge), at x f (omega (arith, lt, ge))) ]
      from x f (inr q) = (let none = q.1.1 in absurd (omega (arith, none)))

pub none_listed : (all : List (List (List ℕ))) → AreListed all 0 [] []
none_listed all = record { ordered = λ i j d lt below. absurd (omega (arith, below)); same = λ x. (λ c. absurd (omega (arith, c.1)), λ q. absurd (never x q.1)) }
  where
    never : (x : FittingModel) → Below 0 [] x → ⊥
    never x (inl lt) = omega (arith, lt)
    never x (inr q) = (let none = q.1.1 in omega (arith, none))

-- where all forms are listed
pub all_listed : (all : List (List (List ℕ))) (form : ℕ) (found : List FittingModel) → length all ≤ form → AreListed all form [] found → AreFirst all found
all_listed all form found le h = record { ordered = h.ordered; same = λ x. (λ c. ((h.same x).0 c).0, λ f. (h.same x).1 (f, inl (low x f))) }
  where
    low : (x : FittingModel) → IsFirst all x → x.form < form
    low x f = (let lt = slice_get_within all x.form f.among.names f.among.there in omega (arith, lt, le))
