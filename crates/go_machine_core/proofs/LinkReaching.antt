-- What is reached: by marks, by edges that are all the other way, and from a node that leads to each of several.
use Rattle.std.proofs.Common.{◌≡◌, ℕ, zero, suc, ◌+◌, ◌<◌, ◌≤◌, ◌↔◌, Bool, true, false, cond, ◌&&◌, ◌||◌, List, [], ◌∷◌, ◌++◌, length, get_or, map, Option, Some, None, All, inl, inr, ⊎_elim, refl, sym, ap, ap₂, ◌∙◌, subst, arith}
use Rattle.std.specs.Prelude.{Contains, IfSome, MatchOption, slice_get}
use Rattle.std.specs.List.{flat_map}
use Rattle.std.proofs.lemmas.Bool.{true≢false}
use Rattle.std.proofs.lemmas.List.{length-map}
use Rattle.std.proofs.lemmas.Option.{slice_get_within}
use Rattle.std.proofs.lemmas.List.Elements.{All-contains, All-nil, All-cons, All-append, Contains-append_left, Contains-append_right, Contains-append_cases}
use Rattle.go_digraph_core.specs.declared.cycle.edge.Edge.{Edge}
use Rattle.go_digraph_core.specs.cycle.Cycle.{InRange, Leads, LeadTo, Reaches, reversed}
use Rattle.go_digraph_core.proofs.CycleWalks.{reaches_other_way, reaches_back, reversed_in_range}
use Rattle.go_machine_core.specs.Programs.{LinkedOf}
use Rattle.go_machine_core.specs.link.Packages.{PackageOf}
use Rattle.go_machine_core.specs.link.Reaching.{AreReached, IsFirstOutside, ReachesMissing, ReachesOutside, call_edges, edge, edge_if, edges_from, is_outside, lacks_object}
use Rattle.go_machine_core.specs.link.mirrors.Numbering.{AreBelow, AreRowsBelow, IsRowBelow, any_marked, first_marked, number_or}

abbrev pub IsMarked : List Bool → ℕ → Type 0
IsMarked marks n = get_or marks n false ≡ true

-- the marks that edges the other way lead to are those of what is reached
pub marks_reach : (g back : List Edge) (a : ℕ) (marks : List Bool) → back ≡ map reversed g → LeadTo back a marks → (n : ℕ) → IsMarked marks n ↔ Reaches g a n
marks_reach g back a marks is h n =
    (λ m. reaches_other_way g n a (subst (λ b. Reaches b n a) is ((h n).0 m)), λ r. (h n).1 (subst (λ b. Reaches b n a) (sym is) (reaches_back g a n r)))

pub back_in_range : (g back : List Edge) (n : ℕ) → back ≡ map reversed g → InRange n g → InRange n back
back_in_range g back n is within = subst (λ b. InRange n b) (sym is) (reversed_in_range g n within)

-- edges of rows lie within a count
abbrev IsWithin : ℕ → Edge → Type 0
IsWithin count e = (e.from < count) × (e.to < count)

row_in_range : (count from : ℕ) (row : List (Option ℕ)) → from < count → IsRowBelow count row → InRange count (flat_map (edge_if from) row)
row_in_range count from [] lt h = All-nil (IsWithin count)
row_in_range count from (None ∷ row) lt h = row_in_range count from row lt h.1
row_in_range count from (Some to ∷ row) lt h = All-cons (IsWithin count) (edge from to) (flat_map (edge_if from) row) (lt, h.0) (row_in_range count from row lt h.1)

pub rows_in_range : (count n : ℕ) (rows : List (List (Option ℕ))) → n + length rows ≤ count → AreRowsBelow count rows → InRange count (edges_from n rows)
rows_in_range count n [] le h = All-nil (IsWithin count)
rows_in_range count n (row ∷ rows) le h =
    All-append (IsWithin count) (flat_map (edge_if n) row) (edges_from (n + 1) rows) (row_in_range count n row (omega (arith, le)) h.0) (rows_in_range count (n + 1) rows (omega (arith, le)) h.1)

pub below_at : (count : ℕ) (ns : List ℕ) (k d : ℕ) → AreBelow count ns → k < length ns → get_or ns k d < count
below_at count [] k d h lt = absurd (omega arith)
below_at count (n ∷ ns) zero d h lt = h.0
below_at count (n ∷ ns) (suc k) d h lt = below_at count ns k d h.1 (omega (arith, lt))

pub below_of : (count : ℕ) (ns : List ℕ) (n : ℕ) → AreBelow count ns → Contains ns n → n < count
below_of count ns n h c = subst (λ x. x < count) c.2 (below_at count ns c.0 n h c.1)

-- a graph with a node more, which leads to each of several
module _ (g : List Edge) (top : ℕ) (starts : List ℕ) (within : InRange top g) where
  abbrev pub all : List Edge
  all = g ++ map (edge top) starts

  start_at : (starts : List ℕ) (e : Edge) (k : ℕ) → k < length (map (edge top) starts) → get_or (map (edge top) starts) k e ≡ e → (s : ℕ) × Contains starts s × (edge top s ≡ e)
  start_at [] e k lt is = absurd (omega arith)
  start_at (s ∷ starts) e zero lt is = (s, (0, omega arith, refl), is)
  start_at (s ∷ starts) e (suc k) lt is = (let r = start_at starts e k (omega (arith, lt)) is in (r.0, (suc r.1.0, omega (arith, r.1.1), r.1.2), r.2))

  start_of : (starts : List ℕ) (e : Edge) → Contains (map (edge top) starts) e → (s : ℕ) × Contains starts s × (edge top s ≡ e)
  start_of starts e h = start_at starts e h.0 h.1 h.2

  there_at : (starts : List ℕ) (s k : ℕ) → k < length starts → get_or starts k s ≡ s → Contains (map (edge top) starts) (edge top s)
  there_at [] s k lt is = absurd (omega arith)
  there_at (x ∷ xs) s zero lt is = (0, omega arith, ap (edge top) is)
  there_at (x ∷ xs) s (suc k) lt is = (let r = there_at xs s k (omega (arith, lt)) is in (suc r.0, omega (arith, r.1), r.2))

  start_there : (starts : List ℕ) (s : ℕ) → Contains starts s → Contains (map (edge top) starts) (edge top s)
  start_there starts s h = there_at starts s h.0 h.1 h.2

  below : (e : Edge) → Contains g e → IsWithin top e
  below e h = All-contains (IsWithin top) g e within h

  from_inside : (es : List Edge) (s k : ℕ) → s < top → Leads all es s k → Leads g es s k
  from_inside [] s k lt h = h
  from_inside (e ∷ es) s k lt h =
      ⊎_elim
      (λ inside. (inside, h.1, from_inside es e.to k (below e inside).1 h.2))
      (λ outside. (let f = start_of starts e outside in let same : top ≡ s = ap (λ (x : Edge). x.from) f.2 ∙ h.1 in absurd (omega (arith, same, lt))))
      (Contains-append_cases g (map (edge top) starts) e h.0)

  into_all : (es : List Edge) (s k : ℕ) → Leads g es s k → Leads all es s k
  into_all [] s k h = h
  into_all (e ∷ es) s k h = (Contains-append_left g (map (edge top) starts) e h.0, h.1, into_all es e.to k h.2)

  pub from_top : (k : ℕ) → k < top → AreBelow top starts → Reaches all top k → (s : ℕ) × Contains starts s × Reaches g s k
  from_top k lt low h = by h.0 h.1
    where
      by : (es : List Edge) → Leads all es top k → (s : ℕ) × Contains starts s × Reaches g s k
      by [] e = absurd (omega (arith, lt, e))
      by (e ∷ es) p = ⊎_elim
          (λ inside. (let b = (below e inside).0 in let same : e.from ≡ top = p.1 in absurd (omega (arith, same, b))))
          (λ outside. (let f = start_of starts e outside in
          let s_is : f.0 ≡ e.to = ap (λ (x : Edge). x.to) f.2 in
          let small : f.0 < top = below_of top starts f.0 low f.1 in
          let small' : e.to < top = subst (λ x. x < top) s_is small in
          (f.0, f.1, subst (λ x. Reaches g x k) (sym s_is) (es, from_inside es e.to k small' p.2))))
          (Contains-append_cases g (map (edge top) starts) e p.0)

  pub to_all : (k s : ℕ) → Contains starts s → Reaches g s k → Reaches all top k
  to_all k s c h = (edge top s ∷ h.0, (Contains-append_right g (map (edge top) starts) (edge top s) (start_there starts s c), refl, into_all h.0 s k h.1))

-- one that bears a mark and passes a test
pub record MarkedOne {A : Type 0} (test : A → Bool) (xs : List A) (marks : List Bool) : Type 0 where
  pub number : ℕ
  pub item : A
  pub is : slice_get xs number ≡ Some item
  pub marked : IsMarked marks number
  pub passes : test item ≡ true

or_true : (b : Bool) → (b || true) ≡ true
or_true true = refl
or_true false = refl

module _ {A : Type 0} (test : A → Bool) where
  later : (x : A) (xs : List A) (mark : Bool) (marks : List Bool) → MarkedOne test xs marks → MarkedOne test (x ∷ xs) (mark ∷ marks)
  later x xs mark marks r = record { number = suc r.number; item = r.item; is = r.is; marked = r.marked; passes = r.passes }

  pub marked_found : (xs : List A) (marks : List Bool) → any_marked test xs marks ≡ true → MarkedOne test xs marks
  marked_found [] marks e = cc
  marked_found (x ∷ xs) [] e = cc
  marked_found (x ∷ xs) (false ∷ marks) e = later x xs false marks (marked_found xs marks e)
  marked_found (x ∷ xs) (true ∷ marks) e = by (test x) refl e (marked_found xs marks)
    where
      by : (b : Bool) → test x ≡ b → (b || any_marked test xs marks) ≡ true → (any_marked test xs marks ≡ true → MarkedOne test xs marks) → MarkedOne test (x ∷ xs) (true ∷ marks)
      by true t e ih = record { number = 0; item = x; is = refl; marked = refl; passes = t }
      by false t e ih = later x xs true marks (ih e)

  pub marked_there : (xs : List A) (marks : List Bool) (n : ℕ) (x : A) → slice_get xs n ≡ Some x → IsMarked marks n → test x ≡ true → any_marked test xs marks ≡ true
  marked_there [] marks n x is m t = cc
  marked_there (y ∷ ys) [] n x is m t = cc
  marked_there (y ∷ ys) (b ∷ marks) zero x is m t =
      let same : y ≡ x = cc in
      ap (λ c. (c && test y) || any_marked test ys marks) m ∙ (ap (λ z. test z || any_marked test ys marks) same ∙ ap (λ c. c || any_marked test ys marks) t)
  marked_there (y ∷ ys) (b ∷ marks) (suc n) x is m t = ap (λ c. (b && test y) || c) (marked_there ys marks n x is m t) ∙ or_true (b && test y)

-- the first of them
pub record FirstMarked {A : Type 0} (test : A → Bool) (k : ℕ) (xs : List A) (marks : List Bool) (n : ℕ) : Type 0 where
  pub one : MarkedOne test xs marks
  pub here : k + one.number ≡ n
  pub least : (other : MarkedOne test xs marks) → n ≤ k + other.number

both_true : (a b : Bool) → (a && b) ≡ true → (a ≡ true) × (b ≡ true)
both_true true b e = (refl, e)
both_true false b e = cc

module _ {A : Type 0} (test : A → Bool) where
  pub none_marked : (k : ℕ) (xs : List A) (marks : List Bool) → first_marked test k xs marks ≡ None → any_marked test xs marks ≡ false
  none_marked k [] marks e = refl
  none_marked k (x ∷ xs) [] e = refl
  none_marked k (x ∷ xs) (mark ∷ marks) e = by (mark && test x) e (none_marked (k + 1) xs marks)
    where
      by : (b : Bool) → number_or b k (first_marked test (k + 1) xs marks) ≡ None → (first_marked test (k + 1) xs marks ≡ None → any_marked test xs marks ≡ false) → (b || any_marked test xs marks) ≡ false
      by true e ih = cc
      by false e ih = ih e

  later_least : (k : ℕ) (x : A) (xs : List A) (mark : Bool) (marks : List Bool) (n : ℕ) → (mark && test x) ≡ false → ((other : MarkedOne test xs marks) → n ≤ (k + 1) + other.number)
      → (number : ℕ) (item : A) → slice_get (x ∷ xs) number ≡ Some item → IsMarked (mark ∷ marks) number → test item ≡ true → n ≤ k + number
  later_least k x xs mark marks n off least zero item is m t =
      let same : x ≡ item = cc in
      let both : (mark && test x) ≡ true = ap₂ ◌&&◌ m (ap test same ∙ t) in
      absurd (true≢false (sym both ∙ off))
  later_least k x xs mark marks n off least (suc j) item is m t = omega (arith, least (record { number = j; item = item; is = is; marked = m; passes = t }))

  pub first_found : (k : ℕ) (xs : List A) (marks : List Bool) (n : ℕ) → first_marked test k xs marks ≡ Some n → FirstMarked test k xs marks n
  first_found k [] marks n e = cc
  first_found k (x ∷ xs) [] n e = cc
  first_found k (x ∷ xs) (mark ∷ marks) n e = by (mark && test x) refl e (first_found (k + 1) xs marks n)
    where
      by : (b : Bool) → (mark && test x) ≡ b → number_or b k (first_marked test (k + 1) xs marks) ≡ Some n → (first_marked test (k + 1) xs marks ≡ Some n → FirstMarked test (k + 1) xs marks n) → FirstMarked test k (x ∷ xs) (mark ∷ marks) n
      by true t e ih = (let both = both_true mark (test x) t in let same : k ≡ n = cc in
          record { one = record { number = 0; item = x; is = refl; marked = both.0; passes = both.1 }; here = omega (arith, same); least = λ other. omega (arith, same) })
      by false t e ih = (let r = ih e in
          record { one = record { number = suc r.one.number; item = r.one.item; is = r.one.is; marked = r.one.marked; passes = r.one.passes }; here = omega (arith, r.here); least = λ other. later_least k x xs mark marks n t r.least other.number other.item other.is other.marked other.passes })

-- what cannot be run

first_of : (fs : List LinkedOf) (starts : List ℕ) (n : ℕ) (there : ReachesOutside fs starts) → 0 + there.number ≡ n → ((other : ReachesOutside fs starts) → n ≤ 0 + other.number) → IsFirstOutside fs starts n
first_of fs starts n there is least = record { there = there; here = omega (arith, is); first = λ other. omega (arith, least other) }

option_more : (a b : ℕ) (o : Option ℕ) → a ≤ b → IfSome o (λ k. k < a) → IfSome o (λ k. k < b)
option_more a b None le h = h
option_more a b (Some k) le h = omega (arith, le, h)

row_more : (a b : ℕ) (row : List (Option ℕ)) → a ≤ b → IsRowBelow a row → IsRowBelow b row
row_more a b [] le h = tt
row_more a b (o ∷ row) le h = (option_more a b o le h.0, row_more a b row le h.1)

rows_more : (a b : ℕ) (rows : List (List (Option ℕ))) → a ≤ b → AreRowsBelow a rows → AreRowsBelow b rows
rows_more a b [] le h = tt
rows_more a b (row ∷ rows) le h = (row_more a b row le h.0, rows_more a b rows le h.1)

starts_in_range : (top count : ℕ) (starts : List ℕ) → count ≡ top + 1 → AreBelow top starts → InRange count (map (edge top) starts)
starts_in_range top count [] is h = All-nil (IsWithin count)
starts_in_range top count (s ∷ starts) is h = All-cons (IsWithin count) (edge top s) (map (edge top) starts) (omega (arith, is), omega (arith, is, h.0)) (starts_in_range top count starts is h.1)

module _ (fs : List LinkedOf) (starts : List ℕ) (top : ℕ) (many : length fs ≡ top) (rows : AreRowsBelow top (map (λ f. f.callees) fs)) (low : AreBelow top starts)
    (edges : List Edge) (is : edges ≡ call_edges fs ++ map (edge top) starts) where
  pub all_in_range : (count : ℕ) → count ≡ top + 1 → InRange count edges
  all_in_range count more =
      let le : 0 + length (map (λ (f : LinkedOf). f.callees) fs) ≤ count = omega (arith, length-map fs (λ (f : LinkedOf). f.callees), many, more) in
      let calls = rows_in_range count 0 (map (λ f. f.callees) fs) le (rows_more top count (map (λ f. f.callees) fs) (omega (arith, more)) rows) in
      subst (λ g. InRange count g) (sym is) (All-append (IsWithin count) (call_edges fs) (map (edge top) starts) calls (starts_in_range top count starts more low))

  calls : InRange top (call_edges fs)
  calls = rows_in_range top 0 (map (λ f. f.callees) fs) (omega (arith, many, length-map fs (λ (f : LinkedOf). f.callees))) rows

  module _ (marks : List Bool) (h : (n : ℕ) → IsMarked marks n ↔ Reaches edges top n) where
    abbrev outside_one : MarkedOne (λ (f : LinkedOf). is_outside f.code) fs marks → ReachesOutside fs starts
    outside_one m =
        let lt : m.number < length fs = slice_get_within fs m.number m.item m.is in
        let low' : m.number < top = omega (arith, lt, many) in
        let r = from_top (call_edges fs) top starts calls m.number low' low (subst (λ g. Reaches g top m.number) is ((h m.number).0 m.marked)) in
        record { start = r.0; number = m.number; function = m.item; begins = r.1; reached = r.2; is = m.is; outside = m.passes }

    abbrev marked_one : ReachesOutside fs starts → MarkedOne (λ (f : LinkedOf). is_outside f.code) fs marks
    marked_one r =
        let reach : Reaches edges top r.number = subst (λ g. Reaches g top r.number) (sym is) (to_all (call_edges fs) top starts calls r.number r.start r.begins r.reached) in
        record { number = r.number; item = r.function; is = r.is; marked = (h r.number).1 reach; passes = r.outside }

    none_outside : first_marked (λ f. is_outside f.code) 0 fs marks ≡ None → ReachesOutside fs starts → ⊥
    none_outside e r =
        let m = marked_one r in
        true≢false (sym (marked_there (λ (f : LinkedOf). is_outside f.code) fs marks m.number m.item m.is m.marked m.passes) ∙ none_marked (λ (f : LinkedOf). is_outside f.code) 0 fs marks e)

    first_outside : (n : ℕ) → first_marked (λ f. is_outside f.code) 0 fs marks ≡ Some n → IsFirstOutside fs starts n
    first_outside n e =
        let r = first_found (λ (f : LinkedOf). is_outside f.code) 0 fs marks n e in
        first_of fs starts n (outside_one r.one) r.here (λ other. r.least (marked_one other))

    pub outside_is : (o : Option ℕ) → o ≡ first_marked (λ f. is_outside f.code) 0 fs marks → MatchOption o (¬ ReachesOutside fs starts) (IsFirstOutside fs starts)
    outside_is None e = none_outside (sym e)
    outside_is (Some n) e = first_outside n (sym e)

pub missing_found : (ps : List PackageOf) (from : ℕ) (marks : List Bool) → AreReached ps from marks → any_marked lacks_object ps marks ≡ true → ReachesMissing ps from
missing_found ps from marks h e =
    let m = marked_found lacks_object ps marks e in
    record { number = m.number; lacking = m.item; reached = (h.each m.number).0 m.marked; is = m.is; lacks = m.passes }

pub missing_there : (ps : List PackageOf) (from : ℕ) (marks : List Bool) → AreReached ps from marks → any_marked lacks_object ps marks ≡ false → ReachesMissing ps from → ⊥
missing_there ps from marks h e r = true≢false (sym (marked_there lacks_object ps marks r.number r.lacking r.is ((h.each r.number).1 r.reached) r.lacks) ∙ e)
