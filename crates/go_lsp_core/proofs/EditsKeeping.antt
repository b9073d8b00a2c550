-- Where offsets come to lie.
use Rattle.std.proofs.Common.{◌≡◌, ◌++◌, ◌+◌, ◌-◌, ◌<◌, ◌≤◌, ◌∙◌, inl, inr, ℕ, zero, suc, Bool, true, false, cond, nat_le, List, [], ◌∷◌, length, get_or, map, take, drop, Option, None, Some, MatchOption, refl, sym, ap, subst, arith, le-leb, All}
use Rattle.std.specs.Prelude.{SomeIff, slice_get}
use Rattle.std.proofs.lemmas.Bool.{cases_lt, leb-true, lt-leb}
use Rattle.std.proofs.lemmas.List.{length-take}
use Rattle.go_lsp_core.specs.declared.edits.edits.Edit.{Edit}
use Rattle.go_lsp_core.specs.edits.Edits.{AreInOrder, Part, Stand, edited, gained, lost, moved, part_of}
use Rattle.go_lsp_core.specs.edits.Laws.{IsOutside, KeepsOrder, KeepsTheRest}
use Rattle.go_lsp_core.proofs.EditsEditing.{front_same, more_parts, no_parts}

-- ---- what parts have

pub in_order : (text : List ℕ) (from : ℕ) (es : List Part) → Stand text from es → AreInOrder from es
in_order text from [] h = tt
in_order text from (e ∷ es) h = (h.0.after, h.0.order, in_order text e.end es h.1)

lost_step : (from s t n more : ℕ) → from ≤ s → s ≤ t → from ≤ n → (t ≤ n → t + more ≤ n) → (b : Bool) → nat_le t n ≡ b → from + cond b ((t - s) + more) 0 ≤ n
lost_step from s t n more le order low rest true e = (let within = leb-true t n e in let r = rest within in omega (arith, r))
lost_step from s t n more le order low rest false e = omega (arith, low)

-- the parts in front of an offset have no more bytes than there are
pub lost_below : (from : ℕ) (es : List Part) (n : ℕ) → AreInOrder from es → from ≤ n → from + lost es n ≤ n
lost_below from [] n h low = omega (arith, low)
lost_below from (e ∷ es) n h low = lost_step from e.start e.end n (lost es n) h.0 h.1 low (λ within. lost_below e.end es n h.2 within) (nat_le e.end n) refl

order_of : (from : ℕ) (es : List Edit) (i : ℕ) (d : Edit) → AreInOrder from (map part_of es) → i < length es → (get_or es i d).start ≤ (get_or es i d).end
order_of from [] i d h lt = absurd (omega (arith, lt))
order_of from (e ∷ es) zero d h lt = h.1
order_of from (e ∷ es) (suc i) d h lt = order_of e.end es i d h.2 (omega (arith, lt))

pub order_at : (from : ℕ) (es : List Edit) (i : ℕ) (x : Edit) → AreInOrder from (map part_of es) → i < length es → x ≡ get_or es i x → x.start ≤ x.end
order_at from es i x h lt is = subst (λ (y : Edit). y.start ≤ y.end) (sym is) (order_of from es i x h lt)

-- ---- one step of the walk

one_lost : (e : Part) (es : List Part) (n : ℕ) → e.end ≤ n → lost (e ∷ es) n ≡ (e.end - e.start) + lost es n
one_lost e es n within = ap (λ b. cond b ((e.end - e.start) + lost es n) 0) (le-leb e.end n within)

one_gained : (e : Part) (es : List Part) (n : ℕ) → e.end ≤ n → gained (e ∷ es) n ≡ length e.new + gained es n
one_gained e es n within = ap (λ b. cond b (length e.new + gained es n) 0) (le-leb e.end n within)

none_lost : (e : Part) (es : List Part) (n : ℕ) → n < e.end → lost (e ∷ es) n ≡ 0
none_lost e es n lt = ap (λ b. cond b ((e.end - e.start) + lost es n) 0) (lt-leb e.end n lt)

none_gained : (e : Part) (es : List Part) (n : ℕ) → n < e.end → gained (e ∷ es) n ≡ 0
none_gained e es n lt = ap (λ b. cond b (length e.new + gained es n) 0) (lt-leb e.end n lt)

module _ (es : List Edit) (i n : ℕ) (x : Edit) (lt : i < length es) (at : x ≡ get_or es i x) where
  abbrev Left : List Part
  Left = drop i (map part_of es)

  abbrev Next : List Part
  Next = drop (i + 1) (map part_of es)

  -- the walk goes on
  pub lost_more : (old new all : ℕ) → x.end ≤ n → new ≡ old + (x.end - x.start) → old + lost (drop i (map part_of es)) n ≡ all → new + lost (drop (i + 1) (map part_of es)) n ≡ all
  lost_more old new all within is before =
      let step : lost Left n ≡ (x.end - x.start) + lost Next n = ap (λ (l : List Part). lost l n) (more_parts es i x lt at) ∙ one_lost (part_of x) Next n within in
      omega (arith, is, step, before)

  pub gained_more : (old new all : ℕ) → x.end ≤ n → new ≡ old + length x.new.now → old + gained (drop i (map part_of es)) n ≡ all → new + gained (drop (i + 1) (map part_of es)) n ≡ all
  gained_more old new all within is before =
      let step : gained Left n ≡ length x.new.now + gained Next n = ap (λ (l : List Part). gained l n) (more_parts es i x lt at) ∙ one_gained (part_of x) Next n within in
      omega (arith, is, step, before)

  -- it stops where the next part ends after the offset
  pub lost_stop : (old all : ℕ) → n < x.end → old + lost (drop i (map part_of es)) n ≡ all → old ≡ all
  lost_stop old all over before =
      let none : lost Left n ≡ 0 = ap (λ (l : List Part). lost l n) (more_parts es i x lt at) ∙ none_lost (part_of x) Next n over in
      omega (arith, none, before)

  pub gained_stop : (old all : ℕ) → n < x.end → old + gained (drop i (map part_of es)) n ≡ all → old ≡ all
  gained_stop old all over before =
      let none : gained Left n ≡ 0 = ap (λ (l : List Part). gained l n) (more_parts es i x lt at) ∙ none_gained (part_of x) Next n over in
      omega (arith, none, before)

  -- so many bytes are lost and gained at least
  pub lost_least : (old all : ℕ) → x.end ≤ n → old + lost (drop i (map part_of es)) n ≡ all → old + (x.end - x.start) ≤ all
  lost_least old all within before =
      let step : lost Left n ≡ (x.end - x.start) + lost Next n = ap (λ (l : List Part). lost l n) (more_parts es i x lt at) ∙ one_lost (part_of x) Next n within in
      omega (arith, step, before)

  pub gained_least : (old all : ℕ) → x.end ≤ n → old + gained (drop i (map part_of es)) n ≡ all → old + length x.new.now ≤ all
  gained_least old all within before =
      let step : gained Left n ≡ length x.new.now + gained Next n = ap (λ (l : List Part). gained l n) (more_parts es i x lt at) ∙ one_gained (part_of x) Next n within in
      omega (arith, step, before)

-- and at the end
pub lost_end : (es : List Edit) (i n old all : ℕ) → length es ≤ i → old + lost (drop i (map part_of es)) n ≡ all → old ≡ all
lost_end es i n old all le before = (let none : lost (drop i (map part_of es)) n ≡ 0 = ap (λ (l : List Part). lost l n) (no_parts es i le) in omega (arith, none, before))

pub gained_end : (es : List Edit) (i n old all : ℕ) → length es ≤ i → old + gained (drop i (map part_of es)) n ≡ all → old ≡ all
gained_end es i n old all le before = (let none : gained (drop i (map part_of es)) n ≡ 0 = ap (λ (l : List Part). gained l n) (no_parts es i le) in omega (arith, none, before))

-- the offset that the walk gives
pub moved_at : (es : List Part) (n losses gains : ℕ) → losses ≡ lost es n → gains ≡ gained es n → (n - losses) + gains ≡ moved es n
moved_at es n losses gains a b = ap (λ (k : ℕ). (n - k) + gains) a ∙ ap (λ (k : ℕ). (n - lost es n) + k) b

-- what is not less than a bound
pub at_least : (top k : ℕ) → (k < top → ⊥) → top ≤ k
at_least top k never = elim (cases_lt k top) [ inl lt ↦ absurd (never lt) | inr le ↦ le ]

-- what a sum that is tested gives
pub sum_known : (top : ℕ) (r : Option ℕ) (k n : ℕ) → k ≡ n → SomeIff r (k < top) k → MatchOption r (top ≤ n) (λ m. m ≡ n)
sum_known top None k n is h = subst (λ (m : ℕ). top ≤ m) is (at_least top k h)
sum_known top (Some x) k n is h = h.1 ∙ is

-- ---- laws

get_right : (xs ys : List ℕ) (k : ℕ) → slice_get (xs ++ ys) (length xs + k) ≡ slice_get ys k
get_right [] ys k = (let e : 0 + k ≡ k = omega arith in ap (slice_get ys) e)
get_right (x ∷ xs) ys k = (let e : suc (length xs) + k ≡ suc (length xs + k) = omega arith in ap (slice_get (x ∷ (xs ++ ys))) e ∙ get_right xs ys k)

get_left : (xs ys : List ℕ) (k : ℕ) → k < length xs → slice_get (xs ++ ys) k ≡ slice_get xs k
get_left [] ys k lt = absurd (omega (arith, lt))
get_left (x ∷ xs) ys zero lt = refl
get_left (x ∷ xs) ys (suc k) lt = get_left xs ys k (omega (arith, lt))

get_dropped : (n : ℕ) (xs : List ℕ) (k : ℕ) → slice_get (drop n xs) k ≡ slice_get xs (n + k)
get_dropped zero xs k = (let e : k ≡ 0 + k = omega arith in ap (slice_get xs) e)
get_dropped (suc n) [] k = refl
get_dropped (suc n) (x ∷ xs) k = (let e : suc (n + k) ≡ suc n + k = omega arith in get_dropped n xs k ∙ ap (slice_get (x ∷ xs)) e)

get_taken : (n : ℕ) (xs : List ℕ) (k : ℕ) → k < n → slice_get (take n xs) k ≡ slice_get xs k
get_taken zero xs k lt = absurd (omega (arith, lt))
get_taken (suc n) [] k lt = refl
get_taken (suc n) (x ∷ xs) zero lt = refl
get_taken (suc n) (x ∷ xs) (suc k) lt = get_taken n xs k (omega (arith, lt))

same_front : (n : ℕ) (xs ys : List ℕ) (k : ℕ) → k < n → take n xs ≡ take n ys → slice_get xs k ≡ slice_get ys k
same_front n xs ys k lt same = sym (get_taken n xs k lt) ∙ (ap (λ (l : List ℕ). slice_get l k) same ∙ get_taken n ys k lt)

-- after a part
after_part : (now new : List ℕ) (s t k : ℕ) → s ≤ length now → slice_get (take s now ++ (new ++ drop t now)) (s + (length new + k)) ≡ slice_get now (t + k)
after_part now new s t k within =
    let long : length (take s now) ≡ s = omega (arith, length-take s now) in
    ap (λ (m : ℕ). slice_get (take s now ++ (new ++ drop t now)) (m + (length new + k))) (sym long)
    ∙ (get_right (take s now) (new ++ drop t now) (length new + k) ∙ (get_right new (drop t now) k ∙ get_dropped t now k))

-- before one
before_part : (text now new : List ℕ) (s t n : ℕ) → n < s → s ≤ t → s ≤ length now → take t now ≡ take t text → slice_get (take s now ++ (new ++ drop t now)) n ≡ slice_get text n
before_part text now new s t n lt order within same =
    let low : n < length (take s now) = omega (arith, length-take s now) in
    get_left (take s now) (new ++ drop t now) n low ∙ (get_taken s now n lt ∙ same_front t now text n (omega arith) same)

long_enough : (n : ℕ) (xs ys : List ℕ) → n ≤ length ys → take n xs ≡ take n ys → n ≤ length xs
long_enough n xs ys le same = (let long = ap length same in omega (arith, long, length-take n xs, length-take n ys))

-- where an offset after a part lies, by where it lies without it
over_part : (e : Part) (es : List Part) (n : ℕ) → e.start ≤ e.end → e.end ≤ n → AreInOrder e.end es → (k : ℕ) × (moved es n ≡ e.end + k) × (moved (e ∷ es) n ≡ e.start + (length e.new + k))
over_part e es n order within rest =
    let below = lost_below e.end es n rest within in
    let l = one_lost e es n within in
    let g = one_gained e es n within in
    (moved es n - e.end, omega (arith, below), omega (arith, below, l, g))

unmoved : (e : Part) (es : List Part) (n : ℕ) → n < e.end → moved (e ∷ es) n ≡ n
unmoved e es n lt = (let l = none_lost e es n lt in let g = none_gained e es n lt in omega (arith, l, g))

outside_head : (n : ℕ) (e : Part) (es : List Part) → All (IsOutside n) (e ∷ es) → IsOutside n e
outside_head n e es h = h 0 e (omega arith)

outside_tail : (n : ℕ) (e : Part) (es : List Part) → All (IsOutside n) (e ∷ es) → All (IsOutside n) es
outside_tail n e es h = λ i d lt. h (suc i) d (omega (arith, lt))

stays : (text : List ℕ) (from : ℕ) (es : List Part) (n : ℕ) → Stand text from es → All (IsOutside n) es → slice_get (edited text es) (moved es n) ≡ slice_get text n
stays text from [] n h out = (let e : (n - 0) + 0 ≡ n = omega arith in ap (slice_get text) e)
stays text from (e ∷ es) n h out = by (outside_head n e es out) (stays text e.end es n h.1 (outside_tail n e es out))
  where
    same : take e.end (edited text es) ≡ take e.end text
    same = front_same text e.end es h.1

    long : e.end ≤ length (edited text es)
    long = long_enough e.end (edited text es) text h.0.ends.0 same

    start : e.start ≤ length (edited text es)
    start = (let l = long in let o = h.0.order in omega (arith, l, o))

    by : IsOutside n e → slice_get (edited text es) (moved es n) ≡ slice_get text n → slice_get (edited text (e ∷ es)) (moved (e ∷ es) n) ≡ slice_get text n
    by (inl before) rest =
        let o = h.0.order in
        ap (slice_get (edited text (e ∷ es))) (unmoved e es n (omega (arith, before, o))) ∙ before_part text (edited text es) e.new e.start e.end n before h.0.order start same
    by (inr after) rest =
        let over = over_part e es n h.0.order after (in_order text e.end es h.1) in
        ap (slice_get (edited text (e ∷ es))) over.2 ∙ (after_part (edited text es) e.new e.start e.end over.0 start ∙ (ap (slice_get (edited text es)) (sym over.1) ∙ rest))

pub keeps_the_rest : KeepsTheRest
keeps_the_rest text es n h lt out = stays text 0 es n h out

rises : (from : ℕ) (es : List Part) (m n : ℕ) → AreInOrder from es → m < n → All (IsOutside m) es → All (IsOutside n) es → moved es m < moved es n
rises from [] m n h lt low high = omega (arith, lt)
rises from (e ∷ es) m n h lt low high = by (outside_head m e es low) (outside_head n e es high) (rises e.end es m n h.2 lt (outside_tail m e es low) (outside_tail n e es high))
  where
    by : IsOutside m e → IsOutside n e → moved es m < moved es n → moved (e ∷ es) m < moved (e ∷ es) n
    by (inl a) (inl b) rest = (let o = h.1 in let x = unmoved e es m (omega (arith, a, o)) in let y = unmoved e es n (omega (arith, b, o)) in omega (arith, x, y, lt))
    by (inl a) (inr b) rest = (let o = h.1 in let x = unmoved e es m (omega (arith, a, o)) in let y = over_part e es n h.1 b h.2 in let z = y.2 in omega (arith, x, z, a))
    by (inr a) (inl b) rest = (let o = h.1 in absurd (omega (arith, a, b, lt, o)))
    by (inr a) (inr b) rest =
        let x = over_part e es m h.1 a h.2 in
        let y = over_part e es n h.1 b h.2 in
        let x1 = x.1 in
        let x2 = x.2 in
        let y1 = y.1 in
        let y2 = y.2 in
        omega (arith, x1, x2, y1, y2, rest)

pub keeps_order : KeepsOrder
keeps_order text es m n h lt low high = rises 0 es m n (in_order text 0 es h) lt low high
