-- Edits whose parts stand in order.
use Rattle.std.proofs.Common.{◌≡◌, ◌++◌, ◌+◌, ◌-◌, ◌<◌, ◌≤◌, ◌∙◌, ℕ, Bool, true, false, List, [], ◌∷◌, length, get_or, map, take, drop, refl, sym, ap, subst, arith, append_assoc, length-take, take-take, slice_range, IsCharBoundary}
use Rattle.std.specs.Prelude.{◌↔◌, IsTrue}
use Rattle.std.proofs.lemmas.Bool.{true≢false}
use Rattle.std.proofs.lemmas.List.{drop_all, drop_more, drop-append-le, drop-map, drop-take, take-append-le}
use Rattle.std.proofs.lemmas.Option.{get_or_from_slice_get, slice_get-get_or}
use Rattle.go_lsp_core.specs.declared.edits.edits.Edit.{Edit}
use Rattle.go_lsp_core.specs.edits.Edits.{Fits, Part, Stand, edited, part_of}

-- the edit of a number
abbrev pub edit_at : List Edit → ℕ → Edit
edit_at es i = get_or es i record { start = 0; end = 0; new = record { ref_ptr = (0, 0); now = [] } }

pub edit_is : (es : List Edit) (i : ℕ) → i < length es → edit_at es i ≡ get_or es i (edit_at es i)
edit_is es i lt = sym (get_or_from_slice_get es i (edit_at es i) (edit_at es i) (slice_get-get_or es i _ lt))

-- the parts of what is left of edits
pub more_parts : (es : List Edit) (i : ℕ) (x : Edit) → i < length es → x ≡ get_or es i x → drop i (map part_of es) ≡ part_of x ∷ drop (i + 1) (map part_of es)
more_parts es i x lt is =
    drop-map part_of i es
    ∙ (ap (map part_of) (drop_more es i x lt)
    ∙ (ap (λ (y : Edit). part_of y ∷ map part_of (drop (i + 1) es)) (sym is) ∙ ap (λ (l : List Part). part_of x ∷ l) (sym (drop-map part_of (i + 1) es))))

pub no_parts : (es : List Edit) (i : ℕ) → length es ≤ i → drop i (map part_of es) ≡ []
no_parts es i le = drop-map part_of i es ∙ ap (map part_of) (drop_all i es le)

-- ---- whether they stand

pub no_fit : (text : List ℕ) (from : ℕ) (e : Part) → (Fits text from e → ⊥) → IsTrue false ↔ Fits text from e
no_fit text from e never = (λ (on : IsTrue false). absurd (true≢false (sym on)), λ (h : Fits text from e). absurd (never h))

pub whole_fit : (text : List ℕ) (from : ℕ) (e : Part) (b : Bool) → from ≤ e.start → e.start ≤ e.end → IsCharBoundary text e.start → IsTrue b ↔ IsCharBoundary text e.end → IsTrue b ↔ Fits text from e
whole_fit text from e b after order begins test = (λ (on : IsTrue b). record { after = after; order = order; begins = begins; ends = test.0 on }, λ (h : Fits text from e). test.1 h.ends)

-- what a test refuses does not fit
pub refused : (P : Type 0) (b : Bool) → b ≡ false → IsTrue b ↔ P → P → ⊥
refused P b off test h = true≢false (sym (test.1 h) ∙ off)

pub holds : (P : Type 0) (b : Bool) → b ≡ true → IsTrue b ↔ P → P
holds P b on test = test.0 on

module _ (text : List ℕ) (es : List Edit) (i from : ℕ) (x : Edit) (lt : i < length es) (is : x ≡ get_or es i x) where
  pub stand_step : (W : Type 0) → Fits text from (part_of x) → Stand text from (drop i (map part_of es)) ↔ W → Stand text x.end (drop (i + 1) (map part_of es)) ↔ W
  stand_step W fits h =
      let more = more_parts es i x lt is in (
        λ (s : Stand text x.end (drop (i + 1) (map part_of es))). h.0 (subst (Stand text from) (sym more) (fits, s)),
        λ (w : W). (let k : Stand text from (part_of x ∷ drop (i + 1) (map part_of es)) = subst (Stand text from) more (h.1 w) in k.1),
      )

  pub stand_fails : (W : Type 0) → (Fits text from (part_of x) → ⊥) → Stand text from (drop i (map part_of es)) ↔ W → IsTrue false ↔ W
  stand_fails W never h = (
    λ (on : IsTrue false). absurd (true≢false (sym on)),
    λ (w : W). (let k : Stand text from (part_of x ∷ drop (i + 1) (map part_of es)) = subst (Stand text from) (more_parts es i x lt is) (h.1 w) in absurd (never k.0)),
  )

  -- the part that comes next is one of the text, and the rest stand after it
  pub fits_there : Stand text from (drop i (map part_of es)) → Fits text from (part_of x)
  fits_there stands = (let h : Stand text from (part_of x ∷ drop (i + 1) (map part_of es)) = subst (Stand text from) (more_parts es i x lt is) stands in h.0)

  pub stands_on : Stand text from (drop i (map part_of es)) → Stand text x.end (drop (i + 1) (map part_of es))
  stands_on stands = (let h : Stand text from (part_of x ∷ drop (i + 1) (map part_of es)) = subst (Stand text from) (more_parts es i x lt is) stands in h.1)

pub stand_end : (text : List ℕ) (es : List Edit) (i from : ℕ) (W : Type 0) → length es ≤ i → Stand text from (drop i (map part_of es)) ↔ W → IsTrue true ↔ W
stand_end text es i from W le h = (λ (on : IsTrue true). h.0 (subst (Stand text from) (sym (no_parts es i le)) tt), λ (w : W). refl)

-- ---- the text after them

-- what is the same in front of an offset is the same in front of an earlier one
shorter : (m n : ℕ) (xs ys : List ℕ) → m ≤ n → take n xs ≡ take n ys → take m xs ≡ take m ys
shorter m n xs ys le same = sym (take-take m n xs le) ∙ (ap (take m) same ∙ take-take m n ys le)

reaches : (n : ℕ) (xs ys : List ℕ) → n ≤ length ys → take n xs ≡ take n ys → n ≤ length xs
reaches n xs ys le same = (let long = ap length same in omega (arith, long, length-take n xs, length-take n ys))

front_step : (text now new : List ℕ) (s t n : ℕ) → n ≤ s → s ≤ t → t ≤ length text → take t now ≡ take t text → take n (take s now ++ (new ++ drop t now)) ≡ take n text
front_step text now new s t n le order within same =
    let long : t ≤ length now = reaches t now text within same in
    let low : n ≤ length (take s now) = omega (arith, length-take s now) in
    take-append-le n (take s now) (new ++ drop t now) low ∙ (take-take n s now le ∙ shorter n t now text (omega arith) same)

-- in front of the first part nothing changes
pub front_same : (text : List ℕ) (n : ℕ) (es : List Part) → Stand text n es → take n (edited text es) ≡ take n text
front_same text n [] h = refl
front_same text n (e ∷ es) h = front_step text (edited text es) e.new e.start e.end n h.0.after h.0.order h.0.ends.0 (front_same text e.end es h.1)

middle : (text : List ℕ) (from s : ℕ) → from ≤ s → drop from (take s text) ≡ take (s - from) (drop from text)
middle text from s le = (let e : s ≡ from + (s - from) = omega arith in ap (λ (n : ℕ). drop from (take n text)) e ∙ drop-take from (s - from) text)

-- one edit more
one_more : (text now new : List ℕ) (from s t : ℕ) → from ≤ s → s ≤ t → t ≤ length text → take t now ≡ take t text
    → drop from (take s now ++ (new ++ drop t now)) ≡ take (s - from) (drop from text) ++ (new ++ drop t now)
one_more text now new from s t le order within same =
    let front : take s now ≡ take s text = shorter s t now text order same in
    let low : from ≤ length (take s text) = omega (arith, length-take s text) in
    ap (λ (l : List ℕ). drop from (l ++ (new ++ drop t now))) front ∙ (drop-append-le from (take s text) (new ++ drop t now) low ∙ ap (λ (l : List ℕ). l ++ (new ++ drop t now)) (middle text from s le))

pub splice_step : (text : List ℕ) (es : List Edit) (i from : ℕ) (x : Edit) (old new all : List ℕ) → i < length es → x ≡ get_or es i x → Stand text from (drop i (map part_of es)) → new ≡ (old ++ slice_range text from x.start) ++ x.new.now
    → old ++ drop from (edited text (drop i (map part_of es))) ≡ all → new ++ drop x.end (edited text (drop (i + 1) (map part_of es))) ≡ all
splice_step text es i from x old new all lt at stands is before =
    let e : Part = part_of x in
    let rest : List Part = drop (i + 1) (map part_of es) in
    let more : drop i (map part_of es) ≡ e ∷ rest = more_parts es i x lt at in
    let h : Stand text from (e ∷ rest) = subst (Stand text from) more stands in
    let now : List ℕ = edited text rest in
    let mid : List ℕ = take (e.start - from) (drop from text) in
    let tail : List ℕ = drop e.end now in
    let step : drop from (edited text (drop i (map part_of es))) ≡ mid ++ (e.new ++ tail) =
    ap (λ (l : List Part). drop from (edited text l)) more ∙ one_more text now e.new from e.start e.end h.0.after h.0.order h.0.ends.0 (front_same text e.end rest h.1) in
    ap (λ (l : List ℕ). l ++ tail) is ∙ (append_assoc (old ++ mid) e.new tail ∙ (append_assoc old mid (e.new ++ tail) ∙ (ap (λ (l : List ℕ). old ++ l) (sym step) ∙ before)))

pub splice_end : (text : List ℕ) (es : List Edit) (i from : ℕ) (old all : List ℕ) → length es ≤ i → old ++ drop from (edited text (drop i (map part_of es))) ≡ all → old ++ drop from text ≡ all
splice_end text es i from old all le before = ap (λ (l : List Part). old ++ drop from (edited text l)) (sym (no_parts es i le)) ∙ before
