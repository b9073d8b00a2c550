-- A run of comments that is read upwards.
use Rattle.std.proofs.Common.{◌≡◌, ℕ, zero, suc, ◌+◌, ◌-◌, ◌<◌, ◌≤◌, ◌⊎◌, inl, inr, Bool, true, false, List, [], ◌∷◌, ◌++◌, length, get_or, Option, Some, None, refl, sym, ap, ◌∙◌, subst, arith}
use Rattle.std.specs.Prelude.{cond, nat_eq, nat_le, ◌&&◌, Contains}
use Rattle.std.specs.List.Sorted.{IsPartitionPoint}
use Rattle.std.proofs.lemmas.List.{get_or_default}
use Rattle.std.proofs.lemmas.List.Elements.{All-push}
use Rattle.go_tree_nodes.specs.text_core.declared.span.Span.{Span}
use Rattle.go_tree_nodes.specs.token_core.declared.token.Comment.{Comment}
use Rattle.go_scan_core.specs.Tokens.{CommentsInOrder}
use Rattle.go_doc_core.specs.declared.runs.Climb.{Climb}
use Rattle.go_doc_core.specs.DocComments.{AreAbove, IsAbove, begins_line, first_byte, line_of, top_line}
use Rattle.go_doc_core.specs.mirrors.Climbing.{IsClimb, IsRunBetween, ends_below, ends_by, is_taken, next_climb, passed_over, run_span, taken}
use Rattle.go_doc_core.proofs.LineLemmas.{lines_rise}
use Rattle.go_doc_core.proofs.OrderLemmas.{at_most, bounds, ends_rise, is_at_most, ordered}

above_push : (text : List ℕ) (behind line : ℕ) (run : List Comment) (c : Comment) → AreAbove text behind line run → IsAbove text behind (top_line text line run) c → AreAbove text behind line (run ++ c ∷ [])
above_push text behind line [] c h is = (is, tt)
above_push text behind line (r ∷ run) c h is = (h.0, above_push text behind (line_of text r.span.start) run c h.1 is)

top_push : (text : List ℕ) (line : ℕ) (run : List Comment) (c : Comment) → top_line text line (run ++ c ∷ []) ≡ line_of text c.span.start
top_push text line [] c = refl
top_push text line (r ∷ run) c = top_push text (line_of text r.span.start) run c

first_push : (n : ℕ) (run : List Comment) (c : Comment) → first_byte n (run ++ c ∷ []) ≡ c.span.start
first_push n [] c = refl
first_push n (r ∷ run) c = first_push r.span.start run c

span_push : (run : List Comment) (c : Comment) → run_span (run ++ c ∷ []) ≡ Some (ends_by (run_span run) c.span)
span_push [] c = refl
span_push (r ∷ run) c = ap (λ (n : ℕ). Some (record { start = n; end = r.span.end })) (first_push r.span.start run c)

all_true : (a b c : Bool) → (a && b && c) ≡ true → (a ≡ true) × (b ≡ true) × (c ≡ true)
all_true true true true e = (refl, refl, refl)
all_true true true false e = cc
all_true true false c e = cc
all_true false b c e = cc

not_true : (a b c : Bool) → (a && b && c) ≡ false → a ≡ true → b ≡ true → c ≡ true → ⊥
not_true true true true e f g h = cc
not_true true true false e f g h = cc
not_true true false c e f g h = cc
not_true false b c e f g h = cc

is_one : (n : ℕ) → nat_eq n 1 ≡ true → n ≡ 1
is_one n e = grind arith

one_is : (n : ℕ) → n ≡ 1 → nat_eq n 1 ≡ true
one_is n e = grind arith

apart : (m n : ℕ) → m ≤ n → (n ≡ m) ⊎ (m + 1 ≤ n)
apart zero zero h = inl refl
apart zero (suc n) h = inr (omega arith)
apart (suc m) zero h = absurd (omega (arith, h))
apart (suc m) (suc n) h = elim (apart m n (omega (arith, h))) [ inl e ↦ inl (ap suc e) | inr l ↦ inr (omega (arith, l)) ]

side : (m n : ℕ) → (m ≤ n) ⊎ (n < m)
side zero n = inl (omega arith)
side (suc m) zero = inr (omega arith)
side (suc m) (suc n) = elim (side m n) [ inl l ↦ inl (omega (arith, l)) | inr l ↦ inr (omega (arith, l)) ]

module _ (text : List ℕ) (comments : List Comment) (at behind : ℕ) (order : CommentsInOrder 0 comments (length text)) where
  abbrev Inside : Comment → Type 0
  Inside x = (0 ≤ x.span.start) × (x.span.start ≤ x.span.end) × (x.span.end ≤ length text)

  same : (count : ℕ) (c d : Comment) → count < length comments → c ≡ get_or comments count c → get_or comments count d ≡ c
  same count c d lt is = get_or_default comments count d c lt ∙ sym is

  inside : (count : ℕ) (c : Comment) → count < length comments → c ≡ get_or comments count c → Inside c
  inside count c lt is = subst Inside (sym is) (bounds comments 0 (length text) count c order lt)

  before : (count : ℕ) (c : Comment) → count < length comments → c ≡ get_or comments count c → (k : ℕ) (d : Comment) → k < count → (get_or comments k d).span.end ≤ c.span.start
  before count c lt is k d less = subst (λ (x : Comment). (get_or comments k d).span.end ≤ x.span.start) (same count c d lt is) (ordered comments 0 (length text) k count d order less lt)

  from_there : (count : ℕ) (c : Comment) → count < length comments → c ≡ get_or comments count c → (k : ℕ) (d : Comment) → count ≤ k → k < length comments → c.span.start ≤ (get_or comments k d).span.end
  from_there count c lt is k d from less =
      let rise : c.span.end ≤ (get_or comments k d).span.end = subst (λ (x : Comment). x.span.end ≤ (get_or comments k d).span.end) (same count c d lt is) (ends_rise comments 0 (length text) count k d order from less) in
      let own = inside count c lt is in
      omega (arith, rise, own.1)

  taken_climb : (count : ℕ) (w : Climb) (c : Comment) → c ≡ get_or comments count c → w.ends < 2 → is_taken text behind w c ≡ true → IsClimb text comments at behind (count + 1) w → IsClimb text comments at behind count (taken w c)
  taken_climb count w c is few on h =
      let lt : count < length comments = omega (arith, h.bound) in
      let parts = all_true (nat_eq (ends_below text w c) 1) (nat_le behind c.span.start) (begins_line text c.span.start) on in
      let one : ends_below text w c ≡ 1 = is_one (ends_below text w c) parts.0 in
      let less : count < count + 1 = omega arith in
      let under : c.span.end ≤ w.low = subst (λ (x : Comment). x.span.end ≤ w.low) (sym is) (h.below count c less) in
      let rise : line_of text c.span.end ≤ line_of text w.low = lines_rise text c.span.end w.low under in
      let own : Inside c = inside count c lt is in
      let line : line_of text c.span.end + 1 ≡ top_line text (line_of text at) h.run = omega (arith, one, few, rise, h.top, h.ends) in
      record {
        run = h.run ++ c ∷ [];
        each = All-push (Contains comments) h.run c h.each (count, lt, sym is);
        above = above_push text behind (line_of text at) h.run c h.above (line, parts.2, at_most behind c.span.start parts.1);
        is = ap (λ (found : Option Span). Some (ends_by found c.span)) h.is ∙ sym (span_push h.run c);
        more = 0;
        top = top_push text (line_of text at) h.run c ∙ (let e : line_of text c.span.start ≡ line_of text c.span.start + 0 = omega arith in e);
        ends = omega arith;
        within = omega (arith, own.1, own.2);
        bound = omega (arith, lt);
        below = before count c lt is;
        passed = λ k d from short there.
            let rises = lines_rise text c.span.start (get_or comments k d).span.end (from_there count c lt is k d from short) in
            let line_is = there.0 ∙ top_push text (line_of text at) h.run c in
            omega (arith, rises, line_is);
      }

  passed_climb : (count : ℕ) (w : Climb) (c : Comment) → c ≡ get_or comments count c → w.ends < 2 → is_taken text behind w c ≡ false → IsClimb text comments at behind (count + 1) w → IsClimb text comments at behind count (passed_over text w c)
  passed_climb count w c is few off h =
      let lt : count < length comments = omega (arith, h.bound) in
      let less : count < count + 1 = omega arith in
      let under : c.span.end ≤ w.low = subst (λ (x : Comment). x.span.end ≤ w.low) (sym is) (h.below count c less) in
      let rise : line_of text c.span.end ≤ line_of text w.low = lines_rise text c.span.end w.low under in
      let own : Inside c = inside count c lt is in
      let inner : line_of text c.span.start ≤ line_of text c.span.end = lines_rise text c.span.start c.span.end own.1 in
      let self : (d : Comment) → IsAbove text behind (top_line text (line_of text at) h.run) (get_or comments count d) → ⊥ =
      λ d there. (
      let a : IsAbove text behind (top_line text (line_of text at) h.run) c = subst (λ (x : Comment). IsAbove text behind (top_line text (line_of text at) h.run) x) (same count c d lt is) there in
      let one : ends_below text w c ≡ 1 = omega (arith, a.0, few, rise, h.top, h.ends) in
      not_true (nat_eq (ends_below text w c) 1) (nat_le behind c.span.start) (begins_line text c.span.start) off (one_is (ends_below text w c) one) (is_at_most behind c.span.start a.2) a.1
      ) in
      record {
        run = h.run;
        each = h.each;
        above = h.above;
        is = h.is;
        more = h.more + (line_of text w.low - line_of text c.span.start);
        top = omega (arith, h.top, rise, inner);
        ends = omega (arith, h.ends, rise, inner);
        within = omega (arith, own.1, own.2);
        bound = omega (arith, lt);
        below = before count c lt is;
        passed = λ k d from short there. elim (apart count k from) [
          | inl e ↦ self d (subst (λ (n : ℕ). IsAbove text behind (top_line text (line_of text at) h.run) (get_or comments n d)) e there)
          | inr l ↦ h.passed k d l short there
        ];
      }

  -- a comment more
  pub climbed : (count : ℕ) (w : Climb) (c : Comment) → c ≡ get_or comments count c → w.ends < 2 → IsClimb text comments at behind (count + 1) w → IsClimb text comments at behind count (next_climb text behind w c)
  climbed count w c is few h = by (is_taken text behind w c) refl
    where
      by : (b : Bool) → is_taken text behind w c ≡ b → IsClimb text comments at behind count (cond b (taken w c) (passed_over text w c))
      by true e = taken_climb count w c is few e h
      by false e = passed_climb count w c is few e h

  pub climbed_next : (count : ℕ) (w new : Climb) (d : Comment) → 0 < count → w.ends < 2 → IsClimb text comments at behind count w → new ≡ next_climb text behind w (get_or comments (count - 1) d)
      → IsClimb text comments at behind (count - 1) new
  climbed_next count w new d some few h made =
      let back : count ≡ (count - 1) + 1 = omega (arith, some) in
      let lt : count - 1 < length comments = omega (arith, some, h.bound) in
      subst (λ (x : Climb). IsClimb text comments at behind (count - 1) x) (sym made)
      (climbed (count - 1) w (get_or comments (count - 1) d) (get_or_default comments (count - 1) d (get_or comments (count - 1) d) lt) few (subst (λ (n : ℕ). IsClimb text comments at behind n w) back h))

  -- the comment above does not end before its start
  pub starts_first : (count : ℕ) (d : Comment) → 0 < count → count ≤ length comments → (get_or comments (count - 1) d).span.start ≤ (get_or comments (count - 1) d).span.end
  starts_first count d some bound = (bounds comments 0 (length text) (count - 1) d order (omega (arith, some, bound))).1

  -- nothing is read yet
  pub start_climb : (count : ℕ) → at ≤ length text → count ≤ length comments → IsPartitionPoint (λ (c : Comment). c.span.end ≤ at) (λ (c : Comment). at < c.span.end) comments count → IsClimb text comments at behind count (record { found = None; low = at; ends = 0 })
  start_climb count inner bound split = record {
    run = [];
    each = λ k d lt. absurd (omega (arith, lt));
    above = tt;
    is = refl;
    more = 0;
    top = omega arith;
    ends = omega arith;
    within = inner;
    bound = bound;
    below = λ k d less. split.0 k d (omega arith) less;
    passed = λ k d from short there.
        let past = split.1 k d from short in
        let rises = lines_rise text at (get_or comments k d).span.end (omega (arith, past)) in
        omega (arith, rises, there.0);
  }

  -- all is read that may be above
  pub finished : (count : ℕ) (w : Climb) → IsClimb text comments at behind count w → (count ≡ 0) ⊎ (2 ≤ w.ends) → IsRunBetween text comments at behind w.found
  finished count w h end = (h.run, record { each = h.each; above = h.above; whole = λ c there is. whole c there.0 there.1 there.2 is }, h.is)
    where
      whole : (c : Comment) (k : ℕ) → k < length comments → get_or comments k c ≡ c → IsAbove text behind (top_line text (line_of text at) h.run) c → ⊥
      whole c k lt e is = elim (side count k) [
        | inl from ↦ h.passed k c from lt (subst (λ (x : Comment). IsAbove text behind (top_line text (line_of text at) h.run) x) (sym e) is)
        | inr less ↦ elim end [
          | inl none ↦ absurd (omega (arith, none, less))
          | inr many ↦ (
              let low : c.span.end ≤ w.low = subst (λ (x : Comment). x.span.end ≤ w.low) e (h.below k c less) in
              let rise = lines_rise text c.span.end w.low low in
              absurd (omega (arith, many, rise, h.top, h.ends, is.0))
              )
        ]
      ]
