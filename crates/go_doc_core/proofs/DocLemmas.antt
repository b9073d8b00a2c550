-- The text of a run of comments.
use Rattle.std.proofs.Common.{◌≡◌, ℕ, zero, suc, ◌+◌, ◌<◌, ◌≤◌, ◌⊎◌, inl, inr, Bool, true, false, List, [], ◌∷◌, length, get_or, Option, Some, None, refl, sym, ap, ◌∙◌, subst, arith}
use Rattle.std.specs.Prelude.{nat_le, ◌&&◌, min, if◌then◌else◌, All, Contains, MatchOption, slice_range}
use Rattle.go_tree_nodes.specs.text_core.declared.span.Span.{Span}
use Rattle.go_tree_nodes.specs.text_core.Boundaries.{is_boundary_of}
use Rattle.go_tree_nodes.specs.text_core.Slices.{slice_of}
use Rattle.go_tree_nodes.specs.token_core.declared.token.Comment.{Comment}
use Rattle.go_scan_core.specs.Texts.{CommentHasItsText, IsEncodedComment}
use Rattle.go_scan_core.specs.Tokens.{CommentsInOrder}
use Rattle.go_doc_core.specs.DocComments.{AreAbove, IsAbove, IsDocComment, IsDocRun, first_byte, line_of, top_line}
use Rattle.go_doc_core.specs.mirrors.Climbing.{IsRunBetween, run_span}
use Rattle.go_doc_core.proofs.LineLemmas.{line_within, lines_rise}
use Rattle.go_doc_core.proofs.OrderLemmas.{bounds, is_at_most}

all_true : (a b c : Bool) → (a && b && c) ≡ true → (a ≡ true) × (b ≡ true) × (c ≡ true)
all_true true true true e = (refl, refl, refl)
all_true true true false e = cc
all_true true false c e = cc
all_true false b c e = cc

each_true : (a b c : Bool) → a ≡ true → b ≡ true → c ≡ true → (a && b && c) ≡ true
each_true true true true e f g = refl
each_true true true false e f g = cc
each_true true false c e f g = cc
each_true false b c e f g = cc

is_cut : {X : Type 0} (b : Bool) (x : X) (P : X → Type 0) → MatchOption (if b then Some x else None) ⊥ P → b ≡ true
is_cut true x P h = refl
is_cut false x P h = absurd h

cut_is : {X : Type 0} (b : Bool) (x y : X) → (if b then Some x else None) ≡ Some y → y ≡ x
cut_is true x y e = cc
cut_is false x y e = cc

not_cut : {X : Type 0} (b : Bool) (x : X) → (if b then Some x else None) ≡ None → b ≡ true → ⊥
not_cut true x e f = cc
not_cut false x e f = cc

module _ (text : List ℕ) where
  -- a comment of the text begins and ends between characters, and does not end before its start
  abbrev Cuts : Comment → Type 0
  Cuts c = (nat_le c.span.start c.span.end ≡ true) × (is_boundary_of text c.span.start ≡ true) × (is_boundary_of text c.span.end ≡ true)

  cuts : (c : Comment) → CommentHasItsText text c → Cuts c
  cuts c h =
      all_true (nat_le c.span.start c.span.end) (is_boundary_of text c.span.start) (is_boundary_of text c.span.end)
      (is_cut (nat_le c.span.start c.span.end && is_boundary_of text c.span.start && is_boundary_of text c.span.end) (slice_range text c.span.start c.span.end) (IsEncodedComment c.kind) h)

  contained_cuts : (comments : List Comment) → All (CommentHasItsText text) comments → (c : Comment) → Contains comments c → Cuts c
  contained_cuts comments texts c there = cuts c (subst (CommentHasItsText text) there.2 (texts there.0 c there.1))

  first_cut : (n : ℕ) (cs : List Comment) → is_boundary_of text n ≡ true → All Cuts cs → is_boundary_of text (first_byte n cs) ≡ true
  first_cut n [] here all = here
  first_cut n (c ∷ cs) here all =
      let some : 0 < length (c ∷ cs) = omega arith in
      let own : Cuts c = all 0 c some in
      first_cut c.span.start cs own.1 (λ k d lt. (let more : suc k < length (c ∷ cs) = omega (arith, lt) in all (suc k) d more))

  first_low : (behind n : ℕ) (cs : List Comment) → AreAbove text behind (line_of text n) cs → All (λ (c : Comment). c.span.start ≤ c.span.end) cs → first_byte n cs ≤ n
  first_low behind n [] above all = omega arith
  first_low behind n (c ∷ cs) above all =
      let some : 0 < length (c ∷ cs) = omega arith in
      let own : c.span.start ≤ c.span.end = all 0 c some in
      let rest : first_byte c.span.start cs ≤ c.span.start = first_low behind c.span.start cs above.1 (λ k d lt. (let more : suc k < length (c ∷ cs) = omega (arith, lt) in all (suc k) d more)) in
      let under : c.span.end < n = below c above.0.0 in
      omega (arith, own, rest, under)
    where
      below : (c : Comment) → line_of text c.span.end + 1 ≡ line_of text n → c.span.end < n
      below c e = elim (side n c.span.end) [ inl l ↦ (let rise = lines_rise text n c.span.end l in absurd (omega (arith, rise, e))) | inr l ↦ l ]
        where
          side : (m n : ℕ) → (m ≤ n) ⊎ (n < m)
          side zero n = inl (omega arith)
          side (suc m) zero = inr (omega arith)
          side (suc m) (suc n) = elim (side m n) [ inl l ↦ inl (omega (arith, l)) | inr l ↦ inr (omega (arith, l)) ]

  module _ (comments : List Comment) (at behind : ℕ) (order : CommentsInOrder 0 comments (length text)) (texts : All (CommentHasItsText text) comments) where
    moved : (run : List Comment) → IsDocRun text comments (min at (length text)) behind run → IsDocRun text comments at behind run
    moved run h = record {
      each = h.each;
      above = subst (λ (line : ℕ). AreAbove text behind line run) (line_within text at) h.above;
      whole = subst (λ (line : ℕ). (c : Comment) → Contains comments c → ¬ IsAbove text behind (top_line text line run) c) (line_within text at) h.whole;
    }

    pub no_doc : (place : ℕ) (found : Option Span) → place ≡ min at (length text) → IsRunBetween text comments place behind found → found ≡ None → IsDocComment text comments at behind []
    no_doc place found is h none = by h.0 (subst (λ (n : ℕ). IsDocRun text comments n behind h.0) is h.1) (sym none ∙ h.2)
      where
        by : (run : List Comment) → IsDocRun text comments (min at (length text)) behind run → None ≡ run_span run → IsDocComment text comments at behind []
        by [] r e = ([], moved [] r, refl)
        by (c ∷ cs) r e = cc

    pub some_doc : (place : ℕ) (found : Option Span) (span : Span) (doc : List ℕ) → place ≡ min at (length text) → IsRunBetween text comments place behind found → found ≡ Some span → slice_of text span ≡ Some doc → IsDocComment text comments at behind doc
    some_doc place found span doc is h some cut = by h.0 (subst (λ (n : ℕ). IsDocRun text comments n behind h.0) is h.1) (sym some ∙ h.2)
      where
        piece : doc ≡ slice_range text span.start span.end
        piece = cut_is (nat_le span.start span.end && is_boundary_of text span.start && is_boundary_of text span.end) (slice_range text span.start span.end) doc cut

        by : (run : List Comment) → IsDocRun text comments (min at (length text)) behind run → Some span ≡ run_span run → IsDocComment text comments at behind doc
        by [] r e = cc
        by (c ∷ cs) r e =
            let same : span ≡ record { start = first_byte c.span.start cs; end = c.span.end } = cc in
            (c ∷ cs, moved (c ∷ cs) r, piece ∙ ap (λ (s : Span). slice_range text s.start s.end) same)

    pub never_cut : (place : ℕ) (found : Option Span) (span : Span) → IsRunBetween text comments place behind found → found ≡ Some span → slice_of text span ≡ None → ⊥
    never_cut place found span h some cut = by h.0 h.1 (sym some ∙ h.2)
      where
        by : (run : List Comment) → IsDocRun text comments place behind run → Some span ≡ run_span run → ⊥
        by [] r e = cc
        by (c ∷ cs) r e =
            let same : span ≡ record { start = first_byte c.span.start cs; end = c.span.end } = cc in
            let all : All Cuts (c ∷ cs) = λ k d lt. contained_cuts comments texts (get_or (c ∷ cs) k d) (r.each k d lt) in
            let starts : All (λ (x : Comment). x.span.start ≤ x.span.end) (c ∷ cs) = λ k d lt. (
            let there = r.each k d lt in
            subst (λ (x : Comment). x.span.start ≤ x.span.end) there.2 (bounds comments 0 (length text) there.0 (get_or (c ∷ cs) k d) order there.1).1
            ) in
            let some : 0 < length (c ∷ cs) = omega arith in
            let own : Cuts c = all 0 c some in
            let own_starts : c.span.start ≤ c.span.end = starts 0 c some in
            let rest : All Cuts cs = λ k d lt. (let more : suc k < length (c ∷ cs) = omega (arith, lt) in all (suc k) d more) in
            let rest_starts : All (λ (x : Comment). x.span.start ≤ x.span.end) cs = λ k d lt. (let more : suc k < length (c ∷ cs) = omega (arith, lt) in starts (suc k) d more) in
            let low : first_byte c.span.start cs ≤ c.span.start = first_low behind c.span.start cs r.above.1 rest_starts in
            let is_low : nat_le (first_byte c.span.start cs) c.span.end ≡ true = is_at_most (first_byte c.span.start cs) c.span.end (omega (arith, low, own_starts)) in
            let whole = each_true (nat_le (first_byte c.span.start cs) c.span.end) (is_boundary_of text (first_byte c.span.start cs)) (is_boundary_of text c.span.end) is_low (first_cut c.span.start cs own.1 rest) own.2 in
            not_cut (nat_le (first_byte c.span.start cs) c.span.end && is_boundary_of text (first_byte c.span.start cs) && is_boundary_of text c.span.end) (slice_range text (first_byte c.span.start cs) c.span.end)
            (sym (ap (slice_of text) same) ∙ cut) whole
