-- There is one doc comment.
use Rattle.std.proofs.Common.{◌≡◌, ◌≢◌, ℕ, zero, suc, ◌+◌, ◌-◌, ◌<◌, ◌≤◌, ◌⊎◌, inl, inr, Bool, true, false, List, [], ◌∷◌, ◌++◌, ◌/◌, ◌%◌, append_assoc, length, get_or, drop, Option, None, Some, refl, sym, ap, ◌∙◌, subst, arith}
use Rattle.std.specs.Prelude.{◌&&◌, ◌||◌, All, Contains, MatchOption, cond, encode_utf8_all, if◌then◌else◌, min, nat_eq, nat_le, slice_range}
use Rattle.std.specs.List.{AllByRecursion}
use Rattle.std.specs.List.Sorted.{IsPartitionPoint}
use lib.Dec.{ltb}
use lib.Utf8.{encode}
use Rattle.std.proofs.lemmas.Bool.{cases_lt}
use Rattle.std.proofs.lemmas.List.{get_or-drop, get_or-take, get_or_default, get_or_push, length-append, length-drop, length-take}
use Rattle.std.proofs.lemmas.List.Elements.{All-append, All-cons, All-head, All-tail}
use Rattle.std.proofs.lemmas.Str.{encodes-append}
use Rattle.go_tree_nodes.specs.text_core.Boundaries.{is_boundary_of}
use Rattle.go_tree_nodes.specs.text_core.declared.span.Span.{Span}
use Rattle.go_tree_nodes.specs.token_core.Characters.{in_line}
use Rattle.go_tree_nodes.specs.token_core.declared.kind.CommentKind.{CommentKind}
use Rattle.go_tree_nodes.specs.token_core.declared.kind.CommentKind.TheVariants as kinds
use Rattle.go_tree_nodes.specs.token_core.declared.token.Comment.{Comment}
use Rattle.go_scan_core.specs.Texts.{CommentHasItsText, IsEncodedComment}
use Rattle.go_scan_core.specs.Tokens.{CommentsInOrder, joined}
use Rattle.go_doc_core.specs.DocComments.{AreAbove, IsAbove, IsDocRun, begins_line, has_mark, is_blank_byte, line_of, run_text, top_line}
use Rattle.go_doc_core.specs.Laws.{HasDocComment, HasNoOtherDocComment}
use Rattle.go_doc_core.specs.declared.runs.Climb.{Climb}
use Rattle.go_doc_core.specs.mirrors.Climbing.{IsClimb, IsRunBetween, next_climb}
use Rattle.go_doc_core.proofs.LineLemmas.{line_before, line_within, lines_rise}
use Rattle.go_doc_core.proofs.OrderLemmas.{bounds, ends_rise, ordered}
use Rattle.go_doc_core.proofs.RunLemmas.{climbed_next, finished, start_climb}

-- 1. there is one: read upwards as far as there are comments

-- how many comments end at a place or before it
split_at : (cs : List Comment) (low size at : ℕ) → CommentsInOrder low cs size → (n : ℕ) × (n ≤ length cs) × IsPartitionPoint (λ (c : Comment). c.span.end ≤ at) (λ (c : Comment). at < c.span.end) cs n
split_at [] low size at order = (0, (let e : 0 ≤ 0 = omega arith in e), ((λ k d l h. absurd (omega (arith, h))), (λ k d l h. absurd (omega (arith, h)))))
split_at (c ∷ cs) low size at order = elim (cases_lt at c.span.end) [
  | inl past ↦ (
    0,
    (let e : 0 ≤ length (c ∷ cs) = omega arith in e),
    ((λ k d l h. absurd (omega (arith, h))), (λ k d l h. past_all past k d h)),
  )
  | inr upto ↦ (let rest = split_at cs c.span.end size at order.2 in (suc rest.0, (let lt = rest.1 in let e : suc rest.0 ≤ length (c ∷ cs) = omega (arith, lt) in e), (here rest.0 rest.2 upto, behind rest.0 rest.2)))
]
  where
    past_all : at < c.span.end → (k : ℕ) (d : Comment) → k < length (c ∷ cs) → at < (get_or (c ∷ cs) k d).span.end
    past_all past k d lt = (let rise = ends_rise (c ∷ cs) low size 0 k d order (omega arith) lt in omega (arith, past, rise))

    here : (n : ℕ) → IsPartitionPoint (λ (x : Comment). x.span.end ≤ at) (λ (x : Comment). at < x.span.end) cs n → c.span.end ≤ at → (k : ℕ) (d : Comment) → 0 ≤ k → k < suc n → (get_or (c ∷ cs) k d).span.end ≤ at
    here n h upto zero d l lt = upto
    here n h upto (suc k) d l lt = h.0 k d (omega arith) (omega (arith, lt))

    behind : (n : ℕ) → IsPartitionPoint (λ (x : Comment). x.span.end ≤ at) (λ (x : Comment). at < x.span.end) cs n → (k : ℕ) (d : Comment) → suc n ≤ k → k < length (c ∷ cs) → at < (get_or (c ∷ cs) k d).span.end
    behind n h zero d l lt = absurd (omega (arith, l))
    behind n h (suc k) d l lt = h.1 k d (omega (arith, l)) (omega (arith, lt))

module _ (text : List ℕ) (comments : List Comment) (at behind : ℕ) (order : CommentsInOrder 0 comments (length text)) where
  read_on : (count : ℕ) (w : Climb) → IsClimb text comments at behind count w → (found : Option Span) × IsRunBetween text comments at behind found
  read_on zero w h = (w.found, finished text comments at behind order zero w h (inl refl))
  read_on (suc count) w h = elim (cases_lt w.ends 2) [
    | inl few ↦
        let d : Comment = get_or comments count (record { kind = kinds.Line; span = record { start = 0; end = 0 } }) in
        let some : 0 < suc count = omega arith in
        let back : suc count - 1 ≡ count = omega arith in
        read_on count (next_climb text behind w (get_or comments (suc count - 1) d)) (subst (λ (n : ℕ). IsClimb text comments at behind n (next_climb text behind w (get_or comments (suc count - 1) d))) back (climbed_next text comments at behind order (suc count) w (next_climb text behind w (get_or comments (suc count - 1) d)) d some few h refl))
    | inr many ↦ (w.found, finished text comments at behind order (suc count) w h (inr many))
  ]

  has_run : at ≤ length text → (run : List Comment) × IsDocRun text comments at behind run
  has_run within =
      let split = split_at comments 0 (length text) at order in
      let found = read_on split.0 (record { found = None; low = at; ends = 0 }) (start_climb text comments at behind order split.0 within split.1 split.2) in
      (found.1.0, found.1.1)

moved : (text : List ℕ) (comments : List Comment) (at behind : ℕ) (run : List Comment) → IsDocRun text comments (min at (length text)) behind run → IsDocRun text comments at behind run
moved text comments at behind run h = record {
  each = h.each;
  above = subst (λ (line : ℕ). AreAbove text behind line run) (line_within text at) h.above;
  whole = subst (λ (line : ℕ). (c : Comment) → Contains comments c → ¬ IsAbove text behind (top_line text line run) c) (line_within text at) h.whole;
}

pub has_doc_comment : HasDocComment
has_doc_comment text comments at behind order =
    let place : ℕ = min at (length text) in
    let run = has_run text comments place behind order (omega arith) in
    (run_text text run.0, (run.0, moved text comments at behind run.0 run.1, refl))

-- 2. no other

-- a byte of a character other than a line end is no line end

high : (n : ℕ) → 128 ≤ n → n ≢ 10
high n le e = (let f : n ≡ 10 = e in absurd (omega (arith, le, f)))

no_more : All (λ (b : ℕ). b ≢ 10) []
no_more = λ k d lt. absurd (omega (arith, lt))

encoded : (c : ℕ) → c ≢ 10 → All (λ b. b ≢ 10) (encode c)
unfolding encode
encoded c apart = by (ltb c 128) (ltb c 2048) (ltb c 65536)
  where
    by : (x y z : Bool)
        → All (λ b. b ≢ 10) (cond x (c ∷ []) (cond y ((192 + c / 64) ∷ (128 + c % 64) ∷ []) (cond z ((224 + c / 4096) ∷ (128 + (c / 64) % 64) ∷ (128 + c % 64) ∷ []) ((240 + c / 262144) ∷ (128 + (c / 4096) % 64) ∷ (128 + (c / 64) % 64) ∷ (128 + c % 64) ∷ []))))
    by true y z = All-cons (λ b. b ≢ 10) c [] apart no_more
    by false true z = All-cons (λ b. b ≢ 10) (192 + c / 64) ((128 + c % 64) ∷ []) (high (192 + c / 64) (omega arith)) (All-cons (λ b. b ≢ 10) (128 + c % 64) [] (high (128 + c % 64) (omega arith)) no_more)
    by false false true =
        All-cons (λ b. b ≢ 10) (224 + c / 4096) ((128 + (c / 64) % 64) ∷ (128 + c % 64) ∷ []) (high (224 + c / 4096) (omega arith))
        (All-cons (λ b. b ≢ 10) (128 + (c / 64) % 64) ((128 + c % 64) ∷ []) (high (128 + (c / 64) % 64) (omega arith)) (All-cons (λ b. b ≢ 10) (128 + c % 64) [] (high (128 + c % 64) (omega arith)) no_more))
    by false false false =
        All-cons (λ b. b ≢ 10) (240 + c / 262144) ((128 + (c / 4096) % 64) ∷ (128 + (c / 64) % 64) ∷ (128 + c % 64) ∷ []) (high (240 + c / 262144) (omega arith))
        (All-cons (λ b. b ≢ 10) (128 + (c / 4096) % 64) ((128 + (c / 64) % 64) ∷ (128 + c % 64) ∷ []) (high (128 + (c / 4096) % 64) (omega arith))
        (All-cons (λ b. b ≢ 10) (128 + (c / 64) % 64) ((128 + c % 64) ∷ []) (high (128 + (c / 64) % 64) (omega arith)) (All-cons (λ b. b ≢ 10) (128 + c % 64) [] (high (128 + c % 64) (omega arith)) no_more)))

all_encoded : (cs : List ℕ) → AllByRecursion (λ c. in_line c ≡ true) cs → All (λ b. b ≢ 10) (encode_utf8_all cs)
all_encoded [] h = no_more
all_encoded (c ∷ cs) h = All-append (λ b. b ≢ 10) (encode c) (encode_utf8_all cs) (encoded c (λ e. (let on : in_line 10 ≡ true = subst (λ x. in_line x ≡ true) e h.0 in cc))) (all_encoded cs h.1)

slash_is : encode 47 ≡ 47 ∷ []
unfolding encode
slash_is = refl

-- a comment has a slash, behind which no line ends in it

record HasSlash (text : List ℕ) (c : Comment) : Type 0 where
  at : ℕ
  from : c.span.start ≤ at
  to : at < c.span.end
  slash : get_or text at 0 ≡ 47
  none : (m : ℕ) → at ≤ m → m < c.span.end → get_or text m 0 ≢ 10

in_if : {X : Type 0} (b : Bool) (x : X) (P : X → Type 0) → MatchOption (if b then Some x else None) ⊥ P → P x
in_if true x P h = h
in_if false x P h = absurd h

module _ (text : List ℕ) (c : Comment) (order : c.span.start ≤ c.span.end) (within : c.span.end ≤ length text) where
  abbrev bytes : List ℕ
  bytes = slice_range text c.span.start c.span.end

  bytes_length : length bytes ≡ c.span.end - c.span.start
  bytes_length = (let a = length-take (c.span.end - c.span.start) (drop c.span.start text) in let b = length-drop c.span.start text in omega (arith, a, b, within))

  byte_at : (m : ℕ) → c.span.start ≤ m → m < c.span.end → get_or text m 0 ≡ get_or bytes (m - c.span.start) 0
  byte_at m low high_too =
      let a = get_or-take (c.span.end - c.span.start) (drop c.span.start text) (m - c.span.start) 0 (omega (arith, low, high_too)) in
      let b = get_or-drop c.span.start text (m - c.span.start) 0 in
      let e : c.span.start + (m - c.span.start) ≡ m = omega (arith, low) in
      sym (a ∙ (b ∙ ap (λ n. get_or text n 0) e))

  line_slash : (v : List ℕ) → bytes ≡ 47 ∷ 47 ∷ encode_utf8_all v → AllByRecursion (λ x. in_line x ≡ true) v → HasSlash text c
  line_slash v are h =
      let long : length bytes ≡ suc (suc (length (encode_utf8_all v))) = ap length are in
      let some : c.span.start < c.span.end = omega (arith, long, bytes_length) in
      let all : All (λ b. b ≢ 10) bytes = subst (λ (l : List ℕ). All (λ b. b ≢ 10) l) (sym are) (All-cons (λ b. b ≢ 10) 47 (47 ∷ encode_utf8_all v) (λ e. cc) (All-cons (λ b. b ≢ 10) 47 (encode_utf8_all v) (λ e. cc) (all_encoded v h))) in
      record {
        at = c.span.start;
        from = omega arith;
        to = some;
        slash = byte_at c.span.start (omega arith) some ∙ (ap (λ n. get_or bytes n 0) (let e : c.span.start - c.span.start ≡ 0 = omega arith in e) ∙ ap (λ l. get_or l 0 0) are);
        none = λ m low lt e. all (m - c.span.start) 0 (let b = bytes_length in omega (arith, low, lt, b)) (sym (byte_at m low lt) ∙ e);
      }

  general_slash : (front : List ℕ) → bytes ≡ front ++ 47 ∷ [] → HasSlash text c
  general_slash front are =
      let long : length bytes ≡ length front + 1 = ap length are ∙ length-append front (47 ∷ []) in
      let some : c.span.start < c.span.end = omega (arith, long, bytes_length) in
      let low : c.span.start ≤ c.span.end - 1 = omega (arith, some) in
      let top : c.span.end - 1 < c.span.end = omega (arith, some) in
      let place : length front ≡ c.span.end - 1 - c.span.start = omega (arith, long, bytes_length, some) in
      let last : get_or text (c.span.end - 1) 0 ≡ 47 = byte_at (c.span.end - 1) low top ∙ (ap (λ l. get_or l (c.span.end - 1 - c.span.start) 0) are ∙ get_or_push front 47 0 (c.span.end - 1 - c.span.start) place) in
      record {
        at = c.span.end - 1;
        from = low;
        to = top;
        slash = last;
        none = λ m up lt e. (let same : m ≡ c.span.end - 1 = omega (arith, up, lt) in let no : 47 ≡ 10 = sym last ∙ (ap (λ n. get_or text n 0) (sym same) ∙ e) in cc);
      }

  by_kind : (kind : CommentKind) → IsEncodedComment kind bytes → HasSlash text c
  by_kind kinds.Line h =
      let v : List ℕ = h.1.0 in
      let spelled : encode_utf8_all h.0 ≡ 47 ∷ 47 ∷ encode_utf8_all v = ap encode_utf8_all h.1.1 ∙ (ap (λ l. l ++ (encode 47 ++ encode_utf8_all v)) slash_is ∙ ap (λ l. 47 ∷ (l ++ encode_utf8_all v)) slash_is) in
      line_slash v (sym h.2 ∙ spelled) h.1.2
  by_kind kinds.General h =
      let ws = h.1.0 in
      let front : List ℕ = 47 ∷ 42 ∷ (joined ws ++ 42 ∷ []) in
      let whole : h.0 ≡ front ++ 47 ∷ [] = h.1.1 ∙ ap (λ l. 47 ∷ 42 ∷ l) (sym (append_assoc (joined ws) (42 ∷ []) (47 ∷ []))) in
      let spelled : encode_utf8_all h.0 ≡ encode_utf8_all front ++ 47 ∷ [] = ap encode_utf8_all whole ∙ (encodes-append front (47 ∷ []) ∙ ap (λ l. encode_utf8_all front ++ (l ++ [])) slash_is) in
      general_slash (encode_utf8_all front) (sym h.2 ∙ spelled)

  slashes : CommentHasItsText text c → HasSlash text c
  slashes h = by_kind c.kind (in_if (nat_le c.span.start c.span.end && is_boundary_of text c.span.start && is_boundary_of text c.span.end) bytes (IsEncodedComment c.kind) h)

-- nothing begins its line behind such a slash

either_of : (a b c : Bool) → (a || b || c) ≡ true → (a ≡ true) ⊎ ((b ≡ true) ⊎ (c ≡ true))
either_of true b c h = inl refl
either_of false true c h = inr (inl refl)
either_of false false true h = inr (inr refl)
either_of false false false h = cc

both_of : (a b : Bool) → (a && b) ≡ true → (a ≡ true) × (b ≡ true)
both_of true true h = (refl, refl)
both_of true false h = cc
both_of false b h = cc

same_number : (m n : ℕ) → nat_eq m n ≡ true → m ≡ n
same_number m n e = grind arith

mark_byte : (text : List ℕ) (s : ℕ) → s ≤ 2 → has_mark text ≡ true → get_or text s 0 ≡ 47 → ⊥
mark_byte text s low mark slash =
    let parts = both_of (nat_eq (get_or text 0 0) 239 && nat_eq (get_or text 1 0) 187) (nat_eq (get_or text 2 0) 191) mark in
    let first = both_of (nat_eq (get_or text 0 0) 239) (nat_eq (get_or text 1 0) 187) parts.0 in
    by first.0 first.1 parts.1 s low slash
  where
    by : nat_eq (get_or text 0 0) 239 ≡ true → nat_eq (get_or text 1 0) 187 ≡ true → nat_eq (get_or text 2 0) 191 ≡ true → (s : ℕ) → s ≤ 2 → get_or text s 0 ≡ 47 → ⊥
    by one two three zero l e = (let is = same_number (get_or text 0 0) 239 one in absurd (omega (arith, e, is)))
    by one two three (suc zero) l e = (let is = same_number (get_or text 1 0) 187 two in absurd (omega (arith, e, is)))
    by one two three (suc (suc zero)) l e = (let is = same_number (get_or text 2 0) 191 three in absurd (omega (arith, e, is)))
    by one two three (suc (suc (suc k))) l e = absurd (omega (arith, l))

never_begins : (text : List ℕ) (n s : ℕ) → get_or text s 0 ≡ 47 → ((m : ℕ) → s ≤ m → m < n → get_or text m 0 ≢ 10) → (k : ℕ) → s < k → k ≤ n → begins_line text k ≡ true → ⊥
never_begins text n s slash none zero low high_too h = absurd (omega (arith, low))
never_begins text n s slash none (suc m) low high_too h = elim (either_of (nat_eq (get_or text m 0) 10) (is_blank_byte (get_or text m 0) && begins_line text m) (nat_eq m 2 && has_mark text) h) [
  | inl ends ↦ none m (omega (arith, low)) (omega (arith, high_too)) (same_number (get_or text m 0) 10 ends)
  | inr other ↦ elim other [
    | inl blank ↦ by (λ less on. never_begins text n s slash none m less (omega (arith, high_too)) on) (both_of (is_blank_byte (get_or text m 0)) (begins_line text m) blank)
    | inr mark ↦ marked (both_of (nat_eq m 2) (has_mark text) mark)
  ]
]
  where
    marked : (nat_eq m 2 ≡ true) × (has_mark text ≡ true) → ⊥
    marked p = (let two = same_number m 2 p.0 in mark_byte text s (omega (arith, low, two)) p.1 slash)

    by : (s < m → begins_line text m ≡ true → ⊥) → (is_blank_byte (get_or text m 0) ≡ true) × (begins_line text m ≡ true) → ⊥
    by later p = elim (cases_lt s m) [
      | inl less ↦ later less p.1
      | inr upto ↦ (let same : m ≡ s = omega (arith, low, upto) in let no : is_blank_byte 47 ≡ true = subst (λ b. is_blank_byte b ≡ true) (ap (λ k. get_or text k 0) same ∙ slash) p.0 in cc)
    ]

-- no line ends between two places of one line
no_break : (text : List ℕ) (a n m : ℕ) → a ≤ m → m < n → n ≤ length text → line_of text a ≡ line_of text n → get_or text m 0 ≢ 10
no_break text a n m low lt within same e =
    let next : line_of text (m + 1) ≡ line_of text (m + 1 - 1) + cond (nat_eq (get_or text (m + 1 - 1) 0) 10) 1 0 = line_before text (m + 1) (omega arith) (omega (arith, lt, within)) in
    let back : m + 1 - 1 ≡ m = omega arith in
    let here : line_of text (m + 1) ≡ line_of text m + cond (nat_eq (get_or text m 0) 10) 1 0 = next ∙ ap (λ k. line_of text k + cond (nat_eq (get_or text k 0) 10) 1 0) back in
    let one : line_of text (m + 1) ≡ line_of text m + 1 = here ∙ ap (λ b. line_of text m + cond (nat_eq b 10) 1 0) e in
    let first = lines_rise text a m low in
    let last = lines_rise text (m + 1) n (omega (arith, lt)) in
    absurd (omega (arith, one, first, last, same))

-- at most one comment is above a line

module _ (text : List ℕ) (comments : List Comment) (behind : ℕ) (order : CommentsInOrder 0 comments (length text)) (texts : All (CommentHasItsText text) comments) where
  not_both_above : (line i j : ℕ) (c d : Comment) → i < j → j < length comments → get_or comments i c ≡ c → get_or comments j d ≡ d → IsAbove text behind line c → IsAbove text behind line d → ⊥
  not_both_above line i j c d less lt at_c at_d a b =
      let low : i < length comments = omega (arith, less, lt) in
      let other : get_or comments j c ≡ d = get_or_default comments j c d lt ∙ at_d in
      let under : c.span.end ≤ d.span.start = subst (λ (x : Comment). c.span.end ≤ x.span.start) other (subst (λ (x : Comment). x.span.end ≤ (get_or comments j c).span.start) at_c (ordered comments 0 (length text) i j c order less lt)) in
      let own : (0 ≤ c.span.start) × (c.span.start ≤ c.span.end) × (c.span.end ≤ length text) = subst (λ (x : Comment). (0 ≤ x.span.start) × (x.span.start ≤ x.span.end) × (x.span.end ≤ length text)) at_c (bounds comments 0 (length text) i c order low) in
      let inner : (0 ≤ d.span.start) × (d.span.start ≤ d.span.end) × (d.span.end ≤ length text) = subst (λ (x : Comment). (0 ≤ x.span.start) × (x.span.start ≤ x.span.end) × (x.span.end ≤ length text)) at_d (bounds comments 0 (length text) j d order lt) in
      let rise = lines_rise text c.span.end d.span.start under in
      let more = lines_rise text d.span.start d.span.end inner.1 in
      let same : line_of text c.span.end ≡ line_of text d.span.start = omega (arith, rise, more, a.0, b.0) in
      let has : HasSlash text c = slashes text c own.1 own.2 (subst (CommentHasItsText text) at_c (texts i c low)) in
      let within : d.span.start ≤ length text = omega (arith, inner.1, inner.2) in
      let none : (m : ℕ) → has.at ≤ m → m < d.span.start → get_or text m 0 ≢ 10 =
      λ m up down. elim (cases_lt m c.span.end) [ inl inside ↦ has.none m up inside | inr past ↦ no_break text c.span.end d.span.start m past down within same ] in
      never_begins text d.span.start has.at has.slash none d.span.start (let t = has.to in omega (arith, t, under)) (omega arith) b.1

  one_above : (line : ℕ) (c d : Comment) → Contains comments c → Contains comments d → IsAbove text behind line c → IsAbove text behind line d → c ≡ d
  one_above line c d p q a b = elim (cases_lt p.0 q.0) [
    | inl less ↦ absurd (not_both_above line p.0 q.0 c d less q.1 p.2 q.2 a b)
    | inr upto ↦ elim (cases_lt q.0 p.0) [
      | inl less ↦ absurd (not_both_above line q.0 p.0 d c less p.1 q.2 p.2 b a)
      | inr low ↦
          let same : p.0 ≡ q.0 = omega (arith, upto, low) in
          sym p.2 ∙ (ap (λ (k : ℕ). get_or comments k c) same ∙ (get_or_default comments q.0 c d q.1 ∙ q.2))
    ]
  ]

  one_run : (line : ℕ) (run other : List Comment) → All (Contains comments) run → All (Contains comments) other → AreAbove text behind line run → AreAbove text behind line other
      → ((c : Comment) → Contains comments c → ¬ IsAbove text behind (top_line text line run) c) → ((c : Comment) → Contains comments c → ¬ IsAbove text behind (top_line text line other) c) → run ≡ other
  one_run line [] [] each all a b whole last = refl
  one_run line [] (d ∷ ds) each all a b whole last = absurd (whole d (All-head (Contains comments) d ds all) b.0)
  one_run line (c ∷ cs) [] each all a b whole last = absurd (last c (All-head (Contains comments) c cs each) a.0)
  one_run line (c ∷ cs) (d ∷ ds) each all a b whole last =
      let same : c ≡ d = one_above line c d (All-head (Contains comments) c cs each) (All-head (Contains comments) d ds all) a.0 b.0 in
      let lines : line_of text d.span.start ≡ line_of text c.span.start = ap (λ (x : Comment). line_of text x.span.start) (sym same) in
      let rest : cs ≡ ds =
      one_run (line_of text c.span.start) cs ds (All-tail (Contains comments) c cs each) (All-tail (Contains comments) d ds all) a.1 (subst (λ (l : ℕ). AreAbove text behind l ds) lines b.1) whole
      (subst (λ (l : ℕ). (x : Comment) → Contains comments x → ¬ IsAbove text behind (top_line text l ds) x) lines last) in
      ap (λ (x : Comment). x ∷ cs) same ∙ ap (λ (l : List Comment). d ∷ l) rest

pub has_no_other : HasNoOtherDocComment
has_no_other text comments at behind one other order texts h k =
    let same : h.0 ≡ k.0 = one_run text comments behind order texts (line_of text at) h.0 k.0 h.1.each k.1.each h.1.above k.1.above h.1.whole k.1.whole in
    h.2 ∙ (ap (run_text text) same ∙ sym k.2)
