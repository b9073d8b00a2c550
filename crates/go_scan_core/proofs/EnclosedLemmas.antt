-- What is computed of strings and general comments is what the grammar says, and nothing else is.
use Rattle.std.proofs.Common.{◌≡◌, ℕ, zero, suc, ◌+◌, ◌<◌, ◌≤◌, Bool, true, false, ◌==◌, ◌||◌, ◌&&◌, inl, inr, List, [], ◌∷◌, ◌++◌, length, take, drop, Option, Some, None, Result, Ok, Err, refl, sym, ap, ◌∙◌, subst, arith}
use Rattle.std.proofs.lemmas.List.{append_assoc, drop_at, length-append, length-drop, length-take-le, take-append-drop}
use Rattle.go_token_core.specs.text_core.declared.rule.Rule.{Rule}
use Rattle.go_token_core.specs.text_core.declared.rule.Rule.TheVariants.{L1, L2, L3}
use Rattle.go_scan_core.specs.declared.enclosed.Enclosure.{Enclosure}
use Rattle.go_scan_core.specs.declared.enclosed.Enclosure.TheVariants.{General, Quoted, Raw}
use Rattle.go_scan_core.specs.declared.enclosed.Flaw.{Flaw}
use Rattle.go_scan_core.specs.declared.enclosed.Flaw.TheVariants.{Forbidden, Bad, Open}
use Rattle.go_scan_core.specs.declared.enclosed.Item.{Item}
use Rattle.go_scan_core.specs.declared.enclosed.Item.TheVariants as items
use Rattle.go_token_core.specs.declared.escapes.Meaning.{Meaning}
use Rattle.go_token_core.specs.Characters.{first_passes, is_forbidden}
use Rattle.go_scan_core.specs.Enclosed.{closing, opening}
use Rattle.go_scan_core.specs.mirrors.Enclosed.{behind, body, enclosed_at, escape_item, item_at, placed}
use Rattle.go_token_core.specs.Escapes.{escape_at}
use Rattle.go_scan_core.specs.Tokens.{AreItems, IsBadEscape, IsEnclosed, IsEscape, IsFlawed, IsItem, IsOpen, is_special, joined}
use Rattle.go_token_core.proofs.Choices.{chosen}
use Rattle.go_scan_core.proofs.FrontLemmas.{and_true, or_false, same_number}
use Rattle.go_token_core.proofs.EscapeLemmas.{escape_longer, escape_shorter, escape_within}
use Rattle.go_scan_core.proofs.EscapedLemmas.{escape_read, escape_words}
use Rattle.go_scan_core.proofs.BodyLemmas.{behind-behind, behind-zero, body_end, body_none, body_step, item_within}

-- ---- an item is read whole

plain_item : (c : ℕ) (rest : List ℕ) → is_special c ≡ false → item_at Quoted (c ∷ rest) ≡ items.Characters 1
unfolding item_at
plain_item c rest h =
    let a = or_false (is_forbidden c || (c == 34) || (c == 10)) (c == 92) h in
    let b = or_false (is_forbidden c || (c == 34)) (c == 10) a.0 in
    let d = or_false (is_forbidden c) (c == 34) b.0 in
    rw (d.0, d.1, b.1, a.1) refl

escaped_item : (cs : List ℕ) (r : Option (Meaning × ℕ)) → escape_at cs ≡ r → item_at Quoted (92 ∷ cs) ≡ escape_item r
unfolding item_at
escaped_item cs r e = ap escape_item e

raw_whole : (c : ℕ) (rest : List ℕ) → is_forbidden c ≡ false → (c == 96) ≡ false → item_at Raw (c ∷ rest) ≡ items.Characters 1
unfolding item_at
raw_whole c rest h g = rw (h, g) refl

comment_whole : (c : ℕ) (rest : List ℕ) → is_forbidden c ≡ false → ((c == 42) && first_passes (λ d. d == 47) rest) ≡ false → item_at General (c ∷ rest) ≡ items.Characters 1
unfolding item_at
comment_whole c rest h g = rw (h, g) refl

pub item_whole : (e : Enclosure) (w rest : List ℕ) → IsItem e w rest → item_at e (w ++ rest) ≡ items.Characters (length w)
item_whole General w rest h = ap (λ x. item_at General (x ++ rest)) h.1 ∙ comment_whole h.0 rest h.2 h.3 ∙ ap (λ n. items.Characters n) (sym (ap length h.1))
item_whole Raw w rest h = ap (λ x. item_at Raw (x ++ rest)) h.1 ∙ raw_whole h.0 rest h.2 h.3 ∙ ap (λ n. items.Characters n) (sym (ap length h.1))
item_whole Quoted w rest h = elim h [
  | inl plain ↦ ap (λ x. item_at Quoted (x ++ rest)) plain.1 ∙ plain_item plain.0 rest plain.2 ∙ ap (λ n. items.Characters n) (sym (ap length plain.1))
  | inr whole ↦ (let count : length whole.0 + 1 ≡ length w = omega (arith, ap length whole.1) in
      let read = escape_read whole.0 whole.2 in
      ap (λ x. item_at Quoted (x ++ rest)) whole.1 ∙ escaped_item (whole.0 ++ rest) (Some (read.0, length whole.0)) (escape_longer whole.0 rest (read.0, length whole.0) read.1) ∙ ap (λ n. items.Characters n) count)
]

-- items and what stands behind them
pub items_whole : (e : Enclosure) (ws : List (List ℕ)) (rest : List ℕ) → AreItems e ws rest → body e (joined ws ++ rest) 0 ≡ behind (length (joined ws)) (body e rest 0)
items_whole e [] rest a = sym (behind-zero (body e rest 0))
items_whole e (w ∷ ws) rest a =
    let all : (w ++ joined ws) ++ rest ≡ w ++ (joined ws ++ rest) = append_assoc w (joined ws) rest in
    let left : drop (length w) (w ++ (joined ws ++ rest)) ≡ joined ws ++ rest = drop_at w (joined ws ++ rest) (length w) refl in
    let count : length w + length (joined ws) ≡ length (w ++ joined ws) = omega (arith, length-append w (joined ws)) in
    ap (λ x. body e x 0) all
    ∙ body_step e (w ++ (joined ws ++ rest)) (length w) (item_whole e w (joined ws ++ rest) a.0)
    ∙ ap (λ x. behind (length w) (body e x 0)) left
    ∙ ap (behind (length w)) (items_whole e ws rest a.1)
    ∙ behind-behind (length w) (length (joined ws)) (body e rest 0)
    ∙ ap (λ n. behind n (body e rest 0)) count

-- ---- what is read is an item

escaped_part : (cs : List ℕ) (r : Option (Meaning × ℕ)) (n : ℕ) → escape_at cs ≡ r → escape_item r ≡ items.Characters n → IsItem Quoted (take n (92 ∷ cs)) (drop n (92 ∷ cs))
escaped_part cs None n e h = cc
escaped_part cs (Some x) n e h =
    let more : suc x.1 ≡ n = (let plus : x.1 + 1 ≡ n = cc in omega arith) in
    let count : length (take x.1 cs) ≡ x.1 = length-take-le x.1 cs (escape_within cs x e) in
    let P : ℕ → Type 0 = λ m. IsItem Quoted (take m (92 ∷ cs)) (drop m (92 ∷ cs)) in
    subst P more (inr (take x.1 cs, refl, escape_words (take x.1 cs) x.0 (escape_shorter cs x e ∙ ap (λ k. Some (x.0, k)) (sym count))))

pub item_part : (e : Enclosure) (cs : List ℕ) (n : ℕ) → item_at e cs ≡ items.Characters n → IsItem e (take n cs) (drop n cs)
unfolding item_at
item_part General [] n h = cc
item_part Quoted [] n h = cc
item_part Raw [] n h = cc
item_part General (c ∷ cs) n h =
    elim (chosen (is_forbidden c) items.Forbidden _ (items.Characters n) h) [
      | inl a ↦ cc
      | inr a ↦ elim (chosen ((c == 42) && first_passes (λ d. d == 47) cs) items.End (items.Characters 1) (items.Characters n) a.1) [
        | inl b ↦ cc
        | inr b ↦ (let one : 1 ≡ n = cc in let P : ℕ → Type 0 = λ m. IsItem General (take m (c ∷ cs)) (drop m (c ∷ cs)) in subst P one (c, refl, a.0, b.0))
      ]
    ]
item_part Raw (c ∷ cs) n h =
    elim (chosen (is_forbidden c) items.Forbidden _ (items.Characters n) h) [
      | inl a ↦ cc
      | inr a ↦ elim (chosen (c == 96) items.End (items.Characters 1) (items.Characters n) a.1) [
        | inl b ↦ cc
        | inr b ↦ (let one : 1 ≡ n = cc in let P : ℕ → Type 0 = λ m. IsItem Raw (take m (c ∷ cs)) (drop m (c ∷ cs)) in subst P one (c, refl, a.0, b.0))
      ]
    ]
item_part Quoted (c ∷ cs) n h =
    elim (chosen (is_forbidden c) items.Forbidden _ (items.Characters n) h) [
      | inl a ↦ cc
      | inr a ↦ elim (chosen (c == 34) items.End _ (items.Characters n) a.1) [
        | inl b ↦ cc
        | inr b ↦ elim (chosen (c == 10) items.Open _ (items.Characters n) b.1) [
          | inl d ↦ cc
          | inr d ↦ elim (chosen (c == 92) (escape_item (escape_at cs)) (items.Characters 1) (items.Characters n) d.1) [
            | inl f ↦ subst (λ x. IsItem Quoted (take n (x ∷ cs)) (drop n (x ∷ cs))) (sym (same_number c 92 f.0)) (escaped_part cs (escape_at cs) n refl f.1)
            | inr f ↦ (let one : 1 ≡ n = cc in let P : ℕ → Type 0 = λ m. IsItem Quoted (take m (c ∷ cs)) (drop m (c ∷ cs)) in subst P one (inl (c, refl, rw (a.0, b.0, d.0, f.0) refl)))
          ]
        ]
      ]
    ]

-- ---- what stops the items

no_escape : (cs : List ℕ) (r : Option (Meaning × ℕ)) → ((w after : List ℕ) → cs ≡ w ++ after → IsEscape w → ⊥) → escape_at cs ≡ r → escape_at cs ≡ None
no_escape cs None h e = e
no_escape cs (Some x) h e =
    let count : length (take x.1 cs) ≡ x.1 = length-take-le x.1 cs (escape_within cs x e) in
    absurd (h (take x.1 cs) (drop x.1 cs) (sym (take-append-drop x.1 cs)) (escape_words (take x.1 cs) x.0 (escape_shorter cs x e ∙ ap (λ k. Some (x.0, k)) (sym count))))

no_whole_escape : (cs : List ℕ) → escape_at cs ≡ None → (w after : List ℕ) → cs ≡ w ++ after → IsEscape w → ⊥
no_whole_escape cs none w after split whole = let read = escape_read w whole in nothing (read.0, length w) (sym (escape_longer w after (read.0, length w) read.1) ∙ ap escape_at (sym split) ∙ none)
  where
    nothing : (x : Meaning × ℕ) → Some x ≡ None → ⊥
    nothing x e = cc

closing_item : (e : Enclosure) (rest : List ℕ) → item_at e (closing e ++ rest) ≡ items.End
unfolding item_at
closing_item General rest = refl
closing_item Quoted rest = refl
closing_item Raw rest = refl

closing_some : (e : Enclosure) (rest : List ℕ) → 0 < length (closing e ++ rest)
closing_some General rest = omega arith
closing_some Quoted rest = omega arith
closing_some Raw rest = omega arith

pub closing_ends : (e : Enclosure) (rest : List ℕ) → body e (closing e ++ rest) 0 ≡ Ok (length (closing e))
closing_ends e rest = body_end e (closing e ++ rest) items.End (closing_some e rest) (closing_item e rest)

forbidden_item : (e : Enclosure) (c : ℕ) (rest : List ℕ) → is_forbidden c ≡ true → item_at e (c ∷ rest) ≡ items.Forbidden
unfolding item_at
forbidden_item General c rest h = rw h refl
forbidden_item Quoted c rest h = rw h refl
forbidden_item Raw c rest h = rw h refl

pub forbidden_ends : (e : Enclosure) (rest : List ℕ) → first_passes is_forbidden rest ≡ true → body e rest 0 ≡ Err (Forbidden 0)
forbidden_ends e [] h = cc
forbidden_ends e (c ∷ rest) h = body_end e (c ∷ rest) items.Forbidden (omega arith) (forbidden_item e c rest h)

newline_item : (rest : List ℕ) → item_at Quoted (10 ∷ rest) ≡ items.Open
unfolding item_at
newline_item rest = refl

newline_ends : (rest : List ℕ) → first_passes (λ c. c == 10) rest ≡ true → body Quoted rest 0 ≡ Err Open
newline_ends [] h = cc
newline_ends (c ∷ rest) h = ap (λ x. body Quoted (x ∷ rest) 0) (same_number c 10 h) ∙ body_end Quoted (10 ∷ rest) items.Open (omega arith) (newline_item rest)

pub open_ends : (e : Enclosure) (rest : List ℕ) → IsOpen e rest → body e rest 0 ≡ Err Open
open_ends e rest h = elim h [
  | inl none ↦ body_none e rest (ap length none)
  | inr line ↦ ap (λ x. body x rest 0) line.0 ∙ newline_ends rest line.1
]

pub bad_ends : (e : Enclosure) (rest : List ℕ) → IsBadEscape e rest → body e rest 0 ≡ Err Bad
bad_ends e rest h =
    ap (λ x. body x rest 0) h.0 ∙ ap (λ x. body Quoted x 0) h.2
    ∙ body_end Quoted (92 ∷ h.1) items.Bad (omega arith) (escaped_item h.1 None (no_escape h.1 (escape_at h.1) h.3 refl))

-- ---- items look no further than the closing

first_longer : (p : ℕ → Bool) (r after : List ℕ) → 0 < length r → first_passes p (r ++ after) ≡ first_passes p r
first_longer p [] after h = absurd (omega arith)
first_longer p (c ∷ r) after h = refl

item_longer : (e : Enclosure) (w r after : List ℕ) → 0 < length r → IsItem e w r → IsItem e w (r ++ after)
item_longer General w r after some h = (h.0, h.1, h.2, ap (λ b. (h.0 == 42) && b) (first_longer (λ d. d == 47) r after some) ∙ h.3)
item_longer Quoted w r after some h = h
item_longer Raw w r after some h = h

item_shorter : (e : Enclosure) (w r after : List ℕ) → 0 < length r → IsItem e w (r ++ after) → IsItem e w r
item_shorter General w r after some h = (h.0, h.1, h.2, ap (λ b. (h.0 == 42) && b) (sym (first_longer (λ d. d == 47) r after some)) ∙ h.3)
item_shorter Quoted w r after some h = h
item_shorter Raw w r after some h = h

some_behind : (xs r : List ℕ) → 0 < length r → 0 < length (xs ++ r)
some_behind xs r h = omega (arith, length-append xs r)

items_longer : (e : Enclosure) (ws : List (List ℕ)) (r after : List ℕ) → 0 < length r → AreItems e ws r → AreItems e ws (r ++ after)
items_longer e [] r after some a = tt
items_longer e (w ∷ ws) r after some a = (subst (IsItem e w) (append_assoc (joined ws) r after) (item_longer e w (joined ws ++ r) after (some_behind (joined ws) r some) a.0), items_longer e ws r after some a.1)

items_shorter : (e : Enclosure) (ws : List (List ℕ)) (r after : List ℕ) → 0 < length r → AreItems e ws (r ++ after) → AreItems e ws r
items_shorter e [] r after some a = tt
items_shorter e (w ∷ ws) r after some a = (item_shorter e w (joined ws ++ r) after (some_behind (joined ws) r some) (subst (IsItem e w) (sym (append_assoc (joined ws) r after)) a.0), items_shorter e ws r after some a.1)

closing_length : (e : Enclosure) → 0 < length (closing e)
closing_length General = omega arith
closing_length Quoted = omega arith
closing_length Raw = omega arith

-- ---- what is computed of an opening, items and what stops them

pub read_to_end : (e : Enclosure) (ws : List (List ℕ)) (rest cs : List ℕ) (r : Result ℕ Flaw) → cs ≡ opening e ++ (joined ws ++ rest) → AreItems e ws rest → body e rest 0 ≡ r → enclosed_at e cs ≡ placed (length (opening e)) (behind (length (joined ws)) r)
unfolding enclosed_at
read_to_end e ws rest cs r split a h =
    let k = length (opening e) in
    let left : drop k cs ≡ joined ws ++ rest = ap (drop k) split ∙ drop_at (opening e) (joined ws ++ rest) k refl in
    ap (λ x. placed k (body e x 0)) left ∙ ap (placed k) (items_whole e ws rest a ∙ ap (behind (length (joined ws))) h)

pub enclosed_complete : (e : Enclosure) (w rest : List ℕ) → IsEnclosed e w → enclosed_at e (w ++ rest) ≡ Ok (length w)
enclosed_complete e w rest h =
    let ws = h.0 in
    let split : w ++ rest ≡ opening e ++ (joined ws ++ (closing e ++ rest)) = ap (λ x. x ++ rest) h.1 ∙ append_assoc (opening e) (joined ws ++ closing e) rest ∙ ap (λ x. opening e ++ x) (append_assoc (joined ws) (closing e) rest) in
    let count : length (opening e) + (length (joined ws) + length (closing e)) ≡ length w = omega (arith, ap length h.1, length-append (opening e) (joined ws ++ closing e), length-append (joined ws) (closing e)) in
    read_to_end e ws (closing e ++ rest) (w ++ rest) (Ok (length (closing e))) split (items_longer e ws (closing e) rest (closing_length e) h.2) (closing_ends e rest) ∙ ap Ok count

pub flawed_complete : (e : Enclosure) (rule : Rule) (before cs : List ℕ) → IsFlawed e rule before cs → (enclosed_at e cs ≡ Err (rule, length before)) × ((rest : List ℕ) × (cs ≡ before ++ rest))
flawed_complete e rule before cs h =
    let ws = h.0 in
    let front = opening e ++ joined ws in
    elim h.4 [
      | inl stray ↦ (
        read_to_end e ws h.1 cs (Err (Forbidden 0)) h.2 h.3 (forbidden_ends e h.1 stray.2) ∙ ap (λ n. Err (L1, n)) (omega (arith, ap length stray.1, length-append (opening e) (joined ws))) ∙ ap (λ x. Err (x, length before)) (sym stray.0),
        (h.1, h.2 ∙ sym (append_assoc (opening e) (joined ws) h.1) ∙ ap (λ x. x ++ h.1) (sym stray.1)),
      )
      | inr other ↦ elim other [
        | inl still ↦ (
          read_to_end e ws h.1 cs (Err Open) h.2 h.3 (open_ends e h.1 still.2) ∙ ap (λ n. Err (L2, n)) (sym (ap length still.1)) ∙ ap (λ x. Err (x, length before)) (sym still.0),
          (cs, ap (λ x. x ++ cs) (sym still.1)),
        )
        | inr bad ↦ (
          read_to_end e ws h.1 cs (Err Bad) h.2 h.3 (bad_ends e h.1 bad.2) ∙ ap (λ n. Err (L3, n)) (sym (ap length bad.1)) ∙ ap (λ x. Err (x, length before)) (sym bad.0),
          (cs, ap (λ x. x ++ cs) (sym bad.1)),
        )
      ]
    ]

-- ---- what each next thing says

abbrev Stops : Enclosure → List ℕ → Item → Type 0
Stops e rest (items.Characters n) = Unit {0}
Stops e rest items.End = (after : List ℕ) × (rest ≡ closing e ++ after)
Stops e rest items.Forbidden = first_passes is_forbidden rest ≡ true
Stops e rest items.Bad = IsBadEscape e rest
Stops e rest items.Open = IsOpen e rest

comment_closing : (c : ℕ) (cs : List ℕ) → ((c == 42) && first_passes (λ d. d == 47) cs) ≡ true → (after : List ℕ) × (c ∷ cs ≡ 42 ∷ 47 ∷ after)
comment_closing c [] h = let no = (and_true (c == 42) false h).1 in cc
comment_closing c (d ∷ cs) h =
    let both = and_true (c == 42) (d == 47) h in
    let first : c ≡ 42 = same_number c 42 both.0 in
    let second : d ≡ 47 = same_number d 47 both.1 in
    (cs, cc)

escape_stops : (cs : List ℕ) (r : Option (Meaning × ℕ)) (i : Item) → escape_at cs ≡ r → escape_item r ≡ i → Stops Quoted (92 ∷ cs) i
escape_stops cs None i e h = subst (Stops Quoted (92 ∷ cs)) h (refl, cs, refl, no_whole_escape cs e)
escape_stops cs (Some x) i e h = subst (Stops Quoted (92 ∷ cs)) h tt

item_stops : (e : Enclosure) (cs : List ℕ) (i : Item) → item_at e cs ≡ i → Stops e cs i
unfolding item_at
item_stops General [] i h = subst (Stops General []) h (inl refl)
item_stops Quoted [] i h = subst (Stops Quoted []) h (inl refl)
item_stops Raw [] i h = subst (Stops Raw []) h (inl refl)
item_stops General (c ∷ cs) i h =
    let S : Item → Type 0 = Stops General (c ∷ cs) in
    elim (chosen (is_forbidden c) items.Forbidden _ i h) [
      | inl a ↦ subst S a.1 a.0
      | inr a ↦ elim (chosen ((c == 42) && first_passes (λ d. d == 47) cs) items.End (items.Characters 1) i a.1) [ inl b ↦ subst S b.1 (comment_closing c cs b.0) | inr b ↦ subst S b.1 tt ]
    ]
item_stops Raw (c ∷ cs) i h =
    let S : Item → Type 0 = Stops Raw (c ∷ cs) in
    elim (chosen (is_forbidden c) items.Forbidden _ i h) [
      | inl a ↦ subst S a.1 a.0
      | inr a ↦ elim (chosen (c == 96) items.End (items.Characters 1) i a.1) [ inl b ↦ subst S b.1 (cs, ap (λ x. x ∷ cs) (same_number c 96 b.0)) | inr b ↦ subst S b.1 tt ]
    ]
item_stops Quoted (c ∷ cs) i h =
    let S : Item → Type 0 = Stops Quoted (c ∷ cs) in
    elim (chosen (is_forbidden c) items.Forbidden _ i h) [
      | inl a ↦ subst S a.1 a.0
      | inr a ↦ elim (chosen (c == 34) items.End _ i a.1) [
        | inl b ↦ subst S b.1 (cs, ap (λ x. x ∷ cs) (same_number c 34 b.0))
        | inr b ↦ elim (chosen (c == 10) items.Open _ i b.1) [
          | inl d ↦ subst S d.1 (inr (refl, d.0))
          | inr d ↦ elim (chosen (c == 92) (escape_item (escape_at cs)) (items.Characters 1) i d.1) [
            | inl f ↦ subst (λ x. Stops Quoted (x ∷ cs) i) (sym (same_number c 92 f.0)) (escape_stops cs (escape_at cs) i refl f.1)
            | inr f ↦ subst S f.1 tt
          ]
        ]
      ]
    ]

-- ---- what is computed is what the grammar says

abbrev IsStop : Item → Type 0
IsStop (items.Characters n) = ⊥
IsStop _ = Unit {0}

-- the items at the front, and what stops them
record Front (e : Enclosure) (cs : List ℕ) : Type 0 where
  inner : List (List ℕ)
  rest : List ℕ
  stop : Item
  split : cs ≡ joined inner ++ rest
  items : AreItems e inner rest
  at : item_at e rest ≡ stop
  stops : IsStop stop

front_here : (e : Enclosure) (n : ℕ) (known : (cs : List ℕ) → length cs ≤ n → Front e cs) (cs : List ℕ) (i : Item) → length cs ≤ suc n → item_at e cs ≡ i → Front e cs
front_here e n known cs (items.Characters k) h a =
    let inside = item_within e cs k a in
    let more = known (drop k cs) (omega (arith, length-drop k cs, inside)) in
    record {
      inner = take k cs ∷ more.inner;
      rest = more.rest;
      stop = more.stop;
      split = sym (take-append-drop k cs) ∙ ap (λ x. take k cs ++ x) more.split ∙ sym (append_assoc (take k cs) (joined more.inner) more.rest);
      items = (subst (IsItem e (take k cs)) more.split (item_part e cs k a), more.items);
      at = more.at;
      stops = more.stops;
    }
front_here e n known cs items.End h a = record { inner = []; rest = cs; stop = items.End; split = refl; items = tt; at = a; stops = tt }
front_here e n known cs items.Forbidden h a = record { inner = []; rest = cs; stop = items.Forbidden; split = refl; items = tt; at = a; stops = tt }
front_here e n known cs items.Bad h a = record { inner = []; rest = cs; stop = items.Bad; split = refl; items = tt; at = a; stops = tt }
front_here e n known cs items.Open h a = record { inner = []; rest = cs; stop = items.Open; split = refl; items = tt; at = a; stops = tt }

empty_item : (e : Enclosure) → item_at e [] ≡ items.Open
unfolding item_at
empty_item General = refl
empty_item Quoted = refl
empty_item Raw = refl

front_read : (e : Enclosure) (n : ℕ) (cs : List ℕ) → length cs ≤ n → Front e cs
front_read e zero [] h = record { inner = []; rest = []; stop = items.Open; split = refl; items = tt; at = empty_item e; stops = tt }
front_read e zero (c ∷ cs) h = absurd (omega arith)
front_read e (suc n) cs h = front_here e n (front_read e n) cs (item_at e cs) h refl

-- what an answer says
abbrev pub Found : Enclosure → List ℕ → Result ℕ (Rule × ℕ) → Type 0
Found e cs (Ok n) = IsEnclosed e (take n cs) × (0 < n) × (n ≤ length cs)
Found e cs (Err x) = IsFlawed e x.0 (take x.1 cs) cs × (x.1 ≤ length cs)

take_front : (w rest : List ℕ) (n : ℕ) → n ≡ length w → take n (w ++ rest) ≡ w
take_front w rest n e = ap (λ m. take m (w ++ rest)) e ∙ whole w rest
  where
    whole : (w rest : List ℕ) → take (length w) (w ++ rest) ≡ w
    whole [] rest = refl
    whole (c ∷ w) rest = ap (λ x. c ∷ x) (whole w rest)

found_stop : (e : Enclosure) (cs : List ℕ) (ws : List (List ℕ)) (rest : List ℕ) (i : Item) → cs ≡ opening e ++ (joined ws ++ rest) → AreItems e ws rest → IsStop i → Stops e rest i → Found e cs (enclosed_at e cs)
found_stop e cs ws rest (items.Characters n) split a s h = absurd s
found_stop e cs ws rest items.End split a s h =
    let w = opening e ++ (joined ws ++ closing e) in
    let n = length (opening e) + (length (joined ws) + length (closing e)) in
    let here : AreItems e ws (closing e ++ h.0) = subst (AreItems e ws) h.1 a in
    let count : n ≡ length w = omega (arith, length-append (opening e) (joined ws ++ closing e), length-append (joined ws) (closing e)) in
    let all : cs ≡ w ++ h.0 = split ∙ ap (λ x. opening e ++ (joined ws ++ x)) h.1 ∙ ap (λ x. opening e ++ x) (sym (append_assoc (joined ws) (closing e) h.0)) ∙ sym (append_assoc (opening e) (joined ws ++ closing e) h.0) in
    let taken : w ≡ take n cs = sym (ap (take n) all ∙ take_front w h.0 n count) in
    let ends : body e rest 0 ≡ Ok (length (closing e)) = ap (λ x. body e x 0) h.1 ∙ closing_ends e h.0 in
    subst (Found e cs) (sym (read_to_end e ws rest cs (Ok (length (closing e))) split a ends))
    ((ws, sym taken, items_shorter e ws (closing e) h.0 (closing_length e) here), omega (arith, closing_length e), omega (arith, ap length all, length-append w h.0))
found_stop e cs ws rest items.Forbidden split a s h =
    let w = opening e ++ joined ws in
    let n = length (opening e) + (length (joined ws) + 0) in
    let count : n ≡ length w = omega (arith, length-append (opening e) (joined ws)) in
    let all : cs ≡ w ++ rest = split ∙ sym (append_assoc (opening e) (joined ws) rest) in
    subst (Found e cs) (sym (read_to_end e ws rest cs (Err (Forbidden 0)) split a (forbidden_ends e rest h)))
    ((ws, rest, split, a, inl (refl, ap (take n) all ∙ take_front w rest n count, h)), omega (arith, ap length all, length-append w rest))
found_stop e cs ws rest items.Bad split a s h =
    subst (Found e cs) (sym (read_to_end e ws rest cs (Err Bad) split a (bad_ends e rest h)))
    ((ws, rest, split, a, inr (inr (refl, refl, h))), omega arith)
found_stop e cs ws rest items.Open split a s h =
    subst (Found e cs) (sym (read_to_end e ws rest cs (Err Open) split a (open_ends e rest h)))
    ((ws, rest, split, a, inr (inl (refl, refl, h))), omega arith)

pub enclosed_sound : (e : Enclosure) (cs inside : List ℕ) → cs ≡ opening e ++ inside → Found e cs (enclosed_at e cs)
enclosed_sound e cs inside split =
    let f = front_read e (length inside) inside (omega arith) in
    found_stop e cs f.inner f.rest f.stop (split ∙ ap (λ x. opening e ++ x) f.split) f.items f.stops (item_stops e f.rest f.stop f.at)
