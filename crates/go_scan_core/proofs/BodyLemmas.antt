-- Steps of reading what stands between an opening and a closing.
use Rattle.std.proofs.Common.{◌≡◌, ℕ, zero, suc, ◌+◌, ◌-◌, ◌<◌, ◌≤◌, true, ◌==◌, ◌&&◌, inl, inr, List, [], ◌∷◌, length, drop, Option, Some, None, Result, Ok, Err, refl, sym, ap, ◌∙◌, arith}
use Rattle.go_scan_core.specs.declared.enclosed.Enclosure.{Enclosure}
use Rattle.go_scan_core.specs.declared.enclosed.Enclosure.TheVariants.{General, Quoted, Raw}
use Rattle.go_scan_core.specs.declared.enclosed.Flaw.{Flaw}
use Rattle.go_scan_core.specs.declared.enclosed.Flaw.TheVariants.{Forbidden, Bad, Open}
use Rattle.go_scan_core.specs.declared.enclosed.Item.{Item}
use Rattle.go_scan_core.specs.declared.enclosed.Item.TheVariants as items
use Rattle.go_token_core.specs.declared.escapes.Meaning.{Meaning}
use Rattle.go_token_core.specs.Characters.{first_passes, is_forbidden}
use Rattle.go_scan_core.specs.Enclosed.{closing}
use Rattle.go_scan_core.specs.mirrors.Enclosed.{behind, body, body_next, escape_item, item_at, one_more}
use Rattle.go_token_core.specs.Escapes.{escape_at}
use Rattle.go_token_core.proofs.Choices.{chosen}
use Rattle.go_scan_core.proofs.FrontLemmas.{and_true}
use Rattle.go_token_core.proofs.EscapeLemmas.{escape_within}

abbrev pub Fits : ℕ → List ℕ → Type 0
Fits n cs = (0 < n) × (n ≤ length cs)

escape_item_within : (cs : List ℕ) (r : Option (Meaning × ℕ)) (n : ℕ) → escape_at cs ≡ r → escape_item r ≡ items.Characters n → (0 < n) × (n ≤ suc (length cs))
escape_item_within cs None n e h = cc
escape_item_within cs (Some x) n e h = let more : x.1 + 1 ≡ n = cc in let inside = escape_within cs x e in (omega arith, omega arith)

one_fits : (c : ℕ) (cs : List ℕ) (n : ℕ) → 1 ≡ n → Fits n (c ∷ cs)
one_fits c cs n e = (omega arith, omega arith)

pub item_within : (e : Enclosure) (cs : List ℕ) (n : ℕ) → item_at e cs ≡ items.Characters n → Fits n cs
unfolding item_at
item_within General [] n h = cc
item_within Quoted [] n h = cc
item_within Raw [] n h = cc
item_within General (c ∷ cs) n h =
    elim (chosen (is_forbidden c) items.Forbidden _ (items.Characters n) h) [
      | inl a ↦ cc
      | inr a ↦ elim (chosen ((c == 42) && first_passes (λ d. d == 47) cs) items.End (items.Characters 1) (items.Characters n) a.1) [ inl b ↦ cc | inr b ↦ one_fits c cs n (cc) ]
    ]
item_within Raw (c ∷ cs) n h =
    elim (chosen (is_forbidden c) items.Forbidden _ (items.Characters n) h) [
      | inl a ↦ cc
      | inr a ↦ elim (chosen (c == 96) items.End (items.Characters 1) (items.Characters n) a.1) [ inl b ↦ cc | inr b ↦ one_fits c cs n (cc) ]
    ]
item_within Quoted (c ∷ cs) n h =
    elim (chosen (is_forbidden c) items.Forbidden _ (items.Characters n) h) [
      | inl a ↦ cc
      | inr a ↦ elim (chosen (c == 34) items.End _ (items.Characters n) a.1) [
        | inl b ↦ cc
        | inr b ↦ elim (chosen (c == 10) items.Open _ (items.Characters n) b.1) [
          | inl d ↦ cc
          | inr d ↦ elim (chosen (c == 92) (escape_item (escape_at cs)) (items.Characters 1) (items.Characters n) d.1) [
            | inl f ↦ escape_item_within cs (escape_at cs) n refl f.1
            | inr f ↦ one_fits c cs n (cc)
          ]
        ]
      ]
    ]

-- the closing stands where its item does
escape_no_end : (r : Option (Meaning × ℕ)) → escape_item r ≡ items.End → ⊥
escape_no_end None h = cc
escape_no_end (Some x) h = cc

pub end_within : (e : Enclosure) (cs : List ℕ) → item_at e cs ≡ items.End → length (closing e) ≤ length cs
unfolding item_at
end_within General [] h = cc
end_within Quoted [] h = cc
end_within Raw [] h = cc
end_within Raw (c ∷ cs) h = omega arith
end_within Quoted (c ∷ cs) h = omega arith
end_within General (c ∷ cs) h =
    elim (chosen (is_forbidden c) items.Forbidden _ items.End h) [
      | inl a ↦ cc
      | inr a ↦ elim (chosen ((c == 42) && first_passes (λ d. d == 47) cs) items.End (items.Characters 1) items.End a.1) [ inl b ↦ more cs (and_true _ _ b.0).1 | inr b ↦ cc ]
    ]
  where
    more : (cs : List ℕ) → first_passes (λ d. d == 47) cs ≡ true → 2 ≤ suc (length cs)
    more [] h = cc
    more (d ∷ cs) h = omega arith

pub behind-behind : (j k : ℕ) (r : Result ℕ Flaw) → behind j (behind k r) ≡ behind (j + k) r
behind-behind j k (Ok n) = ap Ok (omega arith)
behind-behind j k (Err (Forbidden n)) = ap (λ m. Err (Forbidden m)) (omega arith)
behind-behind j k (Err Bad) = refl
behind-behind j k (Err Open) = refl

pub behind-zero : (r : Result ℕ Flaw) → behind 0 r ≡ r
behind-zero (Ok n) = ap Ok (omega arith)
behind-zero (Err (Forbidden n)) = ap (λ m. Err (Forbidden m)) (omega arith)
behind-zero (Err Bad) = refl
behind-zero (Err Open) = refl

one_more-behind : (k : ℕ) (r : Result ℕ Flaw) → one_more (behind k r) ≡ behind (suc k) r
one_more-behind k (Ok n) = ap Ok (omega arith)
one_more-behind k (Err (Forbidden n)) = ap (λ m. Err (Forbidden m)) (omega arith)
one_more-behind k (Err Bad) = refl
one_more-behind k (Err Open) = refl

body-skip : (e : Enclosure) (cs : List ℕ) (k : ℕ) → k ≤ length cs → body e cs k ≡ behind k (body e (drop k cs) 0)
unfolding body
body-skip e cs zero h = sym (behind-zero (body e cs 0))
body-skip e [] (suc k) h = absurd (omega arith)
body-skip e (c ∷ cs) (suc k) h = ap one_more (body-skip e cs k (omega arith)) ∙ one_more-behind k (body e (drop k cs) 0)

pub body_step : (e : Enclosure) (cs : List ℕ) (n : ℕ) → item_at e cs ≡ items.Characters n → body e cs 0 ≡ behind n (body e (drop n cs) 0)
body_step e [] n h = absurd (let i = item_within e [] n h in omega arith)
body_step e (c ∷ cs) zero h = absurd (let i = item_within e (c ∷ cs) zero h in omega arith)
body_step e (c ∷ cs) (suc n) h = unfold body in
    let inside = (item_within e (c ∷ cs) (suc n) h).1 in
    let skip : suc n - 1 ≡ n = omega arith in
    ap (λ i. body_next e i (λ m. body e cs m)) h ∙ ap (λ m. one_more (body e cs m)) skip ∙ ap one_more (body-skip e cs n (omega arith)) ∙ one_more-behind n (body e (drop n cs) 0)

pub body_end : (e : Enclosure) (cs : List ℕ) (i : Item) → 0 < length cs → item_at e cs ≡ i → body e cs 0 ≡ body_next e i (λ m. body e (drop 1 cs) m)
body_end e [] i some h = absurd (omega arith)
body_end e (c ∷ cs) i some h = unfold body in ap (λ j. body_next e j (λ m. body e cs m)) h

pub body_none : (e : Enclosure) (cs : List ℕ) → length cs ≡ 0 → body e cs 0 ≡ Err Open
body_none e [] h = unfold body in refl
body_none e (c ∷ cs) h = absurd (omega arith)
