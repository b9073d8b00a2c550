-- The bytes of a string are what is computed of it.
use Rattle.std.proofs.Common.{◌≡◌, ◌≢◌, ℕ, ◌+◌, ◌-◌, false, ◌==◌, ◌||◌, inl, inr, List, [], ◌∷◌, ◌++◌, length, take, Option, Some, encode_utf8, refl, sym, ap, ◌∙◌, subst, arith}
use Rattle.std.proofs.lemmas.Bool.Decides.{nat_tests}
use Rattle.std.proofs.lemmas.List.{length-append, take-append-le, take_all}
use Rattle.go_denote_core.specs.text_core.Each.{true_or_false}
use Rattle.go_tree_nodes.specs.token_core.declared.escapes.Meaning.{Meaning}
use Rattle.go_tree_nodes.specs.token_core.declared.kind.TokenKind.TheVariants as kinds
use Rattle.go_tree_nodes.specs.token_core.Characters.{is_forbidden}
use Rattle.go_tree_nodes.specs.token_core.Escapes.{escape_at}
use Rattle.go_tree_nodes.specs.token_core.Values.{but_last, escape_or, meaning_at, meaning_bytes, quoted_value, raw_value, string_value_of}
use Rattle.go_tree_nodes.specs.token_core.EscapeLemmas.{escape_longer}
use Rattle.go_scan_core.specs.declared.enclosed.Enclosure.{Enclosure}
use Rattle.go_scan_core.specs.declared.enclosed.Enclosure.TheVariants.{General, Quoted, Raw}
use Rattle.go_scan_core.specs.Enclosed.{closing}
use Rattle.go_scan_core.specs.Tokens.{AreItems, IsEnclosed, IsItem, IsLexeme, is_special, joined}
use Rattle.go_scan_core.proofs.FrontLemmas.{or_false, same_number}
use Rattle.go_spec_laws.specs.front.StringLaws.{AreItemValues, IsEnclosedValue, IsEscapeValue, IsItemValue, IsStringValue, StringValuesAreOne}
use Rattle.go_spec_laws.proofs.FrontEscapeBytes.{escape_has, escape_value_read}

-- ---- each item has bytes

item_has : (e : Enclosure) (w rest : List ℕ) → e ≢ General → IsItem e w rest → (bytes : List ℕ) × IsItemValue e w bytes
item_has General w rest other h = absurd (other refl)
item_has Quoted w rest other h = elim h [
  | inl plain ↦ (encode_utf8 plain.0, inl (plain.0, plain.1, plain.2, refl))
  | inr escaped ↦ (let has = escape_has escaped.0 escaped.2 in (has.0, inr (escaped.0, escaped.1, has.1)))
]
item_has Raw w rest other h = elim (true_or_false (h.0 == 13)) [
  | inl a ↦ ([], inr (h.1 ∙ ap (λ c. c ∷ []) (same_number h.0 13 a), refl))
  | inr a ↦ (encode_utf8 h.0, inl (h.0, h.1, differs h.0 a, refl))
]
  where
    differs : (c : ℕ) → (c == 13) ≡ false → c ≢ 13
    differs c a e = grind (arith, nat_tests)

items_have : (e : Enclosure) (ws : List (List ℕ)) (rest : List ℕ) → e ≢ General → AreItems e ws rest → (bytes : List ℕ) × AreItemValues e ws bytes
items_have e [] rest other a = ([], refl)
items_have e (w ∷ ws) rest other a =
    let first = item_has e w (joined ws ++ rest) other a.0 in
    let others = items_have e ws rest other a.1 in
    (first.0 ++ others.0, (first.0, others.0, first.1, others.1, refl))

-- ---- the bytes of an interpreted string

plain_step : (c : ℕ) (rest : List ℕ) → is_special c ≡ false → quoted_value (c ∷ rest) 0 ≡ encode_utf8 c ++ quoted_value rest 0
unfolding quoted_value meaning_at
plain_step c rest h = let other = or_false (is_forbidden c || (c == 34) || (c == 10)) (c == 92) h in rw other.1 refl

meaning_step : (cs : List ℕ) (m : Meaning) (n : ℕ) → escape_at cs ≡ Some (m, n) → quoted_value (92 ∷ cs) 0 ≡ meaning_bytes m ++ quoted_value cs (n + 1 - 1)
unfolding quoted_value meaning_at
meaning_step cs m n e =
    let f : Option (Meaning × ℕ) → List ℕ = λ r. meaning_bytes (escape_or 92 r).0 ++ quoted_value cs ((escape_or 92 r).1 - 1) in
    ap f e

skipped : (cs rest : List ℕ) → quoted_value (cs ++ rest) (length cs) ≡ quoted_value rest 0
unfolding quoted_value
skipped [] rest = refl
skipped (c ∷ cs) rest = skipped cs rest

escape_step : (e rest bytes : List ℕ) → IsEscapeValue e bytes → quoted_value (92 ∷ (e ++ rest)) 0 ≡ bytes ++ quoted_value rest 0
escape_step e rest bytes h =
    let read = escape_value_read e bytes h in
    let n = length e in
    let skip : n + 1 - 1 ≡ n = omega arith in
    meaning_step (e ++ rest) read.0 n (escape_longer e rest (read.0, n) read.1)
    ∙ ap (λ k. meaning_bytes read.0 ++ quoted_value (e ++ rest) k) skip
    ∙ ap (λ x. meaning_bytes read.0 ++ x) (skipped e rest)
    ∙ ap (λ x. x ++ quoted_value rest 0) read.2

quoted_step : (w rest bytes : List ℕ) → IsItemValue Quoted w bytes → quoted_value (w ++ rest) 0 ≡ bytes ++ quoted_value rest 0
quoted_step w rest bytes h = elim h [
  | inl plain ↦ ap (λ x. quoted_value (x ++ rest) 0) plain.1 ∙ plain_step plain.0 rest plain.2 ∙ ap (λ x. x ++ quoted_value rest 0) (sym plain.3)
  | inr escaped ↦ ap (λ x. quoted_value (x ++ rest) 0) escaped.1 ∙ escape_step escaped.0 rest bytes escaped.2
]

no_quoted : quoted_value [] 0 ≡ []
unfolding quoted_value
no_quoted = refl

quoted_bytes : (ws : List (List ℕ)) (bytes : List ℕ) → AreItemValues Quoted ws bytes → bytes ≡ quoted_value (joined ws) 0
quoted_bytes [] bytes a = a ∙ sym no_quoted
quoted_bytes (w ∷ ws) bytes (first, others, here, more, split) =
    split ∙ ap (λ x. first ++ x) (quoted_bytes ws others more) ∙ sym (quoted_step w (joined ws) first here)

-- ---- the bytes of a raw string

raw_step : (w rest bytes : List ℕ) → IsItemValue Raw w bytes → raw_value (w ++ rest) ≡ bytes ++ raw_value rest
raw_step w rest bytes h = elim h [
  | inl kept ↦ ap (λ x. raw_value (x ++ rest)) kept.1 ∙ keeps kept.0 (unlike kept.0 kept.2) ∙ ap (λ x. x ++ raw_value rest) (sym kept.3)
  | inr dropped ↦ ap (λ x. raw_value (x ++ rest)) dropped.0 ∙ ap (λ x. x ++ raw_value rest) (sym dropped.1)
]
  where
    unlike : (c : ℕ) → c ≢ 13 → (c == 13) ≡ false
    unlike c a = grind (arith, nat_tests)

    keeps : (c : ℕ) → (c == 13) ≡ false → raw_value (c ∷ rest) ≡ encode_utf8 c ++ raw_value rest
    keeps c a = rw a refl

raw_value_of : (ws : List (List ℕ)) (bytes : List ℕ) → AreItemValues Raw ws bytes → bytes ≡ raw_value (joined ws)
raw_value_of [] bytes a = a
raw_value_of (w ∷ ws) bytes (first, others, here, more, split) =
    split ∙ ap (λ x. first ++ x) (raw_value_of ws others more) ∙ sym (raw_step w (joined ws) first here)

-- ---- the bytes of a string

last_left_out : (cs : List ℕ) (mark : ℕ) → but_last (cs ++ mark ∷ []) ≡ cs
last_left_out cs mark =
    let size : length (cs ++ mark ∷ []) - 1 ≡ length cs = omega (arith, length-append cs (mark ∷ [])) in
    ap (λ n. take n (cs ++ mark ∷ [])) size ∙ take-append-le (length cs) cs (mark ∷ []) (omega arith) ∙ take_all (length cs) cs (omega arith)

string_only : (text bytes : List ℕ) → IsStringValue text bytes → bytes ≡ string_value_of text
string_only text bytes h = elim h [
  | inl quoted ↦ quoted_bytes quoted.0 bytes quoted.3 ∙ ap (λ x. quoted_value x 0) (sym (last_left_out (joined quoted.0) 34)) ∙ sym (ap string_value_of quoted.1)
  | inr raw ↦ raw_value_of raw.0 bytes raw.3 ∙ ap raw_value (sym (last_left_out (joined raw.0) 96)) ∙ sym (ap string_value_of raw.1)
]

enclosed_has : (e : Enclosure) (text : List ℕ) → e ≢ General → IsEnclosed e text → (bytes : List ℕ) × IsEnclosedValue e text bytes
enclosed_has e text other h = let has = items_have e h.0 (closing e) other h.2 in (has.0, (h.0, h.1, h.2, has.1))

string_has : (text : List ℕ) → IsLexeme kinds.String text → (bytes : List ℕ) × IsStringValue text bytes
string_has text h = elim h [
  | inl quoted ↦ (let has = enclosed_has Quoted text (λ e. cc) quoted in (has.0, inl has.1))
  | inr raw ↦ (let has = enclosed_has Raw text (λ e. cc) raw in (has.0, inr has.1))
]

pub string_values_are_one : StringValuesAreOne
string_values_are_one = record {
  each = λ text h. (let has = string_has text h in subst (λ bytes. IsStringValue text bytes) (string_only text has.0 has.1) has.1);
  only = string_only;
}
