-- The name of a refused import is what stands behind the last `/`, where that may be a name.
use Rattle.std.proofs.Common.{◌≡◌, ◌≢◌, ℕ, zero, suc, ◌+◌, ◌-◌, ◌<◌, ◌≤◌, Bool, true, false, not, ◌==◌, ◌&&◌, cond, inl, inr, List, [], ◌∷◌, ◌++◌, length, get_or, take, drop, All, Option, Some, None, append_assoc, refl, sym, ap, ◌∙◌, subst, arith}
use Rattle.std.specs.Prelude.{IsUtf8, chars}
use Rattle.std.specs.Str.{is_utf8}
use Rattle.std.specs.Str.Lossy.{utf8_valid_len, valid_len_up_to}
use Rattle.std.proofs.lemmas.Bool.Decides.{nat_tests}
use Rattle.std.proofs.lemmas.List.{drop_at, get_or-append_right, get_or_at, length-append, length-drop, nil_from_length, take_all}
use Rattle.std.proofs.lemmas.List.Elements.{All-cons, All-nil, All-get_or}
use Rattle.std.proofs.lemmas.Slice.Eq.{bytes_eq-Decides}
use Rattle.std.proofs.lemmas.Str.{IsUtf8-from_is_utf8, IsUtf8-nil}
use Rattle.go_denote_core.specs.text_core.Text.{is_blank}
use Rattle.go_denote_core.specs.text_core.Each.{true_or_false}
use Rattle.go_tree_nodes.specs.token_core.Choices.{chosen}
use Rattle.go_scan_core.proofs.FrontLemmas.{and_true, not_true, same_number}
use Rattle.go_block_core.specs.graph_core.Packages.{blank}
use Rattle.go_block_core.specs.Words.{as_text, identifier, if_name, is_nonblank_identifier, last_element, last_name}
use Rattle.go_block_core.proofs.WordLemmas.{NoneFrom, element_is, other, text_yes}
use Rattle.go_spec_laws.specs.front.ImportLaws.{IsLastElement, IsRefusedName, IsUsableName}
use Rattle.go_spec_laws.proofs.FrontWordTests.{identifiers_are_words}

-- ---- the last element

-- what stands from a place on is the last element, where no slash is in it and the text begins there, or a slash stands before
from_place : (text element : List ℕ) (n : ℕ) → n ≤ length text → drop n text ≡ element → NoneFrom text n → (0 < n → get_or text (n - 1) 0 ≡ 47) → last_element text ≡ element
from_place text element n le rest none stop =
    sym (element_is text n le none stop) ∙ (take_all (length text - n) (drop n text) (omega (arith, length-drop n text)) ∙ rest)

-- no slash is in what stands behind the front
none_behind : (front element : List ℕ) → All (λ b. b ≢ 47) element → NoneFrom (front ++ element) (length front)
none_behind front element without k low high =
    let size : length (front ++ element) ≡ length front + length element = length-append front element in
    let here : get_or (front ++ element) k 0 ≡ get_or element (k - length front) 0 = get_or-append_right front element (length front) k 0 refl low in
    other (get_or (front ++ element) k 0) (λ slash. All-get_or (λ b. b ≢ 47) element (k - length front) 0 (omega arith) without (sym here ∙ slash))

element_only : (text element : List ℕ) → IsLastElement text element → last_element text ≡ element
element_only text element h = elim h.stands [
  | inl whole ↦ ap last_element whole ∙ from_place element element 0 (omega arith) refl (none_behind [] element h.without) (λ some. absurd (omega arith))
  | inr behind ↦ ap last_element behind.1 ∙ after_slash behind.0 element h.without
]
  where
    after_slash : (front element : List ℕ) → All (λ b. b ≢ 47) element → last_element (front ++ 47 ∷ element) ≡ element
    after_slash front element without =
        let joined : front ++ 47 ∷ element ≡ (front ++ 47 ∷ []) ++ element = sym (append_assoc front (47 ∷ []) element) in
        let before = front ++ 47 ∷ [] in
        let size : length before ≡ length front + 1 = length-append front (47 ∷ []) in
        let total : length (before ++ element) ≡ length before + length element = length-append before element in
        let slash : get_or (before ++ element) (length before - 1) 0 ≡ 47 = (
        let place : length front ≡ length before - 1 = omega arith in
        ap (λ l. get_or l (length before - 1) 0) (sym joined) ∙ get_or_at front 47 element 0 (length before - 1) place) in
        ap last_element joined
        ∙ from_place (before ++ element) element (length before) (omega arith) (drop_at before element (length before) refl) (none_behind before element without) (λ some. slash)

-- a text with one character more before it
one_more : (c : ℕ) (text element : List ℕ) → IsLastElement text element → (e : List ℕ) × IsLastElement (c ∷ text) e
one_more c text element h = elim h.stands [
  | inl whole ↦ elim (true_or_false (c == 47)) [
    | inl slash ↦ (element, record { without = h.without; stands = inr ([], ap (λ x. x ∷ text) (same_number c 47 slash) ∙ ap (λ x. 47 ∷ x) whole) })
    | inr plain ↦ (c ∷ element, record { without = All-cons (λ b. b ≢ 47) c element (unlike c plain) h.without; stands = inl (ap (λ x. c ∷ x) whole) })
  ]
  | inr behind ↦ (element, record { without = h.without; stands = inr (c ∷ behind.0, ap (λ x. c ∷ x) behind.1) })
]
  where
    unlike : (c : ℕ) → (c == 47) ≡ false → c ≢ 47
    unlike c a e = grind (arith, nat_tests)

some_element : (text : List ℕ) → (e : List ℕ) × IsLastElement text e
some_element [] = ([], record { without = All-nil (λ b. b ≢ 47); stands = inl refl })
some_element (c ∷ text) = let rest = some_element text in one_more c text rest.0 rest.1

element_stands : (text : List ℕ) → IsLastElement text (last_element text)
element_stands text = let some = some_element text in subst (IsLastElement text) (sym (element_only text some.0 some.1)) some.1

-- ---- bytes as a text

at_most : (b : Bool) (x y m : ℕ) → x ≤ m → y ≤ m → cond b x y ≤ m
at_most true x y m h k = h
at_most false x y m h k = k

up_to_at_most : (bytes : List ℕ) (n : ℕ) → valid_len_up_to bytes n ≤ n
up_to_at_most bytes zero = omega arith
up_to_at_most bytes (suc n) = let below = up_to_at_most bytes n in at_most (is_utf8 (take (suc n) bytes)) (suc n) (valid_len_up_to bytes n) (suc n) (omega arith) (omega arith)

all_valid : (bytes : List ℕ) (n : ℕ) → length bytes ≡ n → valid_len_up_to bytes n ≡ n → IsUtf8 bytes
all_valid bytes zero size h = subst IsUtf8 (sym (nil_from_length bytes size)) IsUtf8-nil
all_valid bytes (suc n) size h = elim (chosen (is_utf8 (take (suc n) bytes)) (suc n) (valid_len_up_to bytes n) (suc n) h) [
  | inl a ↦ subst IsUtf8 (take_all (suc n) bytes (omega arith)) (IsUtf8-from_is_utf8 (take (suc n) bytes) a.0)
  | inr a ↦ absurd (omega (arith, up_to_at_most bytes n, a.1))
]

valid_text : (bytes : List ℕ) → (utf8_valid_len bytes == length bytes) ≡ true → IsUtf8 bytes
unfolding utf8_valid_len
valid_text bytes h = all_valid bytes (length bytes) refl (same_number (valid_len_up_to bytes (length bytes)) (length bytes) h)

text_is : (bytes text : List ℕ) → as_text bytes ≡ Some text → (bytes ≡ text) × IsUtf8 bytes
text_is bytes text h = elim (chosen (utf8_valid_len bytes == length bytes) (Some bytes) None (Some text) h) [
  | inl a ↦ (let same : bytes ≡ text = cc in (same, valid_text bytes a.0))
  | inr a ↦ cc
]

-- ---- names

pub not_blank : (name : List ℕ) → is_blank name ≡ false → name ≢ blank
not_blank name h same = let no : true ≡ false = sym (ap is_blank same) ∙ h in cc

pub blank_not : (name : List ℕ) → name ≢ blank → is_blank name ≡ false
blank_not name h = elim (true_or_false (is_blank name)) [ inl a ↦ absurd (h ((bytes_eq-Decides name blank).0 a)) | inr a ↦ a ]

usable_is : (name : List ℕ) → IsUtf8 name → is_nonblank_identifier name ≡ true → IsUsableName name
usable_is name utf8 h =
    let both = and_true (not (is_blank name)) (identifier (chars name)) h in
    record { text = utf8; identifier = (identifiers_are_words.identifiers (chars name)).0 both.1; other = not_blank name (not_true (is_blank name) both.0) }

is_usable : (name : List ℕ) → IsUsableName name → is_nonblank_identifier name ≡ true
is_usable name h =
    let word : identifier (chars name) ≡ true = (identifiers_are_words.identifiers (chars name)).1 h.identifier in
    join (is_blank name) (identifier (chars name)) (blank_not name h.other) word
  where
    join : (a b : Bool) → a ≡ false → b ≡ true → (not a && b) ≡ true
    join a b f g = rw (f, g) refl

named_is : (o : Option (List ℕ)) (name : List ℕ) → if_name o ≡ Some name → (o ≡ Some name) × (is_nonblank_identifier name ≡ true)
named_is None name h = cc
named_is (Some text) name h = elim (chosen (is_nonblank_identifier text) (Some text) None (Some name) h) [
  | inl a ↦ (let same : text ≡ name = cc in (a.1, subst (λ x. is_nonblank_identifier x ≡ true) same a.0))
  | inr a ↦ cc
]

-- the last name is that of a refused import
pub refused_is : (text name : List ℕ) → last_name text ≡ Some name → IsRefusedName text name
refused_is text name h =
    let named = named_is (as_text (last_element text)) name h in
    let whole = text_is (last_element text) name named.0 in
    (subst (IsLastElement text) whole.0 (element_stands text), usable_is name (subst IsUtf8 whole.0 whole.1) named.1)

pub is_refused : (text name : List ℕ) → IsRefusedName text name → last_name text ≡ Some name
is_refused text name h =
    ap (λ e. if_name (as_text e)) (element_only text name h.0)
    ∙ ap if_name (text_yes name h.1.text)
    ∙ ap (λ b. cond b (Some name) None) (is_usable name h.1)
