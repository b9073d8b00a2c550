-- Identifiers: a name, with the path of its package unless it is exported.
use Rattle.std.proofs.Common.{◌≡◌, ℕ, true, false, ◌&&◌, List, [], Less, IsTrue, refl, sym, ap, ◌∙◌, ◌⊎◌, inl, inr, if◌then◌else◌}
use Rattle.std.specs.declared.cmp.Ordering.{Ordering}
use Rattle.std.specs.declared.cmp.Ordering.TheVariants.{Equal, Greater}
use Rattle.std.specs.Ordering.{nat_cmp, is_eq, ordering_then, ordering_reverse}
use Rattle.std.specs.Cmp.Lexicographic.{slice_cmp, texts_ties, nat_list_cmp_total}
use Rattle.std.specs.Str.{bytes_eq, chars}
use Rattle.std.proofs.lemmas.Bool.{and_parts, and_from}
use Rattle.std.proofs.lemmas.Slice.Eq.{bytes_eq-Decides}
use Rattle.go_path_core.specs.text_core.Text.{exported, SameId}
use Rattle.go_path_core.specs.text_core.Each.{true_or_false}
use Rattle.go_select_core.specs.Selections.{IsIdBefore}
use Rattle.go_select_core.specs.mirrors.Names.{Identifier, identifier_of, Key, key_shown, key_cmp, same_identifier}
use Rattle.go_select_core.proofs.LevelsListLemmas.{true_false}

pub identifiers_same : (a b : Identifier) → same_identifier a b ≡ true → a ≡ b
identifiers_same a b h =
    let p = and_parts (bytes_eq a.0 b.0) (bytes_eq a.1 b.1) h in
    let x = (bytes_eq-Decides a.0 b.0).0 p.0 in
    let y = (bytes_eq-Decides a.1 b.1).0 p.1 in
    λ i. (x i, y i)

pub same_identifiers : (a b : Identifier) → a ≡ b → same_identifier a b ≡ true
same_identifiers a b h = and_from (bytes_eq a.0 b.0) (bytes_eq a.1 b.1) ((bytes_eq-Decides a.0 b.0).1 (ap (λ (q : Identifier). q.0) h)) ((bytes_eq-Decides a.1 b.1).1 (ap (λ (q : Identifier). q.1) h))

pub same_swap : (a b : Identifier) → same_identifier a b ≡ same_identifier b a
same_swap a b = by (true_or_false (same_identifier a b)) (true_or_false (same_identifier b a))
  where
    by : (same_identifier a b ≡ true) ⊎ (same_identifier a b ≡ false) → (same_identifier b a ≡ true) ⊎ (same_identifier b a ≡ false) → same_identifier a b ≡ same_identifier b a
    by (inl h) (inl g) = h ∙ sym g
    by (inr h) (inr g) = h ∙ sym g
    by (inl h) (inr g) = true_false (same_identifier b a) (same_identifiers b a (sym (identifiers_same a b h))) g
    by (inr h) (inl g) = true_false (same_identifier a b) (same_identifiers a b (sym (identifiers_same b a g))) h

-- equal identifiers are the same by the language's rule, and the other way round
pub identifier_same : (a p b q : List ℕ) → identifier_of a p ≡ identifier_of b q → SameId a p b q
identifier_same a p b q h = (name, by (true_or_false (exported (chars a))))
  where
    name : a ≡ b
    name = ap (λ (i : Identifier). i.0) h

    by : (exported (chars a) ≡ true) ⊎ (exported (chars a) ≡ false) → IsTrue (exported (chars a)) ⊎ (p ≡ q)
    by (inl e) = inl e
    by (inr e) =
        inr (sym (ap (λ c. if c then [] else p) e) ∙ (ap (λ (i : Identifier). i.1) h ∙ ap (λ c. if c then [] else q) (sym (ap (λ n. exported (chars n)) name) ∙ e)))

pub same_identifier_of : (a p b q : List ℕ) → SameId a p b q → identifier_of a p ≡ identifier_of b q
same_identifier_of a p b q h = λ i. (h.0 i, home h.1 i)
  where
    home : IsTrue (exported (chars a)) ⊎ (p ≡ q) → (if exported (chars a) then [] else p) ≡ (if exported (chars b) then [] else q)
    home (inl e) = ap (λ c. if c then [] else p) e ∙ sym (ap (λ c. if c then [] else q) (sym (ap (λ n. exported (chars n)) h.0) ∙ e))
    home (inr e) = ap (λ n. if exported (chars n) then [] else p) h.0 ∙ ap (λ r. if exported (chars b) then [] else r) e

-- the order of identifiers

then_ties : (o r : Ordering) → is_eq (ordering_then o r) ≡ is_eq o && is_eq r
then_ties Less r = refl
then_ties Equal r = refl
then_ties Greater r = refl

pub keys_tie : (a b : Key) → same_identifier (key_shown a) (key_shown b) ≡ is_eq (key_cmp a b)
keys_tie a b =
    ap (λ c. c && bytes_eq a.1.now b.1.now) (texts_ties a.0.now b.0.now)
    ∙ (ap (λ c. is_eq (slice_cmp nat_cmp a.0.now b.0.now) && c) (texts_ties a.1.now b.1.now) ∙ sym (then_ties (slice_cmp nat_cmp a.0.now b.0.now) (slice_cmp nat_cmp a.1.now b.1.now)))

-- keys whose order is not equal are apart
pub keys_apart : (a b : Key) (o : Ordering) → key_cmp a b ≡ o → is_eq o ≡ false → same_identifier (key_shown a) (key_shown b) ≡ false
keys_apart a b o e off = keys_tie a b ∙ (ap is_eq e ∙ off)

pub never_below : (a : List ℕ) → slice_cmp nat_cmp a a ≡ Less → ⊥
never_below a h = true_false (bytes_eq a a) ((bytes_eq-Decides a a).1 refl) (texts_ties a a ∙ ap is_eq h)

-- a key that comes before another
pub key_before : (k l : Key) (a p b q : List ℕ) → key_shown k ≡ identifier_of a p → key_shown l ≡ identifier_of b q → key_cmp k l ≡ Less → IsIdBefore a p b q
key_before k l a p b q hk hl less = by (slice_cmp nat_cmp a b) refl
  where
    rest : Ordering
    rest = slice_cmp nat_cmp (if exported (chars a) then [] else p) (if exported (chars b) then [] else q)

    shown : ordering_then (slice_cmp nat_cmp a b) rest ≡ Less
    shown = sym ((λ i. ordering_then (slice_cmp nat_cmp (hk i).0 (hl i).0) (slice_cmp nat_cmp (hk i).1 (hl i).1))) ∙ less

    by : (o : Ordering) → slice_cmp nat_cmp a b ≡ o → IsIdBefore a p b q
    by Less e = inl e
    by Equal e =
        let same : a ≡ b = (bytes_eq-Decides a b).0 (texts_ties a b ∙ ap is_eq e) in
        let r : rest ≡ Less = sym (ap (λ c. ordering_then c rest) e) ∙ shown in
        inr (of same r (true_or_false (exported (chars a))))
      where
        of : a ≡ b → rest ≡ Less → (exported (chars a) ≡ true) ⊎ (exported (chars a) ≡ false) → (a ≡ b) × (exported (chars a) ≡ false) × (slice_cmp nat_cmp p q ≡ Less)
        of same r (inl x) =
            let y : exported (chars b) ≡ true = sym (ap (λ n. exported (chars n)) same) ∙ x in
            let z : slice_cmp nat_cmp [] [] ≡ Less = sym (λ i. slice_cmp nat_cmp (if x i then [] else p) (if y i then [] else q)) ∙ r in
            absurd (never_below [] z)
        of same r (inr x) =
            let y : exported (chars b) ≡ false = sym (ap (λ n. exported (chars n)) same) ∙ x in
            (same, x, sym (λ i. slice_cmp nat_cmp (if x i then [] else p) (if y i then [] else q)) ∙ r)
    by Greater e = let z : Greater ≡ Less = sym (ap (λ c. ordering_then c rest) e) ∙ shown in (cc)

-- of two that are visible in one package the first has the lower name
pub names_below : (a p b q from : List ℕ) → IsIdBefore a p b q → SameId a p a from → SameId b q b from → slice_cmp nat_cmp a b ≡ Less
names_below a p b q from (inl h) seen other = h
names_below a p b q from (inr h) seen other =
    elim seen.1 [
      | inl e ↦ true_false (exported (chars a)) e h.1
      | inr e ↦ elim other.1 [
        | inl f ↦ true_false (exported (chars a)) (ap (λ n. exported (chars n)) h.0 ∙ f) h.1
        | inr f ↦ absurd (never_below p (ap (slice_cmp nat_cmp p) (e ∙ sym f) ∙ h.2))
      ]
    ]

-- an order that is strict both ways is none
pub never_both : (a b : List ℕ) → slice_cmp nat_cmp a b ≡ Less → slice_cmp nat_cmp b a ≡ Less → ⊥
never_both a b h g = let z : Less ≡ Greater = sym h ∙ (nat_list_cmp_total.antisymm a b ∙ ap ordering_reverse g) in (cc)
