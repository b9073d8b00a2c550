-- Identifiers and names.
use Rattle.std.proofs.Common.{◌≡◌, ℕ, Bool, true, false, ◌||◌, List, IsTrue, ◌↔◌, inl, inr, refl, sym}
use Rattle.std.specs.Str.{bytes_eq, chars}
use Rattle.std.proofs.lemmas.Bool.{and_parts, and_from, or_cases, or_left, or_right}
use Rattle.std.proofs.lemmas.Slice.Eq.{bytes_eq-Decides}
use Rattle.go_collections_core.specs.text_core.Text.{exported, SameId}
use Rattle.go_type_core.specs.table_core.Entries.{same_id}

pub same_id_is : (a p b q : List ℕ) → same_id a p b q ≡ true → SameId a p b q
same_id_is a p b q h =
    let both = and_parts (bytes_eq a b) (exported (chars a) || bytes_eq p q) h in
    ((bytes_eq-Decides a b).0 both.0, elim (or_cases (exported (chars a)) (bytes_eq p q) both.1) [ inl e ↦ inl e | inr e ↦ inr ((bytes_eq-Decides p q).0 e) ])

pub same_id_from : (a p b q : List ℕ) → SameId a p b q → same_id a p b q ≡ true
same_id_from a p b q h =
    and_from (bytes_eq a b) (exported (chars a) || bytes_eq p q) ((bytes_eq-Decides a b).1 h.0)
    (elim h.1 [ inl e ↦ or_left (exported (chars a)) (bytes_eq p q) e | inr e ↦ or_right (exported (chars a)) (bytes_eq p q) ((bytes_eq-Decides p q).1 e) ])

-- two tests of one fact
pub one_test : (r b : Bool) (P : Type 0) → (IsTrue r ↔ P) → (b ≡ true → P) → (P → b ≡ true) → r ≡ b
one_test true b P h to from = sym (from (h.0 refl))
one_test false true P h to from = h.1 (to refl)
one_test false false P h to from = refl

pub same_id_test : (a p b q : List ℕ) (r : Bool) → (IsTrue r ↔ SameId a p b q) → r ≡ same_id a p b q
same_id_test a p b q r h = one_test r (same_id a p b q) (SameId a p b q) h (same_id_is a p b q) (same_id_from a p b q)
