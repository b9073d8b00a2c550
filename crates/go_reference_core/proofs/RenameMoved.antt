-- Where offsets and declarations come to lie.
use Rattle.std.proofs.Common.{◌≡◌, ◌↔◌, ◌+◌, ◌-◌, ◌*◌, ◌<◌, ◌≤◌, ◌^◌, ◌∙◌, ℕ, Bool, true, false, List, sym, ap, subst, arith}
use Rattle.std.specs.Prelude.{IsTrue}
use Rattle.std.proofs.Math.Nat.{mul-add}
use Rattle.std.proofs.lemmas.Bool.{true≢false}
use Rattle.go_term_core.specs.declared.term.LocalPlace.{LocalPlace}
use Rattle.go_graph_core.specs.Imports.{IsNumbered}
use Rattle.go_graph_core.proofs.Numbers.{has_one_number}
use Rattle.go_graph_core.specs.Sources.{SourceModel}
use Rattle.go_graph_core.specs.Workspaces.{IsWorkspace, PackageModel}
use Rattle.go_reference_core.specs.rename.Moving.{IsMovedLocal, Lies, Moves, names_before}

-- ---- tests

pub never : (A : Type 0) → (A → ⊥) → IsTrue false ↔ A
never A none = (λ (on : IsTrue false). absurd (true≢false (sym on)), λ (a : A). absurd (none a))

pub through : (b : Bool) (A B : Type 0) → IsTrue b ↔ A → A ↔ B → IsTrue b ↔ B
through b A B test same = (λ (on : IsTrue b). same.0 (test.0 on), λ (h : B). test.1 (same.1 h))

pub off : (b : Bool) (A : Type 0) → IsTrue b ↔ A → b ≡ false → A → ⊥
off b A test is a = true≢false (sym (test.1 a) ∙ is)

pub both : (a b : Bool) (A B : Type 0) → IsTrue a ↔ A → IsTrue b ↔ B → a ≡ true → IsTrue b ↔ (A × B)
both a b A B first second on = (λ (met : IsTrue b). (first.0 on, second.0 met), λ (h : A × B). second.1 h.1)

-- ---- offsets

-- names that become longer, and shorter
pub longer : (c o n a b : ℕ) → o ≤ n → (b ≡ a + c * (n - o)) ↔ (b + c * o ≡ a + c * n)
longer c o n a b le =
    let e : n ≡ o + (n - o) = omega arith in
    let parts : c * n ≡ c * o + c * (n - o) = ap (λ (k : ℕ). c * k) e ∙ mul-add c o (n - o) in
    (λ h. omega (arith, h, parts), λ h. omega (arith, h, parts))

pub shorter : (c o n a b : ℕ) → n ≤ o → (a ≡ b + c * (o - n)) ↔ (b + c * o ≡ a + c * n)
shorter c o n a b le =
    let e : o ≡ n + (o - n) = omega arith in
    let parts : c * o ≡ c * n + c * (o - n) = ap (λ (k : ℕ). c * k) e ∙ mul-add c n (o - n) in
    (λ h. omega (arith, h, parts), λ h. omega (arith, h, parts))

-- the test of an offset, by how often names stand before it
pub lies_longer : (m : Moves) (number file a b count : ℕ) (r : Bool) → count ≡ names_before m number file a → m.old ≤ m.new → IsTrue r ↔ (b ≡ a + count * (m.new - m.old)) → IsTrue r ↔ Lies m number file a b
lies_longer m number file a b count r is le test =
    let same = longer (names_before m number file a) m.old m.new a b le in
    through r (b ≡ a + names_before m number file a * (m.new - m.old)) (Lies m number file a b) (subst (λ (k : ℕ). IsTrue r ↔ (b ≡ a + k * (m.new - m.old))) is test) same

pub lies_shorter : (m : Moves) (number file a b count : ℕ) (r : Bool) → count ≡ names_before m number file a → m.new ≤ m.old → IsTrue r ↔ (a ≡ b + count * (m.old - m.new)) → IsTrue r ↔ Lies m number file a b
lies_shorter m number file a b count r is le test =
    let same = shorter (names_before m number file a) m.old m.new a b le in
    through r (a ≡ b + names_before m number file a * (m.old - m.new)) (Lies m number file a b) (subst (λ (k : ℕ). IsTrue r ↔ (a ≡ b + k * (m.old - m.new))) is test) same

-- what is too great is no offset
pub beyond : (other most : ℕ) → other < 2 ^ 64 → 2 ^ 64 ≤ most → IsTrue false ↔ (other ≡ most)
beyond other most fits big = never (other ≡ most) (λ e. absurd (omega (arith, fits, big, e)))

-- ---- locals

module _ (m : Moves) (ps : List PackageModel) (well : IsWorkspace ps) (path : List ℕ) (a b : LocalPlace) where
  pub local_found : (number : ℕ) (files : List SourceModel) (r : Bool) → b.file ≡ a.file → IsNumbered ps path number files → IsTrue r ↔ Lies m number a.file a.offset b.offset → IsTrue r ↔ IsMovedLocal m ps path a b
  local_found number files r same at test = (
    λ (on : IsTrue r). record { file = same; number = number; files = files; numbered = at; lies = test.0 on },
    λ (h : IsMovedLocal m ps path a b). test.1 (subst (λ (n : ℕ). Lies m n a.file a.offset b.offset) (has_one_number ps path h.number number h.files files well h.numbered at) h.lies),
  )

  pub local_nowhere : ((number : ℕ) (files : List SourceModel) → ¬ IsNumbered ps path number files) → IsTrue false ↔ IsMovedLocal m ps path a b
  local_nowhere none = never (IsMovedLocal m ps path a b) (λ h. none h.number h.files h.numbered)

  pub local_elsewhere : (b.file ≡ a.file → ⊥) → IsTrue false ↔ IsMovedLocal m ps path a b
  local_elsewhere other = never (IsMovedLocal m ps path a b) (λ h. other h.file)
