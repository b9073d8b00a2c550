-- Lists that are walked side by side.
use Rattle.std.proofs.Common.{◌≡◌, ◌+◌, ◌<◌, ◌≤◌, ◌∙◌, ◌↔◌, inl, inr, ℕ, List, length, map, get_or, Some, sym, ap, subst, arith}
use Rattle.std.specs.Prelude.{MatchOption, Option, None, slice_get}
use Rattle.std.proofs.lemmas.Bool.{cases_lt}
use Rattle.std.proofs.lemmas.List.{get_or-map}
use Rattle.std.proofs.lemmas.Option.{get_or_from_slice_get, slice_get-get_or, slice_get_within}
use Rattle.go_path_core.specs.text_core.declared.rule.Rule.TheVariants.{L1}
use Rattle.go_query_core.specs.snap_core.WholeWorkspaceLists.{one_at}
use Rattle.go_query_core.specs.snap_core.declared.fault.PlacedFault.{PlacedFault}
use Rattle.go_graph_core.specs.Workspaces.{PackageModel}
use Rattle.go_query_core.specs.snap_core.Snapshots.{SnapshotModel}
use Rattle.go_reference_core.specs.rename.Moving.{AllPaired, Corresponds, IsMovedFault, IsMovedPart, IsSamePath, Moves}
use Rattle.go_reference_core.specs.rename.mirrors.Pairs.{ArePaired, Stay}

pub read_at : {A : Type 0} (xs : List A) (i : ℕ) (x : A) → i < length xs → x ≡ get_or xs i x → slice_get xs i ≡ Some x
read_at xs i x lt is = slice_get-get_or xs i x lt ∙ ap Some (sym is)

-- what is read of a list that is shown in another way
pub shown_at : {A B : Type 0} (f : A → B) (xs : List A) (i : ℕ) (x : A) → i < length xs → x ≡ get_or xs i x → f x ≡ get_or (map f xs) i (f x)
shown_at f xs i x lt is = ap f is ∙ sym (get_or-map f xs i x (f x) lt)

-- the fault of a number
abbrev pub fault_at : List PlacedFault → ℕ → PlacedFault
fault_at faults i = get_or faults i record { «package» = 0; file = 0; offset = 0; rule = L1 }

pub fault_is : (faults : List PlacedFault) (i : ℕ) → i < length faults → fault_at faults i ≡ get_or faults i (fault_at faults i)
fault_is faults i lt = sym (get_or_from_slice_get faults i (fault_at faults i) (fault_at faults i) (slice_get-get_or faults i _ lt))

module _ {A B : Type 0} (R : ℕ → A → B → Type 0) (xs : List A) (ys : List B) where
  pub none_paired : ArePaired R xs ys 0
  none_paired = record { each = λ k x y lt p q. absurd (omega (arith, lt)) }

  pub one_paired : (i : ℕ) (x : A) (y : B) → i < length xs → x ≡ get_or xs i x → i < length ys → y ≡ get_or ys i y → R i x y → ArePaired R xs ys i → ArePaired R xs ys (i + 1)
  one_paired i x y lt is lt' is' here before = record { each = each }
    where
      at : (k : ℕ) (a : A) (b : B) → k ≡ i → slice_get xs k ≡ Some a → slice_get ys k ≡ Some b → R k a b
      at k a b e p q =
          let first : x ≡ a = one_at xs i x a (read_at xs i x lt is) (subst (λ (n : ℕ). slice_get xs n ≡ Some a) e p) in
          let second : y ≡ b = one_at ys i y b (read_at ys i y lt' is') (subst (λ (n : ℕ). slice_get ys n ≡ Some b) e q) in
          subst (λ (n : ℕ). R n a b) (sym e) (subst (λ (z : B). R i a z) second (subst (λ (z : A). R i z y) first here))

      each : (k : ℕ) (a : A) (b : B) → k < i + 1 → slice_get xs k ≡ Some a → slice_get ys k ≡ Some b → R k a b
      each k a b low p q = elim (cases_lt k i) [ inl lt ↦ before.each k a b lt p q | inr ge ↦ at k a b (omega (arith, low, ge)) p q ]

  pub all_paired : (i : ℕ) → length ys ≡ length xs → length xs ≤ i → ArePaired R xs ys i → AllPaired R xs ys
  all_paired i many le h = record { many = many; each = λ k x y p q. (let lt = slice_get_within xs k x p in h.each k x y (omega (arith, lt)) p q) }

  pub differ : (i : ℕ) (x : A) (y : B) → i < length xs → x ≡ get_or xs i x → i < length ys → y ≡ get_or ys i y → (R i x y → ⊥) → AllPaired R xs ys → ⊥
  differ i x y lt is lt' is' none h = none (h.each i x y (read_at xs i x lt is) (read_at ys i y lt' is'))

  pub not_as_many : (length ys ≡ length xs → ⊥) → AllPaired R xs ys → ⊥
  not_as_many none h = none h.many

-- what is told of one statement is told of another that says the same
pub told_same : {A : Type 0} (r : Option A) (P Q : Type 0) → P ↔ Q → MatchOption r P (λ x. ¬ P) → MatchOption r Q (λ x. ¬ Q)
told_same None P Q same h = same.0 h
told_same (Some x) P Q same h = λ q. h (same.1 q)

-- what is told of lists is told of equal lists
pub told_of : {A B C : Type 0} (r : Option C) (P : List A → List B → Type 0) (xs us : List A) (ys vs : List B) → xs ≡ us → ys ≡ vs → MatchOption r (P xs ys) (λ x. ¬ P xs ys) → MatchOption r (P us vs) (λ x. ¬ P us vs)
told_of r P xs us ys vs e g h = subst (λ l. MatchOption r (P l vs) (λ x. ¬ P l vs)) e (subst (λ l. MatchOption r (P xs l) (λ x. ¬ P xs l)) g h)

-- the faults decide where the parts stay
pub faults_decide : {C : Type 0} (r : Option C) (m : Moves) (ps : List PackageModel) (s t : SnapshotModel) → AllPaired (IsMovedPart m ps) s.parts t.parts → MatchOption r (AllPaired (λ _. IsMovedFault m) s.faults t.faults) (λ x. ¬ AllPaired (λ _. IsMovedFault m) s.faults t.faults)
    → MatchOption r (Stay m ps s t) (λ x. ¬ Stay m ps s t)
faults_decide r m ps s t parts h = told_same r (AllPaired (λ _. IsMovedFault m) s.faults t.faults) (Stay m ps s t) (λ faults. record { parts = parts; faults = faults }, λ stay. stay.faults) h

-- and the rest where the paths do
pub rest_decides : {C : Type 0} (r : Option C) (m : Moves) (s t : SnapshotModel) → AllPaired IsSamePath s.sources t.sources → MatchOption r (Stay m s.sources s t) (λ x. ¬ Stay m s.sources s t) → MatchOption r (Corresponds m s t) (λ x. ¬ Corresponds m s t)
rest_decides r m s t paths h = told_same r (Stay m s.sources s t) (Corresponds m s t) (λ stay. record { paths = paths; parts = stay.parts; faults = stay.faults }, λ all. record { parts = all.parts; faults = all.faults }) h
