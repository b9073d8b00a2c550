-- Packages are initialised behind those that they import.
use Rattle.std.proofs.Common.{◌≡◌, ◌⊎◌, inl, inr, ⊎_elim, ℕ, zero, suc, ◌+◌, ◌<◌, Bool, true, false, ◌&&◌, cond, List, [], ◌∷◌, ◌++◌, length, get_or, Option, Some, None, refl, sym, ap, ◌∙◌, subst, arith, append_assoc}
use Rattle.std.specs.Prelude.{Contains, remove, replicate, slice_get, slice_index, slice_set}
use Rattle.std.specs.List.{position_from}
use Rattle.std.proofs.lemmas.Bool.{true≢false}
use Rattle.std.proofs.lemmas.List.Elements.{Contains-append_left, Contains-append_right}
use Rattle.go_digraph_core.proofs.CycleMarks.{marked_after}
use Rattle.go_machine_core.specs.link.Packages.{PackageOf}
use Rattle.go_machine_core.specs.link.Order.{are_done, imports_in, in_turn, initialised, is_done, is_ready, marked_in, taken}
use Rattle.go_machine_core.specs.runs.Laws.{ImportsComeFirst}

-- the first item that passes a test
record FirstPass {A : Type 0} (test : A → Bool) (xs : List A) (n k : ℕ) (d : A) : Type 0 where
  place : ℕ
  is : k ≡ n + place
  within : place < length xs
  passes : test (get_or xs place d) ≡ true

first_pass : {A : Type 0} (test : A → Bool) (xs : List A) (n k : ℕ) (d : A) → position_from test n xs ≡ Some k → FirstPass test xs n k d
first_pass test [] n k d e = cc
first_pass {A} test (x ∷ xs) n k d e = by (test x) refl e (first_pass test xs (n + 1) k d)
  where
    by : (b : Bool) → test x ≡ b → cond b (Some n) (position_from test (n + 1) xs) ≡ Some k → (position_from test (n + 1) xs ≡ Some k → FirstPass test xs (n + 1) k d) → FirstPass test (x ∷ xs) n k d
    by true t e ih = (let same : n ≡ k = cc in record { place = 0; is = omega (arith, same); within = omega arith; passes = t })
    by false t e ih = (let r = ih e in record { place = suc r.place; is = omega (arith, r.is); within = omega (arith, r.within); passes = r.passes })

both_left : (a b : Bool) → (a && b) ≡ true → a ≡ true
both_left true b e = refl
both_left false b e = e

both_right : (a b : Bool) → (a && b) ≡ true → b ≡ true
both_right true b e = e
both_right false b e = absurd (true≢false (sym e))

-- an import of a package whose imports are done is done
import_at : (done : List Bool) (is : List (Option ℕ)) (k j : ℕ) → are_done done is ≡ true → j < length is → get_or is j (Some k) ≡ Some k → get_or done k false ≡ true
import_at done [] k j h lt at = absurd (omega arith)
import_at done (i ∷ is) k zero h lt at = subst (λ (o : Option ℕ). is_done done o ≡ true) at (both_left (is_done done i) (are_done done is) h)
import_at done (i ∷ is) k (suc j) h lt at = import_at done is k j (both_right (is_done done i) (are_done done is) h) (omega (arith, lt)) at

none_done : (n k : ℕ) → get_or (replicate n false) k false ≡ false
none_done zero k = refl
none_done (suc n) zero = refl
none_done (suc n) (suc k) = none_done n k

not_empty : (xs ys : List ℕ) (n : ℕ) → [] ≡ xs ++ n ∷ ys → ⊥
not_empty [] ys n e = cc
not_empty (x ∷ xs) ys n e = cc

contains_last : (xs : List ℕ) (x : ℕ) → Contains (xs ++ x ∷ []) x
contains_last xs x = Contains-append_right xs (x ∷ []) x (0, omega arith, refl)

module _ (ps : List PackageOf) where
  abbrev pub AreEarlier : List Bool → List ℕ → Type 0
  AreEarlier done earlier = (k : ℕ) → get_or done k false ≡ true → Contains earlier k

  earlier_more : (done : List Bool) (earlier : List ℕ) (x : ℕ) → AreEarlier done earlier → AreEarlier (slice_set done x true) (earlier ++ x ∷ [])
  earlier_more done earlier x h k m =
      ⊎_elim
      (λ same. subst (λ n. Contains (earlier ++ x ∷ []) n) (sym same) (contains_last earlier x))
      (λ before. Contains-append_left earlier (x ∷ []) k (h k before))
      (marked_after done x k m)

  -- what comes later, of the same package and import
  abbrev pub Later : ℕ → List ℕ → ℕ → ℕ → Type 0
  Later m behind n k = (done : List Bool) (waiting earlier : List ℕ) → AreEarlier done earlier → (front : List ℕ) → in_turn ps m done waiting ≡ front ++ n ∷ behind → Contains (earlier ++ front) k

  module _ (m : ℕ) (done : List Bool) (waiting earlier : List ℕ) (h : AreEarlier done earlier) (behind : List ℕ) (n k : ℕ) (c : Contains (imports_in (slice_get ps n)) (Some k)) where
    abbrev next : ℕ → List ℕ
    next place = slice_index waiting place ∷ in_turn ps m (slice_set done (slice_index waiting place) true) (remove waiting place)

    first_here : (place : ℕ) → position_from (is_ready ps done) 0 waiting ≡ Some place → slice_index waiting place ≡ n → Contains (earlier ++ []) k
    first_here place is same =
        let f = first_pass (is_ready ps done) waiting 0 place 0 is in
        let here : place ≡ f.place = omega (arith, f.is) in
        let ready : is_ready ps done (slice_index waiting place) ≡ true = subst (λ p. is_ready ps done (slice_index waiting p) ≡ true) (sym here) f.passes in
        let ready_n : is_ready ps done n ≡ true = subst (λ x. is_ready ps done x ≡ true) same ready in
        Contains-append_left earlier [] k (h k (import_at done (imports_in (slice_get ps n)) k c.0 ready_n c.1 c.2))

    later_there : Later m behind n k → (place b : ℕ) (bs : List ℕ) → next place ≡ (b ∷ bs) ++ n ∷ behind → Contains (earlier ++ b ∷ bs) k
    later_there more place b bs e =
        let x = slice_index waiting place in
        let same : x ≡ b = cc in
        let rest : in_turn ps m (slice_set done x true) (remove waiting place) ≡ bs ++ n ∷ behind = cc in
        let found : Contains ((earlier ++ x ∷ []) ++ bs) k = more (slice_set done x true) (remove waiting place) (earlier ++ x ∷ []) (earlier_more done earlier x h) bs rest in
        let there : Contains (earlier ++ x ∷ bs) k = subst (λ l. Contains l k) (append_assoc earlier (x ∷ []) bs) found in
        subst (λ y. Contains (earlier ++ y ∷ bs) k) same there

    at_place : Later m behind n k → (place : ℕ) → position_from (is_ready ps done) 0 waiting ≡ Some place → (front : List ℕ) → next place ≡ front ++ n ∷ behind → Contains (earlier ++ front) k
    at_place more place is [] e = first_here place is (let same : slice_index waiting place ≡ n = cc in same)
    at_place more place is (b ∷ bs) e = later_there more place b bs e

    at_first : Later m behind n k → (o : Option ℕ) → position_from (is_ready ps done) 0 waiting ≡ o → (front : List ℕ) → taken o next ≡ front ++ n ∷ behind → Contains (earlier ++ front) k
    at_first more None is front e = absurd (not_empty front behind n e)
    at_first more (Some place) is front e = at_place more place is front e

  in_order : (m : ℕ) (behind : List ℕ) (n k : ℕ) → Contains (imports_in (slice_get ps n)) (Some k) → Later m behind n k
  in_order zero behind n k c done waiting earlier h front e = absurd (not_empty front behind n e)
  in_order (suc m) behind n k c done waiting earlier h front e =
      at_first m done waiting earlier h behind n k c (in_order m behind n k c) (position_from (is_ready ps done) 0 waiting) refl front e

pub imports_come_first : ImportsComeFirst
imports_come_first ps order marks before behind n k e c =
    in_order ps (length (marked_in order marks)) behind n k c (replicate (length ps) false) (marked_in order marks) [] (λ j m. absurd (true≢false (sym m ∙ none_done (length ps) j))) before e
