-- How often numbers stand in lists.
use Rattle.std.proofs.Common.{◌≡◌, ◌<◌, ◌≤◌, ◌≢◌, ℕ, zero, suc, ◌+◌, ◌-◌, true, false, cond, ◌||◌, List, [], ◌∷◌, ◌++◌, length, get_or, set, take, drop, refl, sym, ap, ◌∙◌, subst, arith, Option, Some, None, add-one}
use Rattle.std.proofs.lemmas.Bool.{cases_eq}
use Rattle.std.proofs.lemmas.List.{get_or-set_same, get_or-set_other}
use Rattle.std.proofs.Common.{⊎_elim}
use Rattle.std.proofs.lemmas.Bool.Decides.{nat_tests}
use Rattle.std.specs.Prelude.{slice_get, slice_index, eqb}
use Rattle.std.specs.List.{AllByRecursion, IsDistinct, list_any}
use Rattle.std.proofs.lemmas.Map.Steps.{length-le_from_distinct_below}
use Rattle.go_digraph_core.specs.ready_queue.mirrors.Counting.{once, times, turn, AreQueued}
use Rattle.go_digraph_core.specs.ready_queue.Turns.{is_waiting}
use Rattle.std.proofs.lemmas.Option.{slice_get-get_or}
use Rattle.go_digraph_core.specs.declared.ready_queue.mark.Mark.{Mark}
use Rattle.go_digraph_core.specs.declared.ready_queue.mark.Mark.TheVariants.{Absent, Waiting, Taken, Finished}

pub times-append : (n : ℕ) (xs ys : List ℕ) → times n (xs ++ ys) ≡ times n xs + times n ys
times-append n [] ys = omega arith
times-append n (x ∷ xs) ys = omega (arith, times-append n xs ys)

pub once-same : (n : ℕ) → once n n ≡ 1
once-same n = grind (arith, nat_tests)

pub once-other : (n k : ℕ) → n ≢ k → once n k ≡ 0
once-other n k ne = grind (arith, nat_tests)

pub once_most : (n k : ℕ) → once n k ≤ 1
once_most n k = grind (arith, nat_tests)

once_zero : (n k : ℕ) → once n k ≡ 0 → eqb n k ≡ false
once_zero n k z = grind (arith, nat_tests)

none_from_zero : (x : ℕ) (ys : List ℕ) → times x ys ≡ 0 → AllByRecursion (λ y. eqb x y ≡ false) ys
none_from_zero x [] z = tt
none_from_zero x (y ∷ ys) z = (once_zero x y (omega (arith, z)), none_from_zero x ys (omega (arith, z)))

-- a list with each number at most once
distinct_from_once : (xs : List ℕ) → ((n : ℕ) → times n xs ≤ 1) → IsDistinct eqb xs
unfolding IsDistinct
distinct_from_once [] most = tt
distinct_from_once (x ∷ xs) most =
    (none_from_zero x xs (omega (arith, once-same x, most x)), distinct_from_once xs (λ n. omega (arith, most n)))

times_from_any : (q : ℕ) (xs : List ℕ) → list_any (eqb q) xs ≡ true → 0 < times q xs
times_from_any q [] t = absurd (cc)
times_from_any q (x ∷ xs) t =
    elim (eqb q x) as (λ b. ((b || list_any (eqb q) xs) ≡ true) → 0 < cond b 1 0 + times q xs) [
      | true ↦ λ _. omega arith
      | false ↦ λ t'. omega (arith, times_from_any q xs t')
    ] t

-- a list with each number at most once, all below a bound, is no longer than it
pub length_from_once : (xs : List ℕ) (bound : ℕ) → ((n : ℕ) → times n xs ≤ 1) → ((n : ℕ) → 0 < times n xs → n < bound) → length xs ≤ bound
length_from_once xs bound most below = length-le_from_distinct_below xs bound (distinct_from_once xs most) (λ q t. below q (times_from_any q xs t))

pub turn-le : (m : Option Mark) (k : ℕ) → turn m k ≤ 1
turn-le None k = omega arith
turn-le (Some Absent) k = omega arith
turn-le (Some Waiting) zero = omega arith
turn-le (Some Waiting) (suc k) = omega arith
turn-le (Some Taken) k = omega arith
turn-le (Some Finished) k = omega arith

within_from_turn : (marks : List Mark) (n k : ℕ) → 0 < turn (slice_get marks n) k → n < length marks
within_from_turn [] n k t = absurd (omega arith)
within_from_turn (m ∷ ms) zero k t = omega arith
within_from_turn (m ∷ ms) (suc n) k t = omega (arith, within_from_turn ms n k t)

-- a node that is not in the queue leaves room in it
pub queue_has_room : (marks : List Mark) (missing queue : List ℕ) (node : ℕ) → AreQueued marks missing queue → node < length marks → times node queue ≡ 0 → length queue < length marks
queue_has_room marks missing queue node q within none =
    let most : (n : ℕ) → times n (node ∷ queue) ≤ 1 = λ n.
    elim (eqb n node) as (λ b. (eqb n node ≡ b) → times n (node ∷ queue) ≤ 1) [
      | true ↦ λ e. omega (arith, (let same : n ≡ node = grind (arith, nat_tests, e) in subst (λ (x : ℕ). times x queue ≡ 0) (sym same) none), once_most n node)
      | false ↦ λ e. omega (arith, ap {B = ℕ} (λ b. cond b 1 0) e, q.each n, turn-le (slice_get marks n) (slice_index missing n))
    ] refl in
    let below : (n : ℕ) → 0 < times n (node ∷ queue) → n < length marks = λ n some.
    elim (eqb n node) as (λ b. (eqb n node ≡ b) → n < length marks) [
      | true ↦ λ e. (let same : n ≡ node = grind (arith, nat_tests, e) in subst (λ (x : ℕ). x < length marks) (sym same) within)
      | false ↦ λ e. within_from_turn marks n (slice_index missing n) (omega (arith, some, ap {B = ℕ} (λ b. cond b 1 0) e, q.each n))
    ] refl in
    omega (arith, length_from_once (node ∷ queue) (length marks) most below)

pub turn-zero : (m : Option Mark) (k : ℕ) → 0 < k → turn m k ≡ 0
turn-zero m zero some = absurd (omega (arith, some))
turn-zero None (suc k) some = refl
turn-zero (Some Absent) (suc k) some = refl
turn-zero (Some Waiting) (suc k) some = refl
turn-zero (Some Taken) (suc k) some = refl
turn-zero (Some Finished) (suc k) some = refl

-- a node that now waits for nothing joins the queue
pub queued-join : (marks : List Mark) (missing queue : List ℕ) (node less : ℕ) → AreQueued marks missing queue → node < length missing → 0 < get_or missing node 0 → less ≡ 0 → slice_get marks node ≡ Some Waiting → AreQueued marks (set missing node less) (queue ++ node ∷ [])
queued-join marks missing queue node less q within some none waits = record {
  each = λ n. ⊎_elim
      (λ (same : n ≡ node). let here : times node (queue ++ node ∷ []) ≡ turn (slice_get marks node) (get_or (set missing node less) node 0) =
      times-append node queue (node ∷ []) ∙ (let old : times node queue ≡ 0 = q.each node ∙ turn-zero (slice_get marks node) (get_or missing node 0) some in
      let sum : times node queue + (once node node + 0) ≡ 1 = omega (arith, old, once-same node) in
      sum ∙ sym (ap (turn (slice_get marks node)) (get_or-set_same missing node less 0 within ∙ none) ∙ ap (λ m. turn m 0) waits)) in
      subst (λ (x : ℕ). times x (queue ++ node ∷ []) ≡ turn (slice_get marks x) (get_or (set missing node less) x 0)) (sym same) here)
      (λ (ne : n ≢ node). let sum : times n queue + (once n node + 0) ≡ times n queue = omega (arith, once-other n node ne) in
      times-append n queue (node ∷ []) ∙ sum ∙ q.each n ∙ ap (turn (slice_get marks n)) (sym (get_or-set_other missing node n less 0 ne)))
      (cases_eq n node);
}

-- a node that waits for more, or is not to be taken, does not
pub queued-stay : (marks : List Mark) (missing queue : List ℕ) (node less : ℕ) → AreQueued marks missing queue → node < length missing → 0 < get_or missing node 0 → turn (slice_get marks node) less ≡ 0 → AreQueued marks (set missing node less) queue
queued-stay marks missing queue node less q within some none = record {
  each = λ n. ⊎_elim
      (λ (same : n ≡ node). let here : times node queue ≡ turn (slice_get marks node) (get_or (set missing node less) node 0) =
      q.each node ∙ turn-zero (slice_get marks node) (get_or missing node 0) some ∙ sym none ∙ ap (turn (slice_get marks node)) (sym (get_or-set_same missing node less 0 within)) in
      subst (λ (x : ℕ). times x queue ≡ turn (slice_get marks x) (get_or (set missing node less) x 0)) (sym same) here)
      (λ (ne : n ≢ node). q.each n ∙ ap (turn (slice_get marks n)) (sym (get_or-set_other missing node n less 0 ne)))
      (cases_eq n node);
}

pub turn-more : (m : Option Mark) (k : ℕ) → k ≢ 0 → turn m k ≡ 0
turn-more m zero ne = absurd (ne refl)
turn-more m (suc k) ne = turn-zero m (suc k) (omega arith)

pub within_from_some : (xs : List ℕ) (n : ℕ) → 0 < get_or xs n 0 → n < length xs
within_from_some [] n some = absurd (omega arith)
within_from_some (x ∷ xs) zero some = omega arith
within_from_some (x ∷ xs) (suc n) some = omega (arith, within_from_some xs n some)

is_waiting-true : (m : Mark) → is_waiting m ≡ true → m ≡ Waiting
is_waiting-true Absent t = absurd (cc)
is_waiting-true Waiting t = refl
is_waiting-true Taken t = absurd (cc)
is_waiting-true Finished t = absurd (cc)

pub waiting_at : (marks : List Mark) (n : ℕ) (d : Mark) → n < length marks → is_waiting (get_or marks n d) ≡ true → slice_get marks n ≡ Some Waiting
waiting_at marks n d within t = slice_get-get_or marks n d within ∙ ap Some (is_waiting-true (get_or marks n d) t)

turn-not : (m : Mark) (k : ℕ) → is_waiting m ≡ false → turn (Some m) k ≡ 0
turn-not Absent k f = refl
turn-not Waiting k f = absurd (cc)
turn-not Taken k f = refl
turn-not Finished k f = refl

pub turn-not_waiting : (marks : List Mark) (n k : ℕ) (d : Mark) → n < length marks → is_waiting (get_or marks n d) ≡ false → turn (slice_get marks n) k ≡ 0
turn-not_waiting marks n k d within f = ap (λ m. turn m k) (slice_get-get_or marks n d within) ∙ turn-not (get_or marks n d) k f

times_take_suc : (n : ℕ) (xs : List ℕ) (i : ℕ) → i < length xs → times n (take (suc i) xs) ≡ times n (take i xs) + once n (get_or xs i 0)
times_take_suc n [] i within = absurd (omega arith)
times_take_suc n (x ∷ xs) zero within = omega arith
times_take_suc n (x ∷ xs) (suc i) within = omega (arith, times_take_suc n xs i (omega arith))

-- one more of the list is passed
pub times_take_more : (n : ℕ) (xs : List ℕ) (i : ℕ) → i < length xs → times n (take (i + 1) xs) ≡ times n (take i xs) + once n (get_or xs i 0)
times_take_more n xs i within = rw add-one (times_take_suc n xs i within)

times_take-le : (n : ℕ) (xs : List ℕ) (i : ℕ) → times n (take i xs) ≤ times n xs
times_take-le n xs zero = omega arith
times_take-le n [] (suc i) = omega arith
times_take-le n (x ∷ xs) (suc i) = omega (arith, times_take-le n xs i)

-- what is still to come is left
pub enough_left : (xs : List ℕ) (i now before : ℕ) → i < length xs → now + times (get_or xs i 0) (take i xs) ≡ before → times (get_or xs i 0) xs ≤ before → 0 < now
enough_left xs i now before within sum enough =
    omega (arith, sum, enough, times_take_more (get_or xs i 0) xs i within, once-same (get_or xs i 0), times_take-le (get_or xs i 0) xs (i + 1))

-- the count of one node goes down by one
pub counted_down : (missing : List ℕ) (node less n : ℕ) → less ≡ get_or missing node 0 - 1 → 0 < get_or missing node 0 → get_or (set missing node less) n 0 + once n node ≡ get_or missing n 0
counted_down missing node less n is some =
    ⊎_elim
    (λ (same : n ≡ node). let here : get_or (set missing node less) node 0 + once node node ≡ get_or missing node 0 = omega (arith, get_or-set_same missing node less 0 (within_from_some missing node some), once-same node, is, some) in
    subst (λ (x : ℕ). get_or (set missing node less) x 0 + once x node ≡ get_or missing x 0) (sym same) here)
    (λ (ne : n ≢ node). omega (arith, get_or-set_other missing node n less 0 ne, once-other n node ne))
    (cases_eq n node)

times_take_all : (n : ℕ) (xs : List ℕ) (k : ℕ) → length xs ≤ k → times n (take k xs) ≡ times n xs
times_take_all n [] zero le = refl
times_take_all n [] (suc k) le = refl
times_take_all n (x ∷ xs) zero le = absurd (omega arith)
times_take_all n (x ∷ xs) (suc k) le = omega (arith, times_take_all n xs k (omega arith))

-- a list without its last
pub times_last : (n : ℕ) (xs : List ℕ) (last : ℕ) → last + 1 ≡ length xs → times n (take last xs) + once n (get_or xs last 0) ≡ times n xs
times_last n xs last e = sym (times_take_more n xs last (omega (arith, e))) ∙ times_take_all n xs (last + 1) (omega (arith, e))

-- a list without the one at a place
pub times_remove : (n : ℕ) (xs : List ℕ) (k : ℕ) → k < length xs → times n (take k xs ++ drop (suc k) xs) + once n (get_or xs k 0) ≡ times n xs
times_remove n [] k within = absurd (omega arith)
times_remove n (x ∷ xs) zero within = omega arith
times_remove n (x ∷ xs) (suc k) within = omega (arith, times_remove n xs k (omega arith))

pub passed_all : (n : ℕ) (xs : List ℕ) → times n (take (length xs) xs) ≡ times n xs
passed_all n xs = times_take_all n xs (length xs) (omega arith)

pub some_has_one : (n : ℕ) (xs : List ℕ) → 0 < times n xs → 0 < length xs
some_has_one n [] some = absurd (omega arith)
some_has_one n (x ∷ xs) some = omega arith

pub times_push : (n : ℕ) (xs : List ℕ) (y : ℕ) → times n (xs ++ y ∷ []) ≡ times n xs + once n y
times_push n xs y = omega (arith, times-append n xs (y ∷ []))

pub counted_up : (missing : List ℕ) (node more n : ℕ) → more ≡ get_or missing node 0 + 1 → node < length missing → get_or (set missing node more) n 0 ≡ get_or missing n 0 + once n node
counted_up missing node more n is within =
    ⊎_elim
    (λ (same : n ≡ node). let here : get_or (set missing node more) node 0 ≡ get_or missing node 0 + once node node = omega (arith, get_or-set_same missing node more 0 within, once-same node, is) in
    subst (λ (x : ℕ). get_or (set missing node more) x 0 ≡ get_or missing x 0 + once x node) (sym same) here)
    (λ (ne : n ≢ node). omega (arith, get_or-set_other missing node n more 0 ne, once-other n node ne))
    (cases_eq n node)
