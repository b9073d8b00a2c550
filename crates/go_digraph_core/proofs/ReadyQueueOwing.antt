-- What nodes wait for, as marks change.
use Rattle.std.proofs.Common.{◌≡◌, ◌<◌, ◌≤◌, ◌≢◌, ◌⊎◌, ⊎_elim, inl, inr, ℕ, zero, suc, ◌+◌, ◌-◌, List, [], ◌∷◌, ◌++◌, length, get_or, set, length-set, take, refl, sym, ap, ◌∙◌, subst, arith, Option, Some, None, add-one}
use Rattle.std.proofs.lemmas.Bool.{cases_eq}
use Rattle.std.proofs.Common.{Vec, Global, map}
use Rattle.std.proofs.lemmas.List.{length_push}
use Rattle.std.proofs.lemmas.Option.{slice_get_past, slice_get_within, get_or_from_slice_get, slice_get-get_or}
use Rattle.std.proofs.lemmas.List.Elements.{All-head, All-tail}
use Rattle.std.specs.Prelude.{slice_get, slice_index, All, Contains, MatchOption}
use Rattle.go_digraph_core.specs.ready_queue.mirrors.Counting.{once, times, left, owed, total, turn, AreQueued, AreKept, AreFresh, AreNodes, IsUntaken}
use Rattle.go_digraph_core.specs.ready_queue.Turns.{turns_with, IsReady}
use Rattle.go_digraph_core.specs.declared.ready_queue.mark.Mark.{Mark}
use Rattle.go_digraph_core.specs.declared.ready_queue.mark.Mark.TheVariants.{Absent, Waiting, Taken, Finished}
use Rattle.go_digraph_core.proofs.ReadyQueueTimes.{once-same, once-other, times_push}

pub slice_get-set_same : {X : Type 0} (xs : List X) (k : ℕ) (y : X) → k < length xs → slice_get (set xs k y) k ≡ Some y
slice_get-set_same [] k y within = absurd (omega arith)
slice_get-set_same (x ∷ xs) zero y within = refl
slice_get-set_same (x ∷ xs) (suc k) y within = slice_get-set_same xs k y (omega arith)

pub slice_get-set_other : {X : Type 0} (xs : List X) (k n : ℕ) (y : X) → n ≢ k → slice_get (set xs k y) n ≡ slice_get xs n
slice_get-set_other [] k n y ne = refl
slice_get-set_other (x ∷ xs) zero zero y ne = absurd (ne refl)
slice_get-set_other (x ∷ xs) zero (suc n) y ne = refl
slice_get-set_other (x ∷ xs) (suc k) zero y ne = refl
slice_get-set_other (x ∷ xs) (suc k) (suc n) y ne = slice_get-set_other xs k n y (λ e. ne (ap suc e))

-- a node that is taken is still waited for
pub owed-set_taken : (n : ℕ) (marks : List Mark) (rows : List (List ℕ)) (k : ℕ) → slice_get marks k ≡ Some Waiting → owed n (set marks k Taken) rows ≡ owed n marks rows
owed-set_taken n [] rows k e = refl
owed-set_taken n (m ∷ ms) [] zero e = refl
owed-set_taken n (m ∷ ms) [] (suc k) e = refl
owed-set_taken n (m ∷ ms) (r ∷ rows) zero e = (let is : m ≡ Waiting = cc in ap (λ x. left x (times n r) + owed n ms rows) (sym is))
owed-set_taken n (m ∷ ms) (r ∷ rows) (suc k) e = ap (λ x. left m (times n r) + x) (owed-set_taken n ms rows k e)

-- one that is finished is not
pub owed-set_finished : (n : ℕ) (marks : List Mark) (rows : List (List ℕ)) (k : ℕ) (row : List ℕ) → slice_get marks k ≡ Some Taken → slice_get rows k ≡ Some row → owed n (set marks k Finished) rows + times n row ≡ owed n marks rows
owed-set_finished n [] rows k row e there = absurd (cc)
owed-set_finished n (m ∷ ms) [] k row e there = absurd (cc)
owed-set_finished n (m ∷ ms) (r ∷ rows) zero row e there =
    let is : m ≡ Taken = cc in
    let same : r ≡ row = cc in
    let here : left m (times n r) ≡ times n r = ap (λ x. left x (times n r)) is in
    omega (arith, here, ap (times n) same)
owed-set_finished n (m ∷ ms) (r ∷ rows) (suc k) row e there = omega (arith, owed-set_finished n ms rows k row e there)

left_zero : (m : Mark) (k : ℕ) → left m k ≡ 0 → 0 < k → m ≡ Finished
left_zero Absent k z some = absurd (omega arith)
left_zero Waiting k z some = absurd (omega arith)
left_zero Taken k z some = absurd (omega arith)
left_zero Finished k z some = refl

owed_zero : (n : ℕ) (marks : List Mark) (rows : List (List ℕ)) → owed n marks rows ≡ 0 → length rows ≡ length marks → (other : ℕ) (row : List ℕ) → slice_get rows other ≡ Some row → 0 < times n row → slice_get marks other ≡ Some Finished
owed_zero n [] [] z many other row there some = absurd (cc)
owed_zero n [] (r ∷ rows) z many other row there some = absurd (omega arith)
owed_zero n (m ∷ ms) [] z many other row there some = absurd (cc)
owed_zero n (m ∷ ms) (r ∷ rows) z many zero row there some =
    let same : r ≡ row = cc in
    ap Some (left_zero m (times n r) (omega arith) (omega (arith, ap (times n) same)))
owed_zero n (m ∷ ms) (r ∷ rows) z many (suc other) row there some = owed_zero n ms rows (omega arith) (omega arith) other row there some

left-zero : (m : Mark) → left m 0 ≡ 0
left-zero Absent = refl
left-zero Waiting = refl
left-zero Taken = refl
left-zero Finished = refl

zero_or_some : (k : ℕ) → (k ≡ 0) ⊎ (0 < k)
zero_or_some zero = inl refl
zero_or_some (suc k) = inr (omega arith)

owed_none : (n : ℕ) (marks : List Mark) (rows : List (List ℕ)) → ((other : ℕ) (row : List ℕ) → slice_get rows other ≡ Some row → 0 < times n row → slice_get marks other ≡ Some Finished) → owed n marks rows ≡ 0
owed_none n [] rows all = refl
owed_none n (m ∷ ms) [] all = refl
owed_none n (m ∷ ms) (r ∷ rows) all =
    let rest = owed_none n ms rows (λ other row there some. all (suc other) row there some) in
    ⊎_elim
    (λ (z : times n r ≡ 0). (let none : left m (times n r) ≡ 0 = ap (left m) z ∙ left-zero m in omega (arith, none, rest)))
    (λ (some : 0 < times n r). (let is : m ≡ Finished = (let e : Some m ≡ Some Finished = all zero r refl some in cc) in
    let none : left m (times n r) ≡ 0 = ap (λ x. left x (times n r)) is in omega (arith, none, rest)))
    (zero_or_some (times n r))

times_at : (xs : List ℕ) (k n : ℕ) → k < length xs → get_or xs k n ≡ n → 0 < times n xs
times_at [] k n within e = absurd (omega arith)
times_at (x ∷ xs) zero n within e = omega (arith, once-same n, ap (once n) e)
times_at (x ∷ xs) (suc k) n within e = omega (arith, times_at xs k n (omega arith) e)

pub times_from_Contains : (xs : List ℕ) (n : ℕ) → Contains xs n → 0 < times n xs
times_from_Contains xs n h = times_at xs h.0 n h.1 h.2

pub Contains_from_times : (xs : List ℕ) (n : ℕ) → 0 < times n xs → Contains xs n
Contains_from_times [] n some = absurd (omega arith)
Contains_from_times (x ∷ xs) n some =
    ⊎_elim
    (λ (same : n ≡ x). (let e : x ≡ n = sym same in (0, omega arith, e)))
    (λ (ne : n ≢ x). (let h = Contains_from_times xs n (omega (arith, some, once-other n x ne)) in (suc h.0, omega (arith, h.1), h.2)))
    (cases_eq n x)

turn_some : (m : Option Mark) (k : ℕ) → 0 < turn m k → (m ≡ Some Waiting) × (k ≡ 0)
turn_some None k t = absurd (omega arith)
turn_some (Some Absent) k t = absurd (omega arith)
turn_some (Some Waiting) zero t = (refl, refl)
turn_some (Some Waiting) (suc k) t = absurd (omega arith)
turn_some (Some Taken) k t = absurd (omega arith)
turn_some (Some Finished) k t = absurd (omega arith)

-- what stands in the queue is ready
pub ready_from_queue : (marks : List Mark) (rows : List (List ℕ)) (missing queue : List ℕ) (room node : ℕ) → AreKept marks rows missing queue room → 0 < times node queue → IsReady (turns_with marks rows) node
ready_from_queue marks rows missing queue room node kept some =
    let t = turn_some (slice_get marks node) (slice_index missing node) (omega (arith, some, kept.queued.each node)) in
    record { waits = t.0; needs = λ other need. owed_zero node marks rows (sym (kept.counted.each node) ∙ t.1) kept.many other need.0 need.1 (times_from_Contains need.0 node need.2) }

-- what is ready stands in the queue, once
pub queue_from_ready : (marks : List Mark) (rows : List (List ℕ)) (missing queue : List ℕ) (room node : ℕ) → AreKept marks rows missing queue room → IsReady (turns_with marks rows) node → times node queue ≡ 1
queue_from_ready marks rows missing queue room node kept ready =
    let none : slice_index missing node ≡ 0 = kept.counted.each node ∙ owed_none node marks rows (λ other row there some. ready.needs other (row, there, Contains_from_times row node some)) in
    kept.queued.each node ∙ ap (turn (slice_get marks node)) none ∙ ap (λ m. turn m 0) ready.waits

pub queued-set_taken : (marks : List Mark) (missing queue after : List ℕ) (node : ℕ) → AreQueued marks missing queue → node < length marks → times node queue ≡ 1 → ((n : ℕ) → times n after + once n node ≡ times n queue) → AreQueued (set marks node Taken) missing after
queued-set_taken marks missing queue after node q within one less = record {
  each = λ n. ⊎_elim
      (λ (same : n ≡ node). (let here : times node after ≡ turn (slice_get (set marks node Taken) node) (slice_index missing node) =
      (let z : times node after ≡ 0 = omega (arith, less node, one, once-same node) in z ∙ ap (λ m. turn m (slice_index missing node)) (sym (slice_get-set_same marks node Taken within))) in
      subst (λ (x : ℕ). times x after ≡ turn (slice_get (set marks node Taken) x) (slice_index missing x)) (sym same) here))
      (λ (ne : n ≢ node). (let keep : times n after ≡ times n queue = omega (arith, less n, once-other n node ne) in
      keep ∙ q.each n ∙ ap (λ m. turn m (slice_index missing n)) (sym (slice_get-set_other marks node n Taken ne))))
      (cases_eq n node);
}

pub queued-set_finished : (marks : List Mark) (missing queue : List ℕ) (node : ℕ) → AreQueued marks missing queue → slice_get marks node ≡ Some Taken → AreQueued (set marks node Finished) missing queue
queued-set_finished marks missing queue node q is = record {
  each = λ n. ⊎_elim
      (λ (same : n ≡ node). (let here : times node queue ≡ turn (slice_get (set marks node Finished) node) (slice_index missing node) =
      q.each node ∙ ap (λ m. turn m (slice_index missing node)) is ∙ ap (λ m. turn m (slice_index missing node)) (sym (slice_get-set_same marks node Finished (slice_get_within marks node Taken is))) in
      subst (λ (x : ℕ). times x queue ≡ turn (slice_get (set marks node Finished) x) (slice_index missing x)) (sym same) here))
      (λ (ne : n ≢ node). q.each n ∙ ap (λ m. turn m (slice_index missing n)) (sym (slice_get-set_other marks node n Finished ne)))
      (cases_eq n node);
}

left-untaken : (m : Mark) (k : ℕ) → IsUntaken m → left m k ≡ k
left-untaken Absent k u = refl
left-untaken Waiting k u = refl
left-untaken Taken k u = absurd u
left-untaken Finished k u = absurd u

owed_fresh : (n : ℕ) (marks : List Mark) (rows : List (List ℕ)) → All IsUntaken marks → length rows ≡ length marks → owed n marks rows ≡ total n rows
owed_fresh n [] [] fresh many = refl
owed_fresh n [] (r ∷ rows) fresh many = absurd (omega arith)
owed_fresh n (m ∷ ms) [] fresh many = refl
owed_fresh n (m ∷ ms) (r ∷ rows) fresh many =
    omega (arith, left-untaken m (times n r) (All-head IsUntaken m ms fresh), owed_fresh n ms rows (All-tail IsUntaken m ms fresh) (omega arith))

pub owed-fresh : (n : ℕ) (marks : List Mark) (rows : List (List ℕ)) → AreFresh marks → length rows ≡ length marks → owed n marks rows ≡ total n rows
owed-fresh n marks rows fresh many = owed_fresh n marks rows fresh.each many

last_in : (xs : List ℕ) (n : ℕ) → slice_get xs (length xs - 1) ≡ Some n → 0 < times n xs
last_in xs n e = times_at xs (length xs - 1) n (slice_get_within xs (length xs - 1) n e) (get_or_from_slice_get xs (length xs - 1) n n e)

nothing_last : (xs : List ℕ) → slice_get xs (length xs - 1) ≡ None → xs ≡ []
nothing_last [] e = refl
nothing_last (x ∷ xs) e = absurd (let some : slice_get (x ∷ xs) (length (x ∷ xs) - 1) ≡ Some (get_or (x ∷ xs) (length (x ∷ xs) - 1) x) = slice_get-get_or (x ∷ xs) (length (x ∷ xs) - 1) x (omega arith) in (cc))

-- the last of the queue is ready, and where there is none, none is
pub next_in_queue : (marks : List Mark) (rows : List (List ℕ)) (missing queue : List ℕ) (room : ℕ) (found : Option ℕ) → AreKept marks rows missing queue room → found ≡ slice_get queue (length queue - 1) → MatchOption found ((node : ℕ) → IsReady (turns_with marks rows) node → ⊥) (λ node. IsReady (turns_with marks rows) node)
next_in_queue marks rows missing queue room None kept is = λ node ready.
    absurd (omega (arith, queue_from_ready marks rows missing queue room node kept ready, ap (times node) (nothing_last queue (sym is))))
next_in_queue marks rows missing queue room (Some node) kept is = ready_from_queue marks rows missing queue room node kept (last_in queue node (sym is))

pub kept-taken : (marks : List Mark) (rows : List (List ℕ)) (missing queue after : List ℕ) (room more node : ℕ) → AreKept marks rows missing queue room → IsReady (turns_with marks rows) node → ((n : ℕ) → times n after + once n node ≡ times n queue) → more ≡ room → AreKept (set marks node Taken) rows missing after more
kept-taken marks rows missing queue after room more node kept ready less same =
    let within = slice_get_within marks node Waiting ready.waits in
    let many : length (set marks node Taken) ≡ length marks = length-set marks node Taken in
    record {
      many = kept.many ∙ sym many;
      nodes = subst (λ (k : ℕ). AreNodes k rows) (sym many) kept.nodes;
      counted = record { many = kept.counted.many ∙ sym many; each = λ n. kept.counted.each n ∙ sym (owed-set_taken n marks rows node ready.waits) };
      queued = queued-set_taken marks missing queue after node kept.queued within (queue_from_ready marks rows missing queue room node kept ready) less;
      has_room = omega (arith, kept.has_room, many, same);
    }

-- what is waited for of a node that is finished
pub enough_owed : (marks : List Mark) (rows : List (List ℕ)) (missing queue : List ℕ) (room node : ℕ) (row : List ℕ) → AreKept marks rows missing queue room → slice_get marks node ≡ Some Taken → slice_get rows node ≡ Some row → (n : ℕ) → times n row ≤ slice_index missing n
enough_owed marks rows missing queue room node row kept taken there n = omega (arith, kept.counted.each n, owed-set_finished n marks rows node row taken there)

pub kept-finished : (marks : List Mark) (rows : List (List ℕ)) (missing queue fewer after : List ℕ) (room more node : ℕ) (row : List ℕ) → AreKept marks rows missing queue room → slice_get marks node ≡ Some Taken → slice_get rows node ≡ Some row → length fewer ≡ length (set marks node Finished) → ((n : ℕ) → slice_index fewer n + times n row ≡ slice_index missing n) → AreQueued (set marks node Finished) fewer after → length (set marks node Finished) ≤ more → AreKept (set marks node Finished) rows fewer after more
kept-finished marks rows missing queue fewer after room more node row kept taken there long less queued has_room =
    let many : length (set marks node Finished) ≡ length marks = length-set marks node Finished in
    record {
      many = kept.many ∙ sym many;
      nodes = subst (λ (k : ℕ). AreNodes k rows) (sym many) kept.nodes;
      counted = record { many = long; each = λ n. omega (arith, less n, kept.counted.each n, owed-set_finished n marks rows node row taken there) };
      queued = queued;
      has_room = has_room;
    }

slice_get-map : {X Y : Type 0} (f : X → Y) (xs : List X) (k : ℕ) (x : X) → slice_get xs k ≡ Some x → slice_get (map f xs) k ≡ Some (f x)
slice_get-map f [] k x e = absurd (cc)
slice_get-map f (y ∷ ys) zero x e = (let same : y ≡ x = cc in ap (λ z. Some (f z)) same)
slice_get-map f (y ∷ ys) (suc k) x e = slice_get-map f ys k x e

pub length_mapped : (rows : List (Vec ℕ Global)) → length (map (λ (r : Vec ℕ Global). r.items) rows) ≡ length rows
length_mapped [] = refl
length_mapped (r ∷ rows) = omega (arith, length_mapped rows)

-- the row of a node, as it is read
pub row_at : (marks : List Mark) (rows : List (Vec ℕ Global)) (node : ℕ) (found : Vec ℕ Global) (row : List ℕ) (m : Mark) → length (map (λ (r : Vec ℕ Global). r.items) rows) ≡ length marks → slice_get marks node ≡ Some m → found ≡ get_or rows node found → row ≡ found.items → slice_get (map (λ (r : Vec ℕ Global). r.items) rows) node ≡ Some row
row_at marks rows node found row m many marked is same =
    let within : node < length rows = omega (arith, many, length_mapped rows, slice_get_within marks node m marked) in
    slice_get-map (λ (r : Vec ℕ Global). r.items) rows node found (slice_get-get_or rows node found within ∙ ap Some (sym is)) ∙ ap Some (sym same)

lt_or_le : (n k : ℕ) → (n < k) ⊎ (k ≤ n)
lt_or_le n zero = inr (omega arith)
lt_or_le zero (suc k) = inl (omega arith)
lt_or_le (suc n) (suc k) = ⊎_elim (λ (l : n < k). inl (omega arith)) (λ (g : k ≤ n). inr (omega arith)) (lt_or_le n k)

All_at : {X : Type 0} (P : X → Type 0) (xs : List X) (k : ℕ) (x : X) → All P xs → slice_get xs k ≡ Some x → P x
All_at P xs k x all e = subst P (get_or_from_slice_get xs k x x e) (all k x (slice_get_within xs k x e))

row_read : (rows : List (Vec ℕ Global)) (k : ℕ) (found : Vec ℕ Global) (row : List ℕ) → k < length rows → found ≡ get_or rows k found → row ≡ found.items → slice_get (map (λ (r : Vec ℕ Global). r.items) rows) k ≡ Some row
row_read rows k found row within is same =
    slice_get-map (λ (r : Vec ℕ Global). r.items) rows k found (slice_get-get_or rows k found within ∙ ap Some (sym is)) ∙ ap Some (sym same)

pub nodes_at : (count : ℕ) (rows : List (Vec ℕ Global)) (k : ℕ) (found : Vec ℕ Global) (row : List ℕ) → AreNodes count (map (λ (r : Vec ℕ Global). r.items) rows) → k < length rows → found ≡ get_or rows k found → row ≡ found.items → All (λ (n : ℕ). n < count) row
nodes_at count rows k found row nodes within is same = All_at (All (λ (n : ℕ). n < count)) (map (λ (r : Vec ℕ Global). r.items) rows) k row nodes.within (row_read rows k found row within is same)

total_take : (n : ℕ) (rows : List (List ℕ)) (k : ℕ) (row : List ℕ) → slice_get rows k ≡ Some row → total n (take (suc k) rows) ≡ total n (take k rows) + times n row
total_take n [] k row e = absurd (cc)
total_take n (r ∷ rows) zero row e = (let same : r ≡ row = cc in omega (arith, ap (times n) same))
total_take n (r ∷ rows) (suc k) row e = omega (arith, total_take n rows k row e)

pub total_more : (n : ℕ) (rows : List (Vec ℕ Global)) (k : ℕ) (found : Vec ℕ Global) (row : List ℕ) → k < length rows → found ≡ get_or rows k found → row ≡ found.items → total n (take (k + 1) (map (λ (r : Vec ℕ Global). r.items) rows)) ≡ total n (take k (map (λ (r : Vec ℕ Global). r.items) rows)) + times n row
total_more n rows k found row within is same = rw add-one (total_take n (map (λ (r : Vec ℕ Global). r.items) rows) k row (row_read rows k found row within is same))

pub total_all : (n : ℕ) (rows : List (List ℕ)) (k : ℕ) → length rows ≤ k → total n (take k rows) ≡ total n rows
total_all n [] zero le = refl
total_all n [] (suc k) le = refl
total_all n (r ∷ rows) zero le = absurd (omega arith)
total_all n (r ∷ rows) (suc k) le = omega (arith, total_all n rows k (omega arith))

-- what is queued so far
pub record AreQueuedTo (bound : ℕ) (marks : List Mark) (missing queue : List ℕ) : Type 0 where
  pub passed : (n : ℕ) → n < bound → times n queue ≡ turn (slice_get marks n) (slice_index missing n)
  pub ahead : (n : ℕ) → bound ≤ n → times n queue ≡ 0
  pub fits : length queue ≤ bound

pub queued_more : (bound : ℕ) (marks : List Mark) (missing queue after : List ℕ) → AreQueuedTo bound marks missing queue → ((after ≡ queue ++ bound ∷ []) × (turn (slice_get marks bound) (slice_index missing bound) ≡ 1)) ⊎ ((after ≡ queue) × (turn (slice_get marks bound) (slice_index missing bound) ≡ 0)) → AreQueuedTo (bound + 1) marks missing after
queued_more bound marks missing queue after q (inl p) =
    subst (λ (x : List ℕ). AreQueuedTo (bound + 1) marks missing x) (sym p.0) (record {
      passed = λ n below. ⊎_elim
          (λ (same : n ≡ bound). (let here : times bound (queue ++ bound ∷ []) ≡ turn (slice_get marks bound) (slice_index missing bound) = omega (arith, times_push bound queue bound, q.ahead bound (omega arith), once-same bound, p.1) in
          subst (λ (x : ℕ). times x (queue ++ bound ∷ []) ≡ turn (slice_get marks x) (slice_index missing x)) (sym same) here))
          (λ (ne : n ≢ bound). omega (arith, times_push n queue bound, q.passed n (omega (arith, ne, below)), once-other n bound ne))
          (cases_eq n bound);
      ahead = λ n above. omega (arith, times_push n queue bound, q.ahead n (omega (arith, above)), once-other n bound (λ e. omega (arith, e, above)));
      fits = omega (arith, q.fits, length_push queue bound);
    })
queued_more bound marks missing queue after q (inr p) =
    subst (λ (x : List ℕ). AreQueuedTo (bound + 1) marks missing x) (sym p.0) (record {
      passed = λ n below. ⊎_elim
          (λ (same : n ≡ bound). (let here : times bound queue ≡ turn (slice_get marks bound) (slice_index missing bound) = q.ahead bound (omega arith) ∙ sym p.1 in
          subst (λ (x : ℕ). times x queue ≡ turn (slice_get marks x) (slice_index missing x)) (sym same) here))
          (λ (ne : n ≢ bound). q.passed n (omega (arith, ne, below)))
          (cases_eq n bound);
      ahead = λ n above. q.ahead n (omega (arith, above));
      fits = omega (arith, q.fits);
    })

pub queued_all : (marks : List Mark) (missing queue : List ℕ) → AreQueuedTo (length marks) marks missing queue → AreQueued marks missing queue
queued_all marks missing queue q = record {
  each = λ n. ⊎_elim (λ (below : n < length marks). q.passed n below) (λ (above : length marks ≤ n). q.ahead n above ∙ ap (λ m. turn m (slice_index missing n)) (sym (slice_get_past marks n above))) (lt_or_le n (length marks));
}

pub kept-new : (marks : List Mark) (rows : List (List ℕ)) (missing queue : List ℕ) (room : ℕ) → AreFresh marks → length rows ≡ length marks → AreNodes (length marks) rows → length missing ≡ length marks → ((n : ℕ) → slice_index missing n ≡ total n rows) → AreQueued marks missing queue → length marks ≤ room → AreKept marks rows missing queue room
kept-new marks rows missing queue room fresh many nodes long each queued has_room = record {
  many = many;
  nodes = nodes;
  counted = record { many = long; each = λ n. each n ∙ sym (owed-fresh n marks rows fresh many) };
  queued = queued;
  has_room = has_room;
}
