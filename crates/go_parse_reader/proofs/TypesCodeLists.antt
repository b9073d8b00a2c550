-- What reading a list gives from the middle on.
use Rattle.std.proofs.Common.{◌≡◌, ℕ, zero, suc, ◌-◌, ◌<◌, ◌≤◌, List, [], ◌∷◌, ◌++◌, length, Option, Some, None, Ok, Err, refl, sym, ap, ◌∙◌, subst, arith, append_assoc, append-nil}
use Rattle.go_tree_nodes.specs.text_core.declared.span.Span.{Span}
use Rattle.go_tree_nodes.specs.token_core.declared.kind.Operator.{Operator}
use Rattle.go_tree_nodes.specs.Terminals.{Terminal}
use Rattle.go_parse_reader.specs.declared.types.stop.Stop.{Stop}
use Rattle.go_parse_reader.specs.types.mirrors.EntryShapes.{list_all, with_mark, then_mark}
use Rattle.go_parse_reader.specs.types.mirrors.Giving.{Fails}
use Rattle.go_parse_reader.specs.types.mirrors.Marks.{Stuck, Grammar, ◌>>=◌, Reading, MarkAhead, mark_at, end_by, mark_by, mark_or_end, last_by, more_by, list_by, list_go}
use Rattle.go_parse_reader.proofs.TypesMarks.{mark_shorter, bind_ok}
use Rattle.go_parse_reader.proofs.TypesCodeSteps.{fails_along}

abbrev pub with_front : {A : Type 0} → List (A × Option Span) → Reading (List (A × Option Span)) → Reading (List (A × Option Span))
with_front done r = r >>= λ x. Ok (done ++ x.0, x.1)

-- reading gives these items, and then what reading the rest gives
pub record ListSoFar (A : Type 0) (item : List Terminal → Reading A) (between close : Operator) (ts : List Terminal) (done : List (A × Option Span)) (rest : List Terminal) : Type 0 where
  pub turns : ℕ
  pub enough : length rest < turns
  pub same : list_all item between close ts ≡ with_front done (list_go item between close turns rest)

whole : {A : Type 0} (r : Reading (List (A × Option Span))) → r ≡ with_front [] r
whole (Ok x) = refl
whole (Err e) = refl

pub list_none : (A : Type 0) (item : List Terminal → Reading A) (between close : Operator) (ts : List Terminal) → ListSoFar A item between close ts [] ts
list_none A item between close ts =
    record { turns = suc (length ts); enough = omega arith; same = whole (list_all item between close ts) }

-- a turn: an item, and what comes behind it
turn_is : (A : Type 0) (item : List Terminal → Reading A) (between close : Operator) (k : ℕ) (rest after : List Terminal) (x : A) → 0 < k → None ≡ mark_at close rest → item rest ≡ Ok (x, after) → list_go item between close k rest ≡ more_by (list_go item between close (k - 1)) close x after (mark_at between after)
unfolding list_go
turn_is A item between close zero rest after x some free e = absurd (omega arith)
turn_is A item between close (suc k) rest after x some free e =
    let less : suc k - 1 ≡ k = omega arith in
    ap (list_by item (list_go item between close k) between close rest) (sym free)
    ∙ ap (λ r. r >>= λ x. more_by (list_go item between close k) close x.0 x.1 (mark_at between x.1)) e
    ∙ ap (λ m. more_by (list_go item between close m) close x after (mark_at between after)) (sym less)

turn_err : (A : Type 0) (item : List Terminal → Reading A) (between close : Operator) (k : ℕ) (rest : List Terminal) (f : Stuck) → 0 < k → None ≡ mark_at close rest → item rest ≡ Err f → list_go item between close k rest ≡ Err f
unfolding list_go
turn_err A item between close zero rest f some free e = absurd (omega arith)
turn_err A item between close (suc k) rest f some free e =
    ap (list_by item (list_go item between close k) between close rest) (sym free)
    ∙ ap (λ r. r >>= λ x. more_by (list_go item between close k) close x.0 x.1 (mark_at between x.1)) e

turn_end : (A : Type 0) (item : List Terminal → Reading A) (between close : Operator) (k : ℕ) (rest : List Terminal) (m : Span × List Terminal) → 0 < k → mark_at close rest ≡ Some m → list_go item between close k rest ≡ Ok ([], rest)
unfolding list_go
turn_end A item between close zero rest m some at = absurd (omega arith)
turn_end A item between close (suc k) rest m some at = ap (list_by item (list_go item between close k) between close rest) at

fuse : {A : Type 0} (done : List (A × Option Span)) (x : A × Option Span) (r : Reading (List (A × Option Span))) → with_front done (r >>= λ y. Ok (x ∷ y.0, y.1)) ≡ with_front (done ++ (x ∷ [])) r
fuse done x (Err e) = refl
fuse done x (Ok y) = ap (λ l. Ok (l, y.1)) (sym (append_assoc done (x ∷ []) y.0))

pub list_more : (A : Type 0) (item : List Terminal → Reading A) (between close : Operator) (ts : List Terminal) (done new : List (A × Option Span)) (rest after : List Terminal) (x : A) (m : Span × List Terminal) → ListSoFar A item between close ts done rest → None ≡ mark_at close rest → item rest ≡ Ok (x, after) → length after ≤ length rest → Some m ≡ mark_at between after → new ≡ done ++ ((x, Some m.0) ∷ []) → ListSoFar A item between close ts new m.1
list_more A item between close ts done new rest after x m so free e less at is =
    let second = mark_shorter between after m (sym at) in
    let k = so.turns in
    let go = list_go item between close (k - 1) in
    record { turns = k - 1; enough = omega (arith, so.enough); same = so.same ∙ ap (with_front done) (turn_is A item between close k rest after x (omega (arith, so.enough)) free e ∙ ap (more_by go close x after) (sym at)) ∙ fuse done (x, Some m.0) (go m.1) ∙ ap (λ d. with_front d (go m.1)) (sym is) }

pub list_turn_shorter : (between : Operator) (rest after : List Terminal) (m : Span × List Terminal) → length after ≤ length rest → Some m ≡ mark_at between after → length m.1 < length rest
list_turn_shorter between rest after m less at = omega (arith, mark_shorter between after m (sym at))

pub list_fails : (A : Type 0) (item : List Terminal → Reading A) (between close : Operator) (ts : List Terminal) (done : List (A × Option Span)) (rest : List Terminal) (e : Stop) → ListSoFar A item between close ts done rest → None ≡ mark_at close rest → Fails e (item rest) → Fails e (list_all item between close ts)
list_fails A item between close ts done rest e so free failed =
    fails_along (item rest) (list_all item between close ts) e (λ f g. so.same ∙ ap (with_front done) (turn_err A item between close so.turns rest f (omega (arith, so.enough)) free g)) failed

pub list_end : (A : Type 0) (item : List Terminal → Reading A) (between close : Operator) (ts : List Terminal) (done : List (A × Option Span)) (rest : List Terminal) (m : Span × List Terminal) → ListSoFar A item between close ts done rest → mark_at close rest ≡ Some m → list_all item between close ts ≡ Ok (done, rest)
list_end A item between close ts done rest m so at =
    so.same ∙ ap (with_front done) (turn_end A item between close so.turns rest m (omega (arith, so.enough)) at) ∙ ap (λ l. Ok (l, rest)) (append-nil done)

pub list_missing : (A : Type 0) (item : List Terminal → Reading A) (between close : Operator) (ts : List Terminal) (done : List (A × Option Span)) (rest after : List Terminal) (x : A) → ListSoFar A item between close ts done rest → None ≡ mark_at close rest → item rest ≡ Ok (x, after) → None ≡ mark_at between after → None ≡ mark_at close after → list_all item between close ts ≡ Err Grammar
list_missing A item between close ts done rest after x so free e at closed =
    let go = list_go item between close (so.turns - 1) in
    so.same ∙ ap (with_front done) (turn_is A item between close so.turns rest after x (omega (arith, so.enough)) free e ∙ ap (more_by go close x after) (sym at) ∙ ap (last_by x after) (sym closed))

pub list_last : (A : Type 0) (item : List Terminal → Reading A) (between close : Operator) (ts : List Terminal) (done new : List (A × Option Span)) (rest after : List Terminal) (x : A) (m : Span × List Terminal) → ListSoFar A item between close ts done rest → None ≡ mark_at close rest → item rest ≡ Ok (x, after) → None ≡ mark_at between after → mark_at close after ≡ Some m → new ≡ done ++ ((x, None) ∷ []) → list_all item between close ts ≡ Ok (new, after)
list_last A item between close ts done new rest after x m so free e at closed is =
    let go = list_go item between close (so.turns - 1) in
    so.same ∙ ap (with_front done) (turn_is A item between close so.turns rest after x (omega (arith, so.enough)) free e ∙ ap (more_by go close x after) (sym at) ∙ ap (last_by x after) closed) ∙ ap (λ l. Ok (l, after)) (sym is)

-- the same, where an item is read with the mark behind it

end_left : (close : Operator) (ts : List Terminal) (o : MarkAhead) (s : Option Span × List Terminal) → end_by ts o ≡ Ok s → (None, ts) ≡ s
end_left close ts None s e = cc
end_left close ts (Some z) s e = cc

mark_left : (close : Operator) (ts : List Terminal) (between : Operator) (o : MarkAhead) (s : Option Span × List Terminal) → mark_at between ts ≡ o → mark_by close ts o ≡ Ok s → length s.1 ≤ length ts
mark_left close ts between None s at e = omega (arith, ap (λ (s : Option Span × List Terminal). length s.1) (end_left close ts (mark_at close ts) s e))
mark_left close ts between (Some m) s at e =
    let same : (Some m.0, m.1) ≡ s = cc in
    omega (arith, mark_shorter between ts m at, ap (λ (s : Option Span × List Terminal). length s.1) same)

-- what was read before the mark that follows
record ReadBefore (A : Type 0) (between close : Operator) (r : Reading A) (x : (A × Option Span) × List Terminal) : Type 0 where
  mid : List Terminal
  item : r ≡ Ok (x.0.0, mid)
  mark : mark_or_end between close mid ≡ Ok (x.0.1, x.1)

then_mark_ok : (A : Type 0) (between close : Operator) (r : Reading A) (x : (A × Option Span) × List Terminal) → then_mark between close r ≡ Ok x → ReadBefore A between close r x
then_mark_ok A between close (Err f) x e = cc
then_mark_ok A between close (Ok y) x e =
    let w = bind_ok (mark_or_end between close y.1) (λ s. Ok ((y.0, s.0), s.1)) x e in
    let same : ((y.0, w.0.0), w.0.1) ≡ x = cc (w.2) in
    subst (ReadBefore A between close (Ok y)) same (record { mid = y.1; item = refl; mark = w.1 })

step_end : (A : Type 0) (item : List Terminal → Reading A) (between close : Operator) (k : ℕ) (mid : List Terminal) (y : A) → 0 < k → (o : MarkAhead) → mark_at close mid ≡ o → (s : Option Span × List Terminal) → end_by mid o ≡ Ok s → last_by y mid o ≡ (list_go item between close k s.1 >>= λ z. Ok ((y, s.0) ∷ z.0, z.1))
step_end A item between close k mid y some None at s e = cc
step_end A item between close k mid y some (Some m) at s e =
    let same : (None, mid) ≡ s = cc in
    ap (λ r. r >>= λ z. Ok ((y, None) ∷ z.0, z.1)) (sym (turn_end A item between close k mid m some at)) ∙ ap (λ (s : Option Span × List Terminal). list_go item between close k s.1 >>= λ z. Ok ((y, s.0) ∷ z.0, z.1)) same

step_go : (A : Type 0) (item : List Terminal → Reading A) (between close : Operator) (k : ℕ) (mid : List Terminal) (y : A) → 0 < k → (o : MarkAhead) → (s : Option Span × List Terminal) → mark_by close mid o ≡ Ok s → more_by (list_go item between close k) close y mid o ≡ (list_go item between close k s.1 >>= λ z. Ok ((y, s.0) ∷ z.0, z.1))
step_go A item between close k mid y some None s e = step_end A item between close k mid y some (mark_at close mid) refl s e
step_go A item between close k mid y some (Some m) s e =
    let same : (Some m.0, m.1) ≡ s = cc in
    ap (λ (s : Option Span × List Terminal). list_go item between close k s.1 >>= λ z. Ok ((y, s.0) ∷ z.0, z.1)) same

-- no item is read from nothing
abbrev pub Takes : {A : Type 0} → (List Terminal → Reading A) → List Terminal → Type 0
Takes {A} item ts = (after : List Terminal) (x : A) → item ts ≡ Ok (x, after) → length after < length ts

pub list_step_shorter : (A : Type 0) (item : List Terminal → Reading A) (between close : Operator) (rest after : List Terminal) (x : A × Option Span) → Takes item rest → then_mark between close (item rest) ≡ Ok (x, after) → length after < length rest
list_step_shorter A item between close rest after x takes e =
    let w = then_mark_ok A between close (item rest) (x, after) e in
    omega (arith, takes w.mid x.0 w.item, mark_left close w.mid between (mark_at between w.mid) (x.1, after) refl w.mark)

pub list_step : (A : Type 0) (item : List Terminal → Reading A) (between close : Operator) (ts : List Terminal) (done new : List (A × Option Span)) (rest after : List Terminal) (x : A × Option Span) → ListSoFar A item between close ts done rest → None ≡ mark_at close rest → Takes item rest → then_mark between close (item rest) ≡ Ok (x, after) → new ≡ done ++ (x ∷ []) → ListSoFar A item between close ts new after
list_step A item between close ts done new rest after x so free takes e is =
    let w = then_mark_ok A between close (item rest) (x, after) e in
    let shorter = list_step_shorter A item between close rest after x takes e in
    let mid = w.mid in
    let less = takes mid x.0 w.item in
    let k = so.turns in
    let go = list_go item between close (k - 1) in
    let step = turn_is A item between close k rest mid x.0 (omega (arith, so.enough)) free w.item ∙ step_go A item between close (k - 1) mid x.0 (omega (arith, so.enough, less)) (mark_at between mid) (x.1, after) w.mark in
    record { turns = k - 1; enough = omega (arith, so.enough, shorter); same = so.same ∙ ap (with_front done) step ∙ fuse done x (go after) ∙ ap (λ d. with_front d (go after)) (sym is) }

step_err : (A : Type 0) (item : List Terminal → Reading A) (between close : Operator) (k : ℕ) (rest : List Terminal) (f : Stuck) → 0 < k → None ≡ mark_at close rest → then_mark between close (item rest) ≡ Err f → list_go item between close k rest ≡ Err f
step_err A item between close k rest f some free e = by (item rest) refl e
  where
    go : List Terminal → Reading (List (A × Option Span))
    go = list_go item between close (k - 1)

    ends : (y : A) (mid : List Terminal) (o : MarkAhead) → with_mark y (end_by mid o) ≡ Err f → last_by y mid o ≡ Err f
    ends y mid None e = let same : Grammar ≡ f = cc in ap Err same
    ends y mid (Some z) e = cc

    goes : (y : A) (mid : List Terminal) (o : MarkAhead) → with_mark y (mark_by close mid o) ≡ Err f → more_by go close y mid o ≡ Err f
    goes y mid None e = ends y mid (mark_at close mid) e
    goes y mid (Some m) e = cc

    by : (r : Reading A) → item rest ≡ r → then_mark between close r ≡ Err f → list_go item between close k rest ≡ Err f
    by (Err d) at e = let same : d ≡ f = cc in turn_err A item between close k rest d some free at ∙ ap Err same
    by (Ok y) at e = turn_is A item between close k rest y.1 y.0 some free at ∙ goes y.0 y.1 (mark_at between y.1) e

pub list_step_fails : (A : Type 0) (item : List Terminal → Reading A) (between close : Operator) (ts : List Terminal) (done : List (A × Option Span)) (rest : List Terminal) (e : Stop) → ListSoFar A item between close ts done rest → None ≡ mark_at close rest → Fails e (then_mark between close (item rest)) → Fails e (list_all item between close ts)
list_step_fails A item between close ts done rest e so free failed =
    fails_along (then_mark between close (item rest)) (list_all item between close ts) e (λ f g. so.same ∙ ap (with_front done) (step_err A item between close so.turns rest f (omega (arith, so.enough)) free g)) failed
