-- Reading finds the lists that are spelled, and no others, given that it does so for their items.
use Rattle.std.proofs.Common.{◌≡◌, ℕ, zero, suc, ◌+◌, ◌<◌, ◌≤◌, max, false, List, [], ◌∷◌, ◌++◌, length, Option, Some, None, Ok, refl, sym, ap, ◌∙◌, subst, arith, inl, append_assoc, length-append}
use Rattle.go_tree_nodes.specs.text_core.declared.span.Span.{Span}
use Rattle.go_tree_nodes.specs.token_core.declared.kind.Operator.{Operator}
use Rattle.go_tree_nodes.specs.token_core.declared.kind.Operator.TheVariants as operator
use Rattle.go_tree_nodes.specs.declared.names.Ident.{Ident}
use Rattle.go_tree_nodes.specs.Terminals.{Terminal}
use Rattle.go_tree_nodes.specs.Trees.{Separated, One, Then}
use Rattle.go_tree_nodes.specs.Spelling.{mark, spell_ident, spell_idents, spell_some, spell_specs_of}
use Rattle.go_tree_nodes.specs.Rules.{Wf_group}
use Rattle.go_tree_nodes.specs.Heights.{group_height}
use Rattle.go_parse_reader.specs.types.mirrors.Marks.{◌>>=◌, Reading, MarkAhead, need, same_operator, mark_at, name_at, last_by, more_by, list_by, list_go, idents_more, idents_go}
use Rattle.go_parse_reader.proofs.TypesMarks.{mark_was, mark_here, mark_not, name_was, bind_ok, need_ok, AgreesAt, bind_agrees, agrees_along}

-- what a list writes
abbrev pub spell_list : {A : Type 0} → (A → List Terminal) → Operator → List (A × Option Span) → List Terminal
spell_list f between [] = []
spell_list f between (x ∷ xs) = f x.0 ++ (spell_some between x.1 ++ spell_list f between xs)

pub list_spelled : {A : Type 0} (f : A → List Terminal) (xs : List (A × Option Span)) → spell_list f operator.Semicolon xs ≡ spell_specs_of f xs
list_spelled f [] = refl
list_spelled f (x ∷ xs) = ap (λ l. f x.0 ++ (spell_some operator.Semicolon x.1 ++ l)) (list_spelled f xs)

-- Completeness.

-- an item is found before the mark that may stand behind it, and before the closing one
pub record FoundItem (A : Type 0) (item : List Terminal → Reading A) (spelled : A → List Terminal) (between close : Operator) (b h : ℕ) (x : A) : Type 0 where
  pub before_mark : (s : Span) (ts : List Terminal) → AgreesAt (item (spelled x ++ (mark between s ∷ ts))) (Ok (x, mark between s ∷ ts)) b h
  pub before_end : (z : Span) (ts : List Terminal) → AgreesAt (item (spelled x ++ (mark close z ∷ ts))) (Ok (x, mark close z ∷ ts)) b h
  pub opens : (ts : List Terminal) → mark_at close (spelled x ++ ts) ≡ None

list_turn : (A : Type 0) (item : List Terminal → Reading A) (spelled : A → List Terminal) (between close : Operator) (k : ℕ) (x : A) (ts after : List Terminal) → ts ≡ spelled x ++ after → mark_at close (spelled x ++ after) ≡ None → list_go item between close (suc k) ts ≡ (item (spelled x ++ after) >>= λ x. more_by (list_go item between close k) close x.0 x.1 (mark_at between x.1))
unfolding list_go
list_turn A item spelled between close k x ts after is free =
    ap (λ ts. list_by item (list_go item between close k) between close ts (mark_at close ts)) is
    ∙ ap (list_by item (list_go item between close k) between close (spelled x ++ after)) free

-- each list that is spelled before the closing mark is read, in more turns than it has items, unless an item is too high
pub list_found : (A : Type 0) (item : List Terminal → Reading A) (spelled : A → List Terminal) (between close : Operator) (b : ℕ) (high : A → ℕ) (P : A → Type 0) → same_operator close between ≡ false → ((x : A) → P x → FoundItem A item spelled between close b (high x) x) → (xs : List (A × Option Span)) (k : ℕ) (z : Span) (after : List Terminal) → Wf_group P xs → length xs < k → AgreesAt (list_go item between close k (spell_list spelled between xs ++ (mark close z ∷ after))) (Ok (xs, mark close z ∷ after)) b (group_height high xs)
unfolding list_go
list_found A item spelled between close b high P other found xs zero z after wf enough = absurd (omega arith)
list_found A item spelled between close b high P other found [] (suc k) z after wf enough =
    inl (ap (list_by item (list_go item between close k) between close (mark close z ∷ after)) (mark_here close z after))
list_found A item spelled between close b high P other found ((x, None) ∷ (y ∷ ys)) (suc k) z after wf enough = absurd wf.1
list_found A item spelled between close b high P other found ((x, None) ∷ []) (suc k) z after wf enough =
    let end = mark close z ∷ after in
    let go = λ (x : A × List Terminal). more_by (list_go item between close k) close x.0 x.1 (mark_at between x.1) in
    let one = found x wf.0 in
    let last : go (x, end) ≡ Ok ((x, None) ∷ [], end) =
    ap (more_by (list_go item between close k) close x end) (mark_not between close z after other) ∙ ap (last_by x end) (mark_here close z after) in
    agrees_along _ _ _ b (max (high x) 0) (list_turn A item spelled between close k x _ end (append_assoc (spelled x) [] end) (one.opens end))
    (bind_agrees (item (spelled x ++ end)) (x, end) go (Ok ((x, None) ∷ [], end)) b (high x) b (max (high x) 0) (one.before_end z after) (inl last) (λ h. omega arith))
list_found A item spelled between close b high P other found ((x, Some s) ∷ xs) (suc k) z after wf enough =
    let end = mark close z ∷ after in
    let ts = spell_list spelled between xs ++ end in
    let behind = mark between s ∷ ts in
    let h = max (high x) (group_height high xs) in
    let one = found x wf.0 in
    let more = list_go item between close k in
    let go = λ (x : A × List Terminal). more_by more close x.0 x.1 (mark_at between x.1) in
    let next = bind_agrees (more ts) (xs, end) (λ y. Ok ((x, Some s) ∷ y.0, y.1)) (Ok ((x, Some s) ∷ xs, end)) b (group_height high xs) b h
    (list_found A item spelled between close b high P other found xs k z after wf.2 (omega arith)) (inl refl) (λ g. omega arith) in
    agrees_along _ _ _ b h (list_turn A item spelled between close k x _ behind (append_assoc (spelled x) (mark between s ∷ spell_list spelled between xs) end) (one.opens behind))
    (bind_agrees (item (spelled x ++ behind)) (x, behind) go (Ok ((x, Some s) ∷ xs, end)) b (high x) b h (one.before_mark s ts)
    (agrees_along (go (x, behind)) _ _ b h (ap (more_by more close x behind) (mark_here between s ts)) next)
    (λ g. omega arith))

-- a list is no longer than what it writes, where each item takes a terminal
pub list_le : {A : Type 0} (spelled : A → List Terminal) (between : Operator) → ((x : A) → 0 < length (spelled x)) → (xs : List (A × Option Span)) → length xs ≤ length (spell_list spelled between xs)
list_le spelled between some [] = omega arith
list_le spelled between some (x ∷ xs) =
    omega (arith, list_le spelled between some xs, some x.0, length-append (spelled x.0) (spell_some between x.1 ++ spell_list spelled between xs), length-append (spell_some between x.1) (spell_list spelled between xs))

-- so there are turns enough
pub list_complete : (A : Type 0) (item : List Terminal → Reading A) (spelled : A → List Terminal) (between close : Operator) (b : ℕ) (high : A → ℕ) (P : A → Type 0) → same_operator close between ≡ false → ((x : A) → P x → FoundItem A item spelled between close b (high x) x) → ((x : A) → 0 < length (spelled x)) → (xs : List (A × Option Span)) (z : Span) (after : List Terminal) → Wf_group P xs → AgreesAt (list_go item between close (suc (length (spell_list spelled between xs ++ (mark close z ∷ after)))) (spell_list spelled between xs ++ (mark close z ∷ after))) (Ok (xs, mark close z ∷ after)) b (group_height high xs)
list_complete A item spelled between close b high P other found some xs z after wf =
    list_found A item spelled between close b high P other found xs (suc (length (spell_list spelled between xs ++ (mark close z ∷ after)))) z after wf
    (omega (arith, list_le spelled between some xs, length-append (spell_list spelled between xs) (mark close z ∷ after)))

-- Soundness.

pub record ReadsItem (A : Type 0) (spelled : A → List Terminal) (high : A → ℕ) (P : A → Type 0) (b : ℕ) (ts : List Terminal) (x : A × List Terminal) : Type 0 where
  pub spelled_as : ts ≡ spelled x.0 ++ x.1
  pub wf : P x.0
  pub low : high x.0 ≤ b

pub record ReadsList (A : Type 0) (spelled : A → List Terminal) (between : Operator) (high : A → ℕ) (P : A → Type 0) (b : ℕ) (ts : List Terminal) (x : List (A × Option Span) × List Terminal) : Type 0 where
  pub spelled_as : ts ≡ spell_list spelled between x.0 ++ x.1
  pub wf : Wf_group P x.0
  pub low : group_height high x.0 ≤ b

-- a function that reads nothing but such items
abbrev pub ItemsRead : (A : Type 0) → (A → List Terminal) → (A → ℕ) → (A → Type 0) → ℕ → (List Terminal → Reading A) → Type 0
ItemsRead A spelled high P b item = (ts : List Terminal) (x : A × List Terminal) → item ts ≡ Ok x → ReadsItem A spelled high P b ts x

abbrev pub ListsRead : (A : Type 0) → (A → List Terminal) → Operator → (A → ℕ) → (A → Type 0) → ℕ → (List Terminal → Reading (List (A × Option Span))) → Type 0
ListsRead A spelled between high P b list = (ts : List Terminal) (x : List (A × Option Span) × List Terminal) → list ts ≡ Ok x → ReadsList A spelled between high P b ts x

last_reads : (A : Type 0) (spelled : A → List Terminal) (between : Operator) (high : A → ℕ) (P : A → Type 0) (b : ℕ) (ts : List Terminal) (x : A × List Terminal) → ReadsItem A spelled high P b ts x → (m : MarkAhead) (y : List (A × Option Span) × List Terminal) → last_by x.0 x.1 m ≡ Ok y → ReadsList A spelled between high P b ts y
last_reads A spelled between high P b ts x r None y e = cc
last_reads A spelled between high P b ts x r (Some z) y e =
    let same : ((x.0, None) ∷ [], x.1) ≡ y = cc in
    subst (ReadsList A spelled between high P b ts) same (record { spelled_as = r.spelled_as ∙ sym (append_assoc (spelled x.0) [] x.1); wf = (r.wf, tt, tt); low = omega (arith, r.low) })

more_reads : (A : Type 0) (spelled : A → List Terminal) (between close : Operator) (high : A → ℕ) (P : A → Type 0) (b : ℕ) (more : List Terminal → Reading (List (A × Option Span))) → ListsRead A spelled between high P b more → (ts : List Terminal) (x : A × List Terminal) → ReadsItem A spelled high P b ts x → (m : MarkAhead) → mark_at between x.1 ≡ m → (y : List (A × Option Span) × List Terminal) → more_by more close x.0 x.1 m ≡ Ok y → ReadsList A spelled between high P b ts y
more_reads A spelled between close high P b more ih ts x r None at y e = last_reads A spelled between high P b ts x r (mark_at close x.1) y e
more_reads A spelled between close high P b more ih ts x r (Some s) at y e =
    let w = bind_ok (more s.1) (λ y. Ok ((x.0, Some s.0) ∷ y.0, y.1)) y e in
    let q = ih s.1 w.0 w.1 in
    let same : ((x.0, Some s.0) ∷ w.0.0, w.0.1) ≡ y = cc (w.2) in
    let front = mark between s.0 in
    let path : ts ≡ (spelled x.0 ++ (front ∷ spell_list spelled between w.0.0)) ++ w.0.1 =
    r.spelled_as ∙ ap (λ l. spelled x.0 ++ l) (mark_was between x.1 s at ∙ ap (λ l. front ∷ l) q.spelled_as) ∙ sym (append_assoc (spelled x.0) (front ∷ spell_list spelled between w.0.0) w.0.1) in
    subst (ReadsList A spelled between high P b ts) same (record { spelled_as = path; wf = (r.wf, tt, q.wf); low = omega (arith, r.low, q.low) })

list_by_reads : (A : Type 0) (item : List Terminal → Reading A) (spelled : A → List Terminal) (between close : Operator) (high : A → ℕ) (P : A → Type 0) (b : ℕ) → ItemsRead A spelled high P b item → (more : List Terminal → Reading (List (A × Option Span))) → ListsRead A spelled between high P b more → (ts : List Terminal) (m : MarkAhead) (y : List (A × Option Span) × List Terminal) → list_by item more between close ts m ≡ Ok y → ReadsList A spelled between high P b ts y
list_by_reads A item spelled between close high P b ih more next ts (Some z) y e =
    let same : ([], ts) ≡ y = cc in
    subst (ReadsList A spelled between high P b ts) same (record { spelled_as = refl; wf = tt; low = omega arith })
list_by_reads A item spelled between close high P b ih more next ts None y e =
    let w = bind_ok (item ts) (λ x. more_by more close x.0 x.1 (mark_at between x.1)) y e in
    more_reads A spelled between close high P b more next ts w.0 (ih ts w.0 w.1) (mark_at between w.0.1) refl y w.2

-- a list that is read is spelled in front
pub list_sound : (A : Type 0) (item : List Terminal → Reading A) (spelled : A → List Terminal) (between close : Operator) (high : A → ℕ) (P : A → Type 0) (b : ℕ) → ItemsRead A spelled high P b item → (k : ℕ) → ListsRead A spelled between high P b (list_go item between close k)
unfolding list_go
list_sound A item spelled between close high P b ih zero ts y e = cc
list_sound A item spelled between close high P b ih (suc k) ts y e =
    list_by_reads A item spelled between close high P b ih (list_go item between close k) (list_sound A item spelled between close high P b ih k) ts (mark_at close ts) y e

-- Names with commas between them.

abbrev count : Separated Ident → ℕ
count (One x) = 0
count (Then x comma more) = count more + 1

count_lt : (xs : Separated Ident) → count xs < length (spell_idents xs)
count_lt (One x) = omega arith
count_lt (Then x comma more) = omega (arith, count_lt more)

-- names take a terminal
pub idents_some : (xs : Separated Ident) → 0 < length (spell_idents xs)
idents_some (One x) = omega arith
idents_some (Then x comma more) = omega arith

idents_found : (xs : Separated Ident) (k : ℕ) (rest : List Terminal) → mark_at operator.Comma rest ≡ None → count xs < k → idents_go k (spell_idents xs ++ rest) ≡ Ok (xs, rest)
unfolding idents_go
idents_found xs zero rest free enough = absurd (omega arith)
idents_found (One x) (suc k) rest free enough = ap (idents_more (idents_go k) x rest) free
idents_found (Then x comma more) (suc k) rest free enough = ap (λ r. r >>= λ y. Ok (Then x comma y.0, y.1)) (idents_found more k rest free (omega arith))

pub idents_complete : (xs : Separated Ident) (rest : List Terminal) → mark_at operator.Comma rest ≡ None → idents_go (suc (length (spell_idents xs ++ rest))) (spell_idents xs ++ rest) ≡ Ok (xs, rest)
idents_complete xs rest free =
    idents_found xs (suc (length (spell_idents xs ++ rest))) rest free (omega (arith, count_lt xs, length-append (spell_idents xs) rest))

pub record ReadsIdents (ts : List Terminal) (x : Separated Ident × List Terminal) : Type 0 where
  pub spelled : ts ≡ spell_idents x.0 ++ x.1
  pub stops : mark_at operator.Comma x.1 ≡ None

idents_more_reads : (more : List Terminal → Reading (Separated Ident)) → ((ts : List Terminal) (x : Separated Ident × List Terminal) → more ts ≡ Ok x → ReadsIdents ts x) → (ts : List Terminal) (x : Ident × List Terminal) → ts ≡ spell_ident x.0 ∷ x.1 → (m : MarkAhead) → mark_at operator.Comma x.1 ≡ m → (y : Separated Ident × List Terminal) → idents_more more x.0 x.1 m ≡ Ok y → ReadsIdents ts y
idents_more_reads more ih ts x is None at y e =
    let same : (One x.0, x.1) ≡ y = cc in
    subst (ReadsIdents ts) same (record { spelled = is; stops = at })
idents_more_reads more ih ts x is (Some s) at y e =
    let w = bind_ok (more s.1) (λ y. Ok (Then x.0 s.0 y.0, y.1)) y e in
    let q = ih s.1 w.0 w.1 in
    let same : (Then x.0 s.0 w.0.0, w.0.1) ≡ y = cc (w.2) in
    subst (ReadsIdents ts) same (record { spelled = is ∙ ap (λ l. spell_ident x.0 ∷ l) (mark_was operator.Comma x.1 s at ∙ ap (λ l. mark operator.Comma s.0 ∷ l) q.spelled); stops = q.stops })

pub idents_sound : (k : ℕ) (ts : List Terminal) (y : Separated Ident × List Terminal) → idents_go k ts ≡ Ok y → ReadsIdents ts y
unfolding idents_go
idents_sound zero ts y e = cc
idents_sound (suc k) ts y e =
    let w = bind_ok (need (name_at ts)) (λ x. idents_more (idents_go k) x.0 x.1 (mark_at operator.Comma x.1)) y e in
    idents_more_reads (idents_go k) (idents_sound k) ts w.0 (name_was ts w.0 (need_ok (name_at ts) w.0 w.1)) (mark_at operator.Comma w.0.1) refl y w.2
