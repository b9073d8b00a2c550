-- Places of edges, and rows of them.
use Rattle.std.proofs.Common.{◌≡◌, ℕ, ◌<◌, ◌+◌, inl, inr, ◌↔◌, cond, eqb, List, [], ◌∷◌, ◌++◌, length, get_or, set, map, All, sym, ◌∙◌, ap, subst, arith, suc, zero, Vec}
use Rattle.std.specs.List.{Contains, filter, range_with_len}
use Rattle.std.specs.declared.alloc.Global.{Global}
use Rattle.std.proofs.lemmas.List.{get_or-set_other, get_or-set_same, get_or-map, get_or_default, map-set, length-map, append-nil}
use Rattle.std.proofs.lemmas.List.Elements.{Contains-get_or, Contains-append_left, Contains-push, Contains-push_cases, filter-append}
use Rattle.std.proofs.lemmas.Bool.{cases_eq, cond-true, cond-false, eq-eqb, ne_eqb}
use Rattle.go_digraph_core.specs.declared.cycle.edge.Edge.{Edge}
use Rattle.go_digraph_core.specs.cycle.mirrors.Search.{edge_at, row_at, AreEmpty, AreRows}

pub edge_there : (g : List Edge) (k : ℕ) → k < length g → Contains g (edge_at g k)
edge_there g k lt = Contains-get_or g k (record { from = 0; to = 0 }) lt

pub edge_found : (g : List Edge) (e : Edge) (h : Contains g e) → edge_at g h.0 ≡ e
edge_found g e h = get_or_default g h.0 (record { from = 0; to = 0 }) e h.1 ∙ h.2

pub none_in : (k : ℕ) → Contains [] k → ⊥
none_in k h = absurd (omega (arith, h.1))

range_on : (a n : ℕ) → range_with_len a (suc n) ≡ range_with_len a n ++ (a + n) ∷ []
range_on a zero = (let e : a + 0 ≡ a = omega arith in ap (λ x. x ∷ []) (sym e))
range_on a (suc n) = (let e : (a + 1) + n ≡ a + suc n = omega arith in ap (λ l. a ∷ l) (range_on (a + 1) n ∙ ap (λ x. range_with_len (a + 1) n ++ x ∷ []) e))

-- one more number below a bound
pub range_more : (n : ℕ) → range_with_len 0 (n + 1) ≡ range_with_len 0 n ++ n ∷ []
range_more n = (let e : n + 1 ≡ suc n = omega arith in let f : 0 + n ≡ n = omega arith in ap (range_with_len 0) e ∙ (range_on 0 n ∙ ap (λ x. range_with_len 0 n ++ x ∷ []) f))

-- the places below a bound of the edges that start at a node, in order
abbrev pub places_below : List Edge → ℕ → ℕ → List ℕ
places_below g v i = filter (λ k. eqb (edge_at g k).from v) (range_with_len 0 i)

places_more : (g : List Edge) (v i : ℕ) → places_below g v (i + 1) ≡ places_below g v i ++ cond (eqb (edge_at g i).from v) (i ∷ []) []
places_more g v i = ap (filter (λ k. eqb (edge_at g k).from v)) (range_more i) ∙ filter-append (λ k. eqb (edge_at g k).from v) (range_with_len 0 i) (i ∷ [])

places_here : (g : List Edge) (v i : ℕ) → v ≡ (edge_at g i).from → places_below g v (i + 1) ≡ places_below g v i ++ i ∷ []
places_here g v i q = places_more g v i ∙ ap (λ l. places_below g v i ++ l) (cond-true (eqb (edge_at g i).from v) (i ∷ []) [] (eq-eqb (edge_at g i).from v (sym q)))

places_other : (g : List Edge) (v i : ℕ) → (v ≡ (edge_at g i).from → ⊥) → places_below g v (i + 1) ≡ places_below g v i
places_other g v i n = places_more g v i ∙ (ap (λ l. places_below g v i ++ l) (cond-false (eqb (edge_at g i).from v) (i ∷ []) [] (ne_eqb (edge_at g i).from v (λ q. n (sym q)))) ∙ append-nil (places_below g v i))

-- the places below a bound are those of the edges that start at the node
abbrev AreIn : List Edge → ℕ → ℕ → ℕ → List ℕ → Type 0
AreIn g v i k l = Contains l k ↔ ((k < i) × ((edge_at g k).from ≡ v))

in_here : (g : List Edge) (v i k : ℕ) (l : List ℕ) → v ≡ (edge_at g i).from → AreIn g v i k l → AreIn g v (i + 1) k (l ++ i ∷ [])
in_here g v i k l q old = (
  (λ h. elim (Contains-push_cases l i k h) [
    | inl m ↦ (let o = old.0 m in let lt : k < i + 1 = omega (arith, o.0) in (lt, o.1))
    | inr e ↦ (let lt : k < i + 1 = omega (arith, e) in let f : (edge_at g i).from ≡ (edge_at g k).from = ap (λ x. (edge_at g x).from) e in (lt, sym f ∙ sym q))
  ]),
  (λ h. elim (cases_eq k i) [
    | inl e ↦ (let Q : ℕ → Type 0 = λ x. Contains (l ++ i ∷ []) x in subst Q (sym e) (Contains-push l i))
    | inr n ↦ (let lt : k < i = omega (arith, h.0, n) in Contains-append_left l (i ∷ []) k (old.1 (lt, h.1)))
  ]),
)

in_other : (g : List Edge) (v i k : ℕ) (l : List ℕ) → (v ≡ (edge_at g i).from → ⊥) → AreIn g v i k l → AreIn g v (i + 1) k l
in_other g v i k l n old = (
  (λ h. (let o = old.0 h in let lt : k < i + 1 = omega (arith, o.0) in (lt, o.1))),
  (λ h. old.1 (elim (cases_eq k i) [
    | inl e ↦ absurd (n (sym h.1 ∙ ap (λ x. (edge_at g x).from) e))
    | inr m ↦ (let lt : k < i = omega (arith, h.0, m) in (lt, h.1))
  ])),
)

in_places : (g : List Edge) (v k i : ℕ) → AreIn g v i k (places_below g v i)
in_places g v k zero = ((λ h. absurd (none_in k h)), (λ h. absurd (omega (arith, h.0))))
in_places g v k (suc i) =
    let e : i + 1 ≡ suc i = omega arith in
    let N : ℕ → Type 0 = λ n. AreIn g v n k (places_below g v n) in
    let P : List ℕ → Type 0 = λ l. AreIn g v (i + 1) k l in
    subst N e (elim (cases_eq v (edge_at g i).from) [
      | inl q ↦ subst P (sym (places_here g v i q)) (in_here g v i k (places_below g v i) q (in_places g v k i))
      | inr n ↦ subst P (sym (places_other g v i n)) (in_other g v i k (places_below g v i) n (in_places g v k i))
    ])

-- what a row holds are the places of the edges that start at its node
pub in_row : (g : List Edge) (rows : List (Vec ℕ Global)) → AreRows g rows → (v k : ℕ) → Contains (row_at rows v) k ↔ ((k < length g) × ((edge_at g k).from ≡ v))
in_row g rows are v k = (let P : List ℕ → Type 0 = λ l. AreIn g v (length g) k l in subst P (sym (are v)) (in_places g v k (length g)))

pub row_in_range : (g : List Edge) (rows : List (Vec ℕ Global)) (v : ℕ) → AreRows g rows → All (λ k. k < length g) (row_at rows v)
row_in_range g rows v are k d lt = ((in_row g rows are v (get_or (row_at rows v) k d)).0 (Contains-get_or (row_at rows v) k d lt)).0

-- rows with an empty one more
push_empty : (rows : List (Vec ℕ Global)) (row : Vec ℕ Global) (v : ℕ) → row.items ≡ [] → row_at rows v ≡ [] → row_at (rows ++ row ∷ []) v ≡ []
push_empty [] row zero e h = e
push_empty [] row (suc v) e h = h
push_empty (r ∷ rows) row zero e h = h
push_empty (r ∷ rows) row (suc v) e h = push_empty rows row v e h

pub empty_more : (rows new : List (Vec ℕ Global)) (row : Vec ℕ Global) → new ≡ rows ++ row ∷ [] → row.items ≡ [] → AreEmpty rows → AreEmpty new
empty_more rows new row pushed e h v = ap (λ l. row_at l v) pushed ∙ push_empty rows row v e (h v)

pub none_empty : (rows : List (Vec ℕ Global)) → rows ≡ [] → AreEmpty rows
none_empty rows e v = ap (λ l. row_at l v) e

-- rows, as far as the edges below a place have been put into them
abbrev pub AreRowsTo : List Edge → ℕ → List (Vec ℕ Global) → Type 0
AreRowsTo g i rows = (v : ℕ) → row_at rows v ≡ places_below g v i

-- one row with one more item
row_set_here : (rows : List (Vec ℕ Global)) (i v : ℕ) (r : Vec ℕ Global) → i < length rows → v ≡ i → row_at (set rows i r) v ≡ r.items
row_set_here rows i v r lt q =
    let f : Vec ℕ Global → List ℕ = λ w. w.items in
    let lt' : i < length (map f rows) = omega (arith, length-map rows f, lt) in
    let e : row_at (set rows i r) v ≡ get_or (set (map f rows) i r.items) v [] = ap (λ l. get_or l v []) (map-set f rows i r) in
    let s : get_or (set (map f rows) i r.items) i [] ≡ r.items = get_or-set_same (map f rows) i r.items [] lt' in
    e ∙ (ap (λ x. get_or (set (map f rows) i r.items) x []) q ∙ s)

row_set_other : (rows : List (Vec ℕ Global)) (i v : ℕ) (r : Vec ℕ Global) → (v ≡ i → ⊥) → row_at (set rows i r) v ≡ row_at rows v
row_set_other rows i v r n =
    let f : Vec ℕ Global → List ℕ = λ w. w.items in
    ap (λ l. get_or l v []) (map-set f rows i r) ∙ get_or-set_other (map f rows) i v r.items [] n

row_read : (rows : List (Vec ℕ Global)) (i : ℕ) (r : Vec ℕ Global) → i < length rows → r ≡ get_or rows i r → row_at rows i ≡ r.items
row_read rows i r lt q =
    let f : Vec ℕ Global → List ℕ = λ w. w.items in
    get_or-map f rows i r [] lt ∙ ap f (sym q)

-- rows after the place of one more edge went into the row of its start
pub rows_push : (g : List Edge) (i : ℕ) (rows : List (Vec ℕ Global)) (row new : Vec ℕ Global) → (edge_at g i).from < length rows → row ≡ get_or rows (edge_at g i).from row → new.items ≡ row.items ++ i ∷ [] → AreRowsTo g i rows → AreRowsTo g (i + 1) (set rows (edge_at g i).from new)
rows_push g i rows row new lt read pushed old v =
    let n : ℕ = (edge_at g i).from in
    elim (cases_eq v n) [
      | inl q ↦
          let before : row.items ≡ places_below g v i = sym (row_read rows n row lt read) ∙ (ap (λ x. row_at rows x) (sym q) ∙ old v) in
          row_set_here rows n v new lt q ∙ (pushed ∙ (ap (λ l. l ++ i ∷ []) before ∙ sym (places_here g v i q)))
      | inr ne ↦ row_set_other rows n v new ne ∙ (old v ∙ sym (places_other g v i ne))
    ]

-- rows after the last edge
pub rows_all : (g : List Edge) (i : ℕ) (rows : List (Vec ℕ Global)) → i ≡ length g → AreRowsTo g i rows → AreRows g rows
rows_all g i rows end h = (let P : ℕ → Type 0 = λ n. AreRowsTo g n rows in subst P end h)
