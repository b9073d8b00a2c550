-- The edges of a graph of needs, and paths along them.
use Rattle.std.proofs.Common.{◌≡◌, ℕ, zero, suc, ◌+◌, ◌<◌, inl, inr, List, [], ◌∷◌, length, get_or, All, refl, sym, ◌∙◌, ap, subst, arith}
use Rattle.std.specs.List.{Contains, range_with_len}
use Rattle.std.proofs.lemmas.Bool.{cases_lt}
use Rattle.std.proofs.lemmas.List.{get_or-map, length-map, get_or_past}
use Rattle.std.proofs.lemmas.List.Elements.{All-contains, All-contains_itself, All-weaker, Contains-append_left, Contains-append_right, Contains-append_cases, Contains-get_or}
use Rattle.std.proofs.lemmas.List.Sorted.{Contains-permutation, IsPermutation-sym}
use Rattle.std.specs.List.Sorted.{IsPermutation}
use Rattle.go_digraph_core.specs.declared.cycle.edge.Edge.{Edge}
use Rattle.go_digraph_core.specs.cycle.Cycle as cycle
use Rattle.go_digraph_core.specs.cycle.Cycle.{InRange, Reaches, IsOnCycle}
use Rattle.go_digraph_core.proofs.CycleWalks.{leads_back}
use Rattle.go_digraph_core.specs.needs.Needs.{NeedsAreInside, needed, NeedsLead, IsEndless, edges_at, edges_from}

abbrev pub edge : ℕ → ℕ → Edge
edge a b = record { from = a; to = b }

abbrev pub ends : Edge → ℕ
ends e = e.to

pub none_inside : {A : Type 0} (x : A) → Contains [] x → ⊥
none_inside x h = omega (arith, h.1)

-- edges from one node

at_row : (a : ℕ) (row : List ℕ) (b : ℕ) → Contains row b → Contains (edges_at a row) (edge a b)
at_row a row b h =
    let lt : h.0 < length (edges_at a row) = omega (arith, h.1, length-map row (λ c. edge a c)) in
    (h.0, lt, get_or-map (λ c. edge a c) row h.0 b (edge a b) h.1 ∙ ap (λ c. edge a c) h.2)

of_row : (a : ℕ) (row : List ℕ) (e : Edge) → Contains (edges_at a row) e → (e.from ≡ a) × Contains row e.to
of_row a row e h =
    let lt : h.0 < length row = omega (arith, h.1, length-map row (λ c. edge a c)) in
    let is : edge a (get_or row h.0 e.to) ≡ e = sym (get_or-map (λ c. edge a c) row h.0 e.to e lt) ∙ h.2 in
    (sym (ap (λ (x : Edge). x.from) is), (h.0, lt, ap ends is))

-- all edges

pub to_edge : (k : ℕ) (rows : List (List ℕ)) (i b : ℕ) → Contains (needed rows i) b → Contains (edges_from k rows) (edge (k + i) b)
to_edge k [] i b h = absurd (none_inside b h)
to_edge k (row ∷ rows) zero b h = (let q : k + 0 ≡ k = omega arith in Contains-append_left (edges_at k row) (edges_from (suc k) rows) (edge (k + 0) b) (subst (λ x. Contains (edges_at k row) (edge x b)) (sym q) (at_row k row b h)))
to_edge k (row ∷ rows) (suc i) b h =
    let q : suc k + i ≡ k + suc i = omega arith in
    Contains-append_right (edges_at k row) (edges_from (suc k) rows) (edge (k + suc i) b) (subst (λ x. Contains (edges_from (suc k) rows) (edge x b)) q (to_edge (suc k) rows i b h))

pub of_edge : (k : ℕ) (rows : List (List ℕ)) (e : Edge) → Contains (edges_from k rows) e → (i : ℕ) × (e.from ≡ k + i) × Contains (needed rows i) e.to
of_edge k [] e h = absurd (none_inside e h)
of_edge k (row ∷ rows) e h = elim (Contains-append_cases (edges_at k row) (edges_from (suc k) rows) e h) [
  | inl here ↦ (let r = of_row k row e here in let q : e.from ≡ k + 0 = omega (arith, r.0) in (0, q, r.1))
  | inr there ↦ (let r = of_edge (suc k) rows e there in let q : e.from ≡ k + suc r.0 = omega (arith, r.1) in (suc r.0, q, r.2))
]

-- from the first node on
pub edge_needs : (rows : List (List ℕ)) (e : Edge) → Contains (edges_from 0 rows) e → Contains (needed rows e.from) e.to
edge_needs rows e h =
    let r = of_edge 0 rows e h in
    let q : r.0 ≡ e.from = omega (arith, r.1) in
    subst (λ x. Contains (needed rows x) e.to) q r.2

pub need_edge : (rows : List (List ℕ)) (a b : ℕ) → Contains (needed rows a) b → Contains (edges_from 0 rows) (edge a b)
need_edge rows a b h = (let q : 0 + a ≡ a = omega arith in subst (λ x. Contains (edges_from 0 rows) (edge x b)) q (to_edge 0 rows a b h))

-- what needs is inside, and what is needed
pub needs_inside : (rows : List (List ℕ)) (a b : ℕ) → Contains (needed rows a) b → a < length rows
needs_inside rows a b h = elim (cases_lt a (length rows)) [
  | inl lt ↦ lt
  | inr past ↦ absurd (none_inside b (subst (λ l. Contains l b) (get_or_past rows a [] past) h))
]

pub needed_inside : (rows : List (List ℕ)) → NeedsAreInside rows → (a b : ℕ) → Contains (needed rows a) b → b < length rows
needed_inside rows all a b h = All-contains (λ x. x < length rows) (needed rows a) b (all a [] (needs_inside rows a b h)) h

pub row_inside : (rows : List (List ℕ)) → NeedsAreInside rows → (a : ℕ) → All (λ x. x < length rows) (needed rows a)
row_inside rows all a = All-weaker (Contains (needed rows a)) (λ x. x < length rows) (λ b has. needed_inside rows all a b has) (needed rows a) (All-contains_itself (needed rows a))

pub edges_inside : (rows : List (List ℕ)) → NeedsAreInside rows → InRange (length rows) (edges_from 0 rows)
edges_inside rows all = All-weaker (Contains (edges_from 0 rows)) (λ e. (e.from < length rows) × (e.to < length rows))
    (λ e has. (let n = edge_needs rows e has in (needs_inside rows e.from e.to n, needed_inside rows all e.from e.to n)))
    (edges_from 0 rows) (All-contains_itself (edges_from 0 rows))

-- a list of edges is a path
pub path_of : (rows : List (List ℕ)) (es : List Edge) (a b : ℕ) → cycle.Leads (edges_from 0 rows) es a b → (path : List ℕ) × NeedsLead rows a path b
path_of rows [] a b h = ([], h)
path_of rows (e ∷ es) a b h =
    let rest = path_of rows es e.to b h.2 in
    (e.to ∷ rest.0, (subst (λ x. Contains (needed rows x) e.to) h.1 (edge_needs rows e h.0), rest.1))

-- an edge on a cycle leads back
pub cycle_back : (rows : List (List ℕ)) (e : Edge) → Contains (edges_from 0 rows) e → IsOnCycle (edges_from 0 rows) e → IsEndless rows e.from
cycle_back rows e has on =
    let back = leads_back (edges_from 0 rows) e on in
    let p = path_of rows back.0 e.to e.from back.1 in
    record { node = e.from; path = []; leads = refl; first = e.to; around = p.0; back = (edge_needs rows e has, p.1) }

-- what needs what leads back leads back
pub back_before : (rows : List (List ℕ)) (a b : ℕ) → Contains (needed rows a) b → IsEndless rows b → IsEndless rows a
back_before rows a b h e = record { node = e.node; path = b ∷ e.path; leads = (h, e.leads); first = e.first; around = e.around; back = e.back }

pub one_inside : (x : ℕ) → Contains (x ∷ []) x
one_inside x = (let pos : 0 < length (x ∷ []) = omega arith in (0, pos, refl))

-- the numbers of a range
in_range : (a n k : ℕ) → k < n → Contains (range_with_len a n) (a + k)
in_range a zero k lt = absurd (omega (arith, lt))
in_range a (suc n) zero lt =
    let q : a + 0 ≡ a = omega arith in
    let first : Contains (range_with_len a (suc n)) a = Contains-append_left (a ∷ []) (range_with_len (a + 1) n) a (one_inside a) in
    subst (λ x. Contains (range_with_len a (suc n)) x) (sym q) first
in_range a (suc n) (suc k) lt =
    let lt' : k < n = omega (arith, lt) in
    let q : (a + 1) + k ≡ a + suc k = omega arith in
    Contains-append_right (a ∷ []) (range_with_len (a + 1) n) (a + suc k) (subst (λ x. Contains (range_with_len (a + 1) n) x) q (in_range (a + 1) n k lt'))

pub in_all : (n k : ℕ) → k < n → Contains (range_with_len 0 n) k
in_all n k lt = (let q : 0 + k ≡ k = omega arith in subst (λ x. Contains (range_with_len 0 n) x) q (in_range 0 n k lt))

of_range : (a n x : ℕ) → Contains (range_with_len a n) x → x < a + n
of_range a zero x h = absurd (none_inside x h)
of_range a (suc n) x h = elim (Contains-append_cases (a ∷ []) (range_with_len (a + 1) n) x h) [
  | inl here ↦ (let q : a ≡ x = one_of a x here in omega (arith, q))
  | inr there ↦ (let lt : x < (a + 1) + n = of_range (a + 1) n x there in omega (arith, lt))
]
  where
    one_of : (a x : ℕ) → Contains (a ∷ []) x → a ≡ x
    one_of a x h = (let q : h.0 ≡ 0 = omega (arith, h.1) in sym (ap (λ k. get_or (a ∷ []) k x) q) ∙ h.2)

-- what an order of the first numbers has is one of them
pub order_inside : (n : ℕ) (order : List ℕ) → IsPermutation (range_with_len 0 n) order → (i : ℕ) → i < length order → get_or order i 0 < n
order_inside n order each i lt =
    let has : Contains (range_with_len 0 n) (get_or order i 0) = Contains-permutation order (range_with_len 0 n) (get_or order i 0) (IsPermutation-sym (range_with_len 0 n) order each) (Contains-get_or order i 0 lt) in
    let lt' : get_or order i 0 < 0 + n = of_range 0 n (get_or order i 0) has in
    omega (arith, lt')
