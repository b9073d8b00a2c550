-- Which needs lead back, by the ranks of a graph.
use Rattle.std.proofs.Common.{◌≡◌, ℕ, zero, suc, ◌+◌, ◌<◌, ◌≤◌, Bool, true, false, ◌&&◌, ◌||◌, ◌==◌, inl, inr, List, [], ◌∷◌, ◌++◌, map, length, get_or, drop, refl, sym, ap, ◌∙◌, subst, arith, append_assoc}
use Rattle.std.specs.Prelude.{Option, Some, None, Result, Ok, Err, IfOk, Vec, Contains, All, slice_index_or, slice_get, ◌↔◌}
use Rattle.std.specs.declared.alloc.Global.{Global}
use Rattle.std.specs.List.{list_any}
use Rattle.std.proofs.lemmas.Bool.{cases_lt, both_ways, eqb-true, eq-eqb}
use Rattle.std.proofs.lemmas.List.{drop_more, get_or_past}
use Rattle.std.proofs.lemmas.List.Elements.{All-contains}
use Rattle.go_digraph_core.specs.declared.cycle.edge.Edge.{Edge}
use Rattle.go_digraph_core.specs.cycle.Cycle as cycle
use Rattle.go_digraph_core.specs.cycle.Cycle.{IsRanked, IsRanking, IsOnCycle, Reaches}
use Rattle.go_digraph_core.specs.needs.Needs.{needed, NeedsLead, NeedsAreInside, edges_from}
use Rattle.go_digraph_core.proofs.NeedsEdges.{edge, need_edge, path_of}
use Rattle.go_digraph_core.proofs.CycleWalks.{leads_back}
use Rattle.go_value_core.specs.Around.{LeadsBack, AreLeadingBack}
use Rattle.go_value_core.specs.mirrors.Flags.{has_own_rank, flags_from}

-- a test of some element

found_first : (f : ℕ → Bool) (x : ℕ) (row : List ℕ) (t : Bool) → f x ≡ t → (list_any f row ≡ true → (b : ℕ) × Contains row b × (f b ≡ true)) → list_any f (x ∷ row) ≡ true → (b : ℕ) × Contains (x ∷ row) b × (f b ≡ true)
found_first f x row true e later h = (let pos : 0 < length (x ∷ row) = omega arith in (x, (0, pos, refl), e))
found_first f x row false e later h =
    let r = later (sym (ap (λ t. t || list_any f row) e) ∙ h) in
    let lt : suc r.1.0 < length (x ∷ row) = omega (arith, r.1.1) in
    (r.0, (suc r.1.0, lt, r.1.2), r.2)

any_of : (f : ℕ → Bool) (row : List ℕ) → list_any f row ≡ true → (b : ℕ) × Contains row b × (f b ≡ true)
any_of f [] h = absurd (both_ways (list_any f []) refl h)
any_of f (x ∷ row) h = found_first f x row (f x) refl (λ k. any_of f row k) h

any_has : (f : ℕ → Bool) (row : List ℕ) (b : ℕ) (i : ℕ) → i < length row → get_or row i b ≡ b → f b ≡ true → list_any f row ≡ true
any_has f [] b i lt is h = absurd (omega (arith, lt))
any_has f (x ∷ row) b zero lt is h = ap (λ y. f y || list_any f row) is ∙ ap (λ t. t || list_any f row) h
any_has f (x ∷ row) b (suc i) lt is h = ap (λ t. f x || t) (any_has f row b i (omega (arith, lt)) is h) ∙ right (f x)
  where
    right : (t : Bool) → (t || true) ≡ true
    right true = refl
    right false = refl

-- a path is a list of edges

edges_along : (rows : List (List ℕ)) (path : List ℕ) (a b : ℕ) → NeedsLead rows a path b → (es : List Edge) × cycle.Leads (edges_from 0 rows) es a b
edges_along rows [] a b h = ([], h)
edges_along rows (c ∷ path) a b h =
    let rest = edges_along rows path c b h.1 in
    (edge a c ∷ rest.0, (need_edge rows a c h.0, refl, rest.1))

module _ (rows : List (List ℕ)) (ranks : List ℕ) (ranking : IsRanking (edges_from 0 rows) ranks) where
  ranked : (a b : ℕ) → Contains (needed rows a) b → IsRanked (edges_from 0 rows) ranks (edge a b)
  ranked a b has = All-contains (IsRanked (edges_from 0 rows) ranks) (edges_from 0 rows) (edge a b) ranking (need_edge rows a b has)

  leads_to : (a : ℕ) → has_own_rank ranks a (needed rows a) ≡ true → LeadsBack rows a
  leads_to a h =
      let r = any_of (λ b. get_or ranks b 0 == get_or ranks a 0) (needed rows a) h in
      let same : get_or ranks r.0 0 ≡ get_or ranks a 0 = eqb-true (get_or ranks r.0 0) (get_or ranks a 0) r.2 in
      let back = leads_back (edges_from 0 rows) (edge a r.0) ((ranked a r.0 r.1).1.0 same) in
      let path = path_of rows back.0 r.0 a back.1 in
      record { first = r.0; around = path.0; back = (r.1, path.1) }

  leads_from : (a : ℕ) → LeadsBack rows a → has_own_rank ranks a (needed rows a) ≡ true
  leads_from a l =
      let on : IsOnCycle (edges_from 0 rows) (edge a l.first) = inr (edges_along rows l.around l.first a l.back.1) in
      let same : get_or ranks l.first 0 ≡ get_or ranks a 0 = (ranked a l.first l.back.0).1.1 on in
      any_has (λ b. get_or ranks b 0 == get_or ranks a 0) (needed rows a) l.first l.back.0.0 l.back.0.1 l.back.0.2 (eq-eqb (get_or ranks l.first 0) (get_or ranks a 0) same)

flag_at : (ranks : List ℕ) (k : ℕ) (rows : List (List ℕ)) (i : ℕ) → get_or (flags_from ranks k rows) i false ≡ has_own_rank ranks (k + i) (needed rows i)
flag_at ranks k [] i = refl
flag_at ranks k (row ∷ rows) zero = (let q : k ≡ k + 0 = omega arith in ap (λ n. has_own_rank ranks n row) q)
flag_at ranks k (row ∷ rows) (suc i) = (let q : suc k + i ≡ k + suc i = omega arith in flag_at ranks (suc k) rows i ∙ ap (λ n. has_own_rank ranks n (needed rows i)) q)

flags_counted : (ranks : List ℕ) (k : ℕ) (rows : List (List ℕ)) → length (flags_from ranks k rows) ≡ length rows
flags_counted ranks k [] = refl
flags_counted ranks k (row ∷ rows) = ap suc (flags_counted ranks (suc k) rows)

from_first : (ranks : List ℕ) (rows : List (List ℕ)) (i : ℕ) → get_or (flags_from ranks 0 rows) i false ≡ has_own_rank ranks i (needed rows i)
from_first ranks rows i = (let q : 0 + i ≡ i = omega arith in flag_at ranks 0 rows i ∙ ap (λ n. has_own_rank ranks n (needed rows i)) q)

pub all_flagged : (rows : List (List ℕ)) (ranks : List ℕ) (flags : List Bool) → IsRanking (edges_from 0 rows) ranks → flags ≡ flags_from ranks 0 rows → AreLeadingBack rows flags
all_flagged rows ranks flags ranking is =
    subst (AreLeadingBack rows) (sym is) (record {
      as_many = flags_counted ranks 0 rows;
      each = λ a. (λ h. leads_to rows ranks ranking a (sym (from_first ranks rows a) ∙ h), λ l. from_first ranks rows a ∙ leads_from rows ranks ranking a l);
    })

-- what the code answers
pub flagged_from : {E : Type 0} (rows : List (List ℕ)) (ranks read : List ℕ) (r : Result (Vec Bool Global) E) → IsRanking (edges_from 0 rows) ranks → read ≡ ranks
    → IfOk r (λ flags. flags.items ≡ flags_from read 0 rows) → IfOk r (λ flags. AreLeadingBack rows flags.items)
flagged_from rows ranks read (Ok flags) ranking is h = all_flagged rows ranks flags.items ranking (h ∙ ap (λ l. flags_from l 0 rows) is)
flagged_from rows ranks read (Err e) ranking is h = tt
