-- Rows of the ends of edges.
use Rattle.std.proofs.Common.{◌≡◌, ◌↔◌, ℕ, ◌<◌, inl, inr, List, [], ◌∷◌, ◌++◌, length, get_or, set, map, Vec, All, Contains, sym, ◌∙◌, ap, subst, arith}
use Rattle.std.specs.declared.alloc.Global.{Global}
use Rattle.std.proofs.lemmas.Bool.{cases_eq}
use Rattle.std.proofs.lemmas.List.{get_or-map, get_or-set_same, get_or-set_other, length-map, map-append, map-set}
use Rattle.std.proofs.lemmas.List.Elements.{All-contains, Contains-append_left, Contains-get_or, Contains-push, Contains-push_cases}
use Rattle.std.proofs.lemmas.Option.{get_or_from_slice_get}
use Rattle.go_digraph_core.specs.declared.cycle.edge.Edge.{Edge}
use Rattle.go_digraph_core.specs.cycle.Cycle.{InRange, reversed}
use Rattle.go_digraph_core.specs.cycle.mirrors.Search.{AreEmpty, row_at}
use Rattle.go_digraph_core.proofs.CyclePlaces.{none_in}
use Rattle.go_digraph_core.specs.reach.Reach.{AreStarts}
use Rattle.go_digraph_core.specs.reach.mirrors.Filling.{AreEnds}

abbrev pub edge : ℕ → ℕ → Edge
edge from to = record { from = from; to = to }

-- the row of an item
pub row_read : (rows : List (Vec ℕ Global)) (v : ℕ) (row : Vec ℕ Global) → v < length rows → row ≡ get_or rows v row → row_at rows v ≡ row.items
row_read rows v row lt q = get_or-map (λ r. r.items) rows v row [] lt ∙ ap (λ r. r.items) (sym q)

set_here : (rows : List (Vec ℕ Global)) (v : ℕ) (row : Vec ℕ Global) → v < length rows → row_at (set rows v row) v ≡ row.items
set_here rows v row lt = (let f : Vec ℕ Global → List ℕ = λ w. w.items in let lt' : v < length (map f rows) = omega (arith, length-map rows f, lt) in ap (λ l. get_or l v []) (map-set f rows v row) ∙ get_or-set_same (map f rows) v row.items [] lt')

set_other : (rows : List (Vec ℕ Global)) (u v : ℕ) (row : Vec ℕ Global) → (v ≡ u → ⊥) → row_at (set rows u row) v ≡ row_at rows v
set_other rows u v row ne = (let f : Vec ℕ Global → List ℕ = λ w. w.items in ap (λ l. get_or l v []) (map-set f rows u row) ∙ get_or-set_other (map f rows) u v row.items [] ne)

-- no edge, no end
pub ends_none : (rows : List (Vec ℕ Global)) → AreEmpty rows → AreEnds [] rows
ends_none rows empty v j = (
  (λ h. absurd (none_in j (let P : List ℕ → Type 0 = λ l. Contains l j in subst P (empty v) h))),
  (λ h. absurd (omega (arith, h.1))),
)

-- one edge more, and its end in the row of its start
pub ends_push : (g : List Edge) (e : Edge) (rows : List (Vec ℕ Global)) (row new : Vec ℕ Global) → e.from < length rows → row ≡ get_or rows e.from row → new.items ≡ row.items ++ e.to ∷ [] → AreEnds g rows → AreEnds (g ++ e ∷ []) (set rows e.from new)
ends_push g e rows row new lt read pushed old v j = elim (cases_eq v e.from) [
  | inl q ↦
      let P : List ℕ → Type 0 = λ l. Contains l j ↔ Contains (g ++ e ∷ []) (edge v j) in
      let before : row.items ≡ row_at rows v = sym (row_read rows e.from row lt read) ∙ ap (row_at rows) (sym q) in
      let here : row_at (set rows e.from new) v ≡ row_at rows v ++ e.to ∷ [] = ap (row_at (set rows e.from new)) q ∙ (set_here rows e.from new lt ∙ (pushed ∙ ap (λ l. l ++ e.to ∷ []) before)) in
      subst P (sym here) (
        (λ h. elim (Contains-push_cases (row_at rows v) e.to j h) [
          | inl m ↦ Contains-append_left g (e ∷ []) (edge v j) ((old v j).0 m)
          | inr is ↦ (let E : Edge → Type 0 = λ x. Contains (g ++ e ∷ []) x in let same : e ≡ edge v j = ap (λ t. edge e.from t) is ∙ ap (λ f. edge f j) (sym q) in subst E same (Contains-push g e))
        ]),
        (λ h. elim (Contains-push_cases g e (edge v j) h) [
          | inl m ↦ Contains-append_left (row_at rows v) (e.to ∷ []) j ((old v j).1 m)
          | inr is ↦ (let E : ℕ → Type 0 = λ x. Contains (row_at rows v ++ e.to ∷ []) x in subst E (ap (λ (x : Edge). x.to) is) (Contains-push (row_at rows v) e.to))
        ]),
      )
  | inr ne ↦
      let P : List ℕ → Type 0 = λ l. Contains l j ↔ Contains (g ++ e ∷ []) (edge v j) in
      subst P (sym (set_other rows e.from v new ne)) (
        (λ h. Contains-append_left g (e ∷ []) (edge v j) ((old v j).0 h)),
        (λ h. elim (Contains-push_cases g e (edge v j) h) [
          | inl m ↦ (old v j).1 m
          | inr is ↦ absurd (ne (ap (λ (x : Edge). x.from) (sym is)))
        ]),
      )
]

-- the ends of edges are in the range of the edges
pub row_below : (n : ℕ) (g : List Edge) (rows : List (Vec ℕ Global)) (v : ℕ) → InRange n g → AreEnds g rows → All (λ t. t < n) (row_at rows v)
row_below n g rows v within are k d lt = (let t : ℕ = get_or (row_at rows v) k d in (All-contains (λ (e : Edge). (e.from < n) × (e.to < n)) g (edge v t) within ((are v t).0 (Contains-get_or (row_at rows v) k d lt))).1)

-- the edges the other way

turned : (g : List Edge) (e : Edge) → Contains (map reversed g) e → Contains g (reversed e)
turned g e h =
    let lt : h.0 < length g = omega (arith, length-map g reversed, h.1) in
    let same : get_or (map reversed g) h.0 e ≡ reversed (get_or g h.0 (reversed e)) = get_or-map reversed g h.0 (reversed e) e lt in
    let back : reversed (get_or g h.0 (reversed e)) ≡ e = sym same ∙ h.2 in
    (h.0, lt, ap reversed back)

turns : (g : List Edge) (e : Edge) → Contains g e → Contains (map reversed g) (reversed e)
turns g e h = (h.0, omega (arith, length-map g reversed, h.1), get_or-map reversed g h.0 e (reversed e) h.1 ∙ ap reversed h.2)

-- one edge more, and its start in the row of its end
pub starts_push : (g : List Edge) (e : Edge) (rows : List (Vec ℕ Global)) (row new : Vec ℕ Global) → e.to < length rows → row ≡ get_or rows e.to row → new.items ≡ row.items ++ e.from ∷ [] → AreEnds (map reversed g) rows → AreEnds (map reversed (g ++ e ∷ [])) (set rows e.to new)
starts_push g e rows row new lt read pushed old =
    let P : List Edge → Type 0 = λ l. AreEnds l (set rows e.to new) in
    subst P (sym (map-append reversed g (e ∷ []))) (ends_push (map reversed g) (reversed e) rows row new lt read pushed old)

-- the ends of the edges the other way are the starts of the edges
pub are_starts : (g : List Edge) (rows : List (Vec ℕ Global)) → AreEnds (map reversed g) rows → AreStarts g (map (λ r. r.items) rows)
are_starts g rows are to row at from =
    let P : List ℕ → Type 0 = λ l. Contains l from ↔ Contains g (edge from to) in
    let same : row_at rows to ≡ row = get_or_from_slice_get (map (λ r. r.items) rows) to row [] at in
    let both = are to from in
    subst P same ((λ h. turned g (edge to from) (both.0 h)), (λ h. both.1 (turns g (edge from to) h)))
