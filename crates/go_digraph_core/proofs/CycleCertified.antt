-- What marks, roots and ranks that hold together show.
use Rattle.std.proofs.Common.{◌≡◌, ℕ, ◌<◌, ◌≤◌, ◌⊎◌, inl, inr, ◌&&◌, ltb, eqb, Bool, true, false, List, [], ◌∷◌, length, fold, replicate, get_or, set, map, All, sym, ◌∙◌, subst, arith}
use Rattle.std.specs.List.{Contains}
use Rattle.std.proofs.lemmas.Bool.{and_parts, or_cases, cond_both, cases_lt, eqb-true, ltb-true}
use Rattle.std.proofs.lemmas.List.{get_or-replicate, get_or_past, length-replicate}
use Rattle.std.proofs.lemmas.List.Elements.{All-contains}
use Rattle.go_digraph_core.specs.declared.cycle.edge.Edge.{Edge}
use Rattle.go_digraph_core.specs.cycle.mirrors.Certificate.{is_linked, marks_after, marks_after_place, marks_along, Holds, IsCertificate}
use Rattle.go_digraph_core.specs.cycle.Cycle.{Reaches, IsRanking, reversed}
use Rattle.go_digraph_core.specs.cycle.mirrors.Search.{edge_at, IsMarked}
use Rattle.go_digraph_core.proofs.CycleMarks.{marked_after}
use Rattle.go_digraph_core.proofs.CyclePlaces.{edge_there}
use Rattle.go_digraph_core.proofs.CycleWalks.{reaches_itself, reaches_on, reaches_end, reaches_other_way, leads_back, falls_along}

-- a mark at a node says that its root leads to it
abbrev pub AreFromRoots : List Edge → List ℕ → List Bool → Type 0
AreFromRoots g roots marks = (v : ℕ) → IsMarked marks v → Reaches g (get_or roots v 0) v

-- a mark at a node says that it leads to its root
abbrev pub AreToRoots : List Edge → List ℕ → List Bool → Type 0
AreToRoots g roots marks = (v : ℕ) → IsMarked marks v → Reaches g v (get_or roots v 0)

-- a node that is linked is its own root or bears a mark
linked_cases : (roots : List ℕ) (marks : List Bool) (v : ℕ) → is_linked roots marks v ≡ true → (get_or roots v 0 ≡ v) ⊎ IsMarked marks v
linked_cases roots marks v h = elim (or_cases (eqb v (get_or roots v 0)) (get_or marks v false) h) [ inl e ↦ inl (sym (eqb-true v (get_or roots v 0) e)) | inr m ↦ inr m ]

-- one more mark, at the end of an edge whose start is its root or bears a mark
from_root_set : (g : List Edge) (roots : List ℕ) (marks : List Bool) (e : Edge) → Contains g e → get_or roots e.from 0 ≡ get_or roots e.to 0 → (get_or roots e.from 0 ≡ e.from) ⊎ (get_or marks e.from false ≡ true) → AreFromRoots g roots marks → AreFromRoots g roots (set marks e.to true)
from_root_set g roots marks e there same start old v h = elim (marked_after marks e.to v h) [
  | inr m ↦ old v m
  | inl at ↦
      let first : Reaches g (get_or roots e.from 0) e.from = elim start [ inl r ↦ subst (λ x. Reaches g x e.from) (sym r) (reaches_itself g e.from) | inr m ↦ old e.from m ] in
      let whole : Reaches g (get_or roots e.from 0) e.to = reaches_on g _ e.from e.to first (reaches_end g e there) in
      let P : ℕ → Type 0 = λ x. Reaches g x e.to in
      let Q : ℕ → Type 0 = λ x. Reaches g (get_or roots x 0) x in
      subst Q (sym at) (subst P same whole)
]

-- one step along an edge, with or without a mark
edge_keeps : (g : List Edge) (roots : List ℕ) (marks : List Bool) (e : Edge) → Contains g e → AreFromRoots g roots marks → AreFromRoots g roots (marks_after roots marks e)
edge_keeps g roots marks e there old =
    let same : Bool = eqb (get_or roots e.from 0) (get_or roots e.to 0) in
    let linked : Bool = is_linked roots marks e.from in
    let marked : (same && linked) ≡ true → AreFromRoots g roots (set marks e.to true) = λ t. from_root_set g roots marks e there (eqb-true (get_or roots e.from 0) (get_or roots e.to 0) (and_parts same linked t).0) (linked_cases roots marks e.from (and_parts same linked t).1) old in
    cond_both (same && linked) (set marks e.to true) marks (AreFromRoots g roots) marked (λ f. old)

place_keeps : (g : List Edge) (roots : List ℕ) (marks : List Bool) (k : ℕ) → AreFromRoots g roots marks → AreFromRoots g roots (marks_after_place g roots marks k)
place_keeps g roots marks k old =
    let stepped : ltb k (length g) ≡ true → AreFromRoots g roots (marks_after roots marks (edge_at g k)) = λ t. edge_keeps g roots marks (edge_at g k) (edge_there g k (ltb-true k (length g) t)) old in
    cond_both (ltb k (length g)) (marks_after roots marks (edge_at g k)) marks (AreFromRoots g roots) stepped (λ f. old)

steps_keep : (g : List Edge) (roots : List ℕ) (marks : List Bool) (places : List ℕ) → AreFromRoots g roots marks → AreFromRoots g roots (fold (marks_after_place g roots) marks places)
steps_keep g roots marks [] old = old
steps_keep g roots marks (k ∷ ks) old = steps_keep g roots (marks_after_place g roots marks k) ks (place_keeps g roots marks k old)

none_marked : (n v : ℕ) → IsMarked (replicate n false) v → ⊥
none_marked n v m = elim (cases_lt v n) [
  | inl lt ↦ (let z : true ≡ false = sym m ∙ get_or-replicate n v false false lt in absurd (cc))
  | inr ge ↦ (let z : true ≡ false = sym m ∙ get_or_past (replicate n false) v false (omega (arith, length-replicate n false, ge)) in absurd (cc))
]

-- marks along edges are on nodes that their roots lead to
pub from_roots : (g : List Edge) (roots : List ℕ) (places : List ℕ) → AreFromRoots g roots (marks_along g roots places)
from_roots g roots places = steps_keep g roots (replicate (length roots) false) places (λ v m. absurd (none_marked (length roots) v m))

-- marks along the edges the other way are on nodes that lead to their roots
pub to_roots : (g : List Edge) (roots : List ℕ) (places : List ℕ) → AreToRoots g roots (marks_along (map reversed g) roots places)
to_roots g roots places v m = reaches_other_way g (get_or roots v 0) v (from_roots (map reversed g) roots places v m)

-- ranks do not rise along an edge that agrees
falls_at : (ranks roots : List ℕ) (out back : List Bool) (e : Edge) → Holds ranks roots out back e → get_or ranks e.to 0 ≤ get_or ranks e.from 0
falls_at ranks roots out back e h = elim h [ inl l ↦ omega arith | inr p ↦ omega (arith, p.0) ]

ranking_from_marks : (g : List Edge) (ranks roots : List ℕ) (out back : List Bool) → AreFromRoots g roots out → AreToRoots g roots back → All (Holds ranks roots out back) g → IsRanking g ranks
ranking_from_marks g ranks roots out back mo mb all k d lt =
    let e : Edge = get_or g k d in
    let here : Holds ranks roots out back e = all k d lt in
    let falls = λ (x : Edge) (h : Contains g x). falls_at ranks roots out back x (All-contains (Holds ranks roots out back) g x all h) in
    let le : get_or ranks e.to 0 ≤ get_or ranks e.from 0 = falls_at ranks roots out back e here in (
      le,
      (
        (λ same. elim here [
          | inl l ↦ absurd (let l' : get_or ranks e.to 0 < get_or ranks e.from 0 = l in let s : get_or ranks e.to 0 ≡ get_or ranks e.from 0 = same in omega (arith, l', s))
          | inr p ↦
              let up : Reaches g e.to (get_or roots e.to 0) = elim (linked_cases roots back e.to p.2) [ inl q ↦ (let P : ℕ → Type 0 = λ x. Reaches g e.to x in subst P (sym q) (reaches_itself g e.to)) | inr m ↦ mb e.to m ] in
              let down : Reaches g (get_or roots e.from 0) e.from = elim (linked_cases roots out e.from p.3) [ inl q ↦ (let P : ℕ → Type 0 = λ x. Reaches g x e.from in subst P (sym q) (reaches_itself g e.from)) | inr m ↦ mo e.from m ] in
              let P : ℕ → Type 0 = λ x. Reaches g e.to x in
              inr (reaches_on g e.to (get_or roots e.from 0) e.from (subst P p.1 up) down)
        ]),
        (λ on. let back' = leads_back g e on in let ge : get_or ranks e.from 0 ≤ get_or ranks e.to 0 = falls_along g (λ x. get_or ranks x 0) falls back'.0 e.to e.from back'.1 in omega (arith, le, ge)),
      ),
    )

-- ranks with a certificate are a ranking
pub ranking_from_certificate : (g : List Edge) (ranks roots out back : List ℕ) → IsCertificate g ranks roots out back → IsRanking g ranks
ranking_from_certificate g ranks roots out back h = ranking_from_marks g ranks roots (marks_along g roots out) (marks_along (map reversed g) roots back) (from_roots g roots out) (to_roots g roots back) h
