-- The search along the imports from one package.
use Rattle.std.proofs.Common.{◌≡◌, ℕ, zero, suc, ◌<◌, ◌+◌, ◌⊎◌, inl, inr, Bool, true, false, List, [], ◌∷◌, ◌++◌, length, get_or, Some, slice_get, refl, sym, ◌∙◌, ap, subst, arith}
use Rattle.std.specs.Prelude.{◌↔◌, All}
use Rattle.std.specs.List.{Contains, flat_map}
use Rattle.std.proofs.lemmas.Bool.{cases_lt, true≢false}
use Rattle.std.proofs.lemmas.List.{get_or_past}
use Rattle.std.proofs.lemmas.List.Elements.{All-cons, All-contains, Contains-append_left, Contains-push, Contains-push_cases}
use Rattle.std.proofs.lemmas.Option.{get_or_from_slice_get, same_Some, slice_get-get_or, slice_get_within}
use Rattle.go_digraph_core.specs.declared.cycle.edge.Edge.{Edge}
use Rattle.go_digraph_core.specs.cycle.Cycle.{Leads}
use Rattle.go_digraph_core.proofs.CycleWalks.{by_more, reaches_end, reaches_itself, reaches_on}
use Rattle.go_graph_core.specs.declared.imports.ImportOutcome.TheVariants.{Package}
use Rattle.go_graph_core.specs.Imports.{IsEdge, IsTarget, LiesOnCycle, edge, import_texts}
use Rattle.go_graph_core.specs.Workspaces.{PackageModel}
use Rattle.go_graph_core.proofs.PlanEdges.{from_flat, in_flat}
use Rattle.go_import_core.specs.list.mirrors.Visits.{IsLed, IsMarked, IsTargetOf, IsVisited, Visits}
use Rattle.go_import_core.proofs.ListVisited.{visits_as, visits_one}

-- the edges from a package are the imports of its files that come to packages

at_place : {A : Type 0} (xs : List A) (x : A) → Contains xs x → (k : ℕ) × (slice_get xs k ≡ Some x)
at_place xs x h = (h.0, slice_get-get_or xs h.0 x h.1 ∙ ap Some h.2)

from_place : {A : Type 0} (xs : List A) (k : ℕ) (x : A) → slice_get xs k ≡ Some x → Contains xs x
from_place xs k x at = (k, slice_get_within xs k x at, get_or_from_slice_get xs k x x at)

module _ (ps : List PackageModel) (number : ℕ) (p : PackageModel) (at : slice_get ps number ≡ Some p) where
  to_edge : (to : ℕ) → IsTargetOf ps p.0 (flat_map import_texts p.1) to → IsEdge ps (edge number to)
  to_edge to h =
      let file = from_flat import_texts p.1 h.0 h.1 in
      let place = at_place (import_texts file.1) h.0 file.3 in
      record {
        at = record { «package» = number; file = file.0; import = place.0 };
        q = p.0;
        text = h.0;
        there = record { files = p.1; file = file.1; numbered = at; in_files = file.2; in_file = place.1 };
        from = refl;
        target = h.2;
      }

  from_edge : (to : ℕ) → IsEdge ps (edge number to) → IsTargetOf ps p.0 (flat_map import_texts p.1) to
  from_edge to d =
      let same : (d.q, d.there.files) ≡ p = same_Some (d.q, d.there.files) p (sym d.there.numbered ∙ (ap (slice_get ps) d.from ∙ at)) in
      let in_files : slice_get p.1 d.at.file ≡ Some d.there.file = subst (λ (r : PackageModel). slice_get r.1 d.at.file ≡ Some d.there.file) same d.there.in_files in
      let there : Contains (import_texts d.there.file) d.text = from_place (import_texts d.there.file) d.at.import d.text d.there.in_file in (
        d.text,
        in_flat import_texts p.1 d.at.file d.there.file d.text in_files there,
        subst (λ (r : PackageModel). IsTarget ps r.0 d.text (Package to)) same d.target,
      )

  pub package_visited : (old new : List Bool) (stack after : List ℕ) → Visits (IsTargetOf ps p.0 (flat_map import_texts p.1)) old new stack after → Visits (λ to. IsEdge ps (edge number to)) old new stack after
  package_visited old new stack after = visits_as (IsTargetOf ps p.0 (flat_map import_texts p.1)) (λ to. IsEdge ps (edge number to)) old new stack after to_edge from_edge

-- what edges lead to

led_itself : (ps : List PackageModel) (a : ℕ) → IsLed ps a a
led_itself ps a = ([], (λ k d lt. absurd (omega (arith, lt))), reaches_itself [] a)

rest_at : (e : Edge) (xs : List Edge) (k : ℕ) (x : Edge) → k < length xs → get_or (e ∷ xs) (suc k) x ≡ get_or xs k x
rest_at e xs k x lt = refl

led_on : (ps : List PackageModel) (a b c : ℕ) → IsLed ps a b → IsEdge ps (edge b c) → IsLed ps a c
led_on ps a b c h d =
    let e : Edge = edge b c in
    let edges : List Edge = e ∷ h.0 in
    let both : All (Contains edges) h.0 = λ k x lt. (suc k, (let low : suc k < length (e ∷ h.0) = omega (arith, lt) in low), rest_at e h.0 k (get_or h.0 k x) lt ∙ get_or_itself h.0 k x lt) in
    let here : Contains edges e = (0, (let low : 0 < length (e ∷ h.0) = omega arith in low), refl) in
    (edges, All-cons (IsEdge ps) e h.0 d h.1, reaches_on edges a b c ((by_more h.0 edges both).0 a b h.2) (reaches_end edges e here))
  where
    get_or_itself : (xs : List Edge) (k : ℕ) (x : Edge) → k < length xs → get_or xs k (get_or xs k x) ≡ get_or xs k x
    get_or_itself [] k x lt = absurd (omega (arith, lt))
    get_or_itself (y ∷ xs) zero x lt = refl
    get_or_itself (y ∷ xs) (suc k) x lt = get_or_itself xs k x (omega (arith, lt))

-- an import lies on a cycle exactly where edges lead back

lies : (ps : List PackageModel) (own a : ℕ) → IsLed ps a own → LiesOnCycle ps (edge own a)
lies ps own a h = (h.0, h.1, inr h.2)

led : (ps : List PackageModel) (own a : ℕ) → LiesOnCycle ps (edge own a) → IsLed ps a own
led ps own a h = elim h.2 [
  | inl same ↦ subst (IsLed ps a) same (led_itself ps a)
  | inr back ↦ (h.0, h.1, back)
]

-- what the search keeps true: what bears a mark is led to; and where an edge begins at what bears a mark, its end bears one as well, or that has still to be
-- gone through
pub record Searches (ps : List PackageModel) (start : ℕ) (marks : List Bool) (stack : List ℕ) : Type 0 where
  pub reached : (v : ℕ) → IsMarked marks v → IsLed ps start v
  pub first : IsMarked marks start
  pub ended : (e : Edge) → IsEdge ps e → IsMarked marks e.from → IsMarked marks e.to ⊎ Contains stack e.from
  pub stacked : (v : ℕ) → Contains stack v → IsMarked marks v

none_in : (v : ℕ) → Contains [] v → ⊥
none_in v h = omega (arith, h.1)

pub search_first : (ps : List PackageModel) (start : ℕ) (old new : List Bool) (stack : List ℕ) → start < length old → ((v : ℕ) → get_or old v false ≡ false) → IsVisited start old new [] stack → Searches ps start new stack
search_first ps start old new stack lt none w =
    let visited : Visits (λ v. v ≡ start) old new [] stack = visits_one (λ v. v ≡ start) start old new [] stack refl (λ v same. same) lt w in
    let unmarked : (v : ℕ) → IsMarked old v → ⊥ = λ v m. (let z : true ≡ false = sym m ∙ none v in cc) in
    record {
      reached = λ v m. elim (visited.made v m) [ inl o ↦ absurd (unmarked v o) | inr b ↦ subst (IsLed ps start) (sym b.1) (led_itself ps start) ];
      first = visited.done start refl;
      ended = λ e d m. elim (visited.made e.from m) [ inl o ↦ absurd (unmarked e.from o) | inr b ↦ inr b.0 ];
      stacked = λ v t. elim (visited.marked v t) [ inl z ↦ absurd (none_in v z) | inr m ↦ m ];
    }

pub search_more : (ps : List PackageModel) (start : ℕ) (old new : List Bool) (top : ℕ) (stack rest after : List ℕ) → stack ≡ rest ++ top ∷ [] → Searches ps start old stack → Visits (λ to. IsEdge ps (edge top to)) old new rest after → Searches ps start new after
search_more ps start old new top stack rest after popped s visited =
    let on_top : IsMarked old top = s.stacked top (subst (λ (l : List ℕ). Contains l top) (sym popped) (Contains-push rest top)) in
    record {
      reached = λ v m. elim (visited.made v m) [ inl o ↦ s.reached v o | inr b ↦ led_on ps start top v (s.reached top on_top) b.1 ];
      first = visited.kept start s.first;
      ended = λ e d m. elim (visited.made e.from m) [
        | inr b ↦ inr b.0
        | inl o ↦ elim (s.ended e d o) [
          | inl t ↦ inl (visited.kept e.to t)
          | inr t ↦ elim (Contains-push_cases rest top e.from (subst (λ (l : List ℕ). Contains l e.from) popped t)) [
            | inl u ↦ inr (visited.still e.from u)
            | inr q ↦ inl (visited.done e.to (subst (λ (n : ℕ). IsEdge ps (edge n e.to)) (sym q) d))
          ]
        ]
      ];
      stacked = λ v t. elim (visited.marked v t) [
        | inl u ↦ visited.kept v (s.stacked v (subst (λ (l : List ℕ). Contains l v) (sym popped) (Contains-append_left rest (top ∷ []) v u)))
        | inr m ↦ m
      ];
    }

-- what has still to be gone through is one of the packages
pub search_within : (ps : List PackageModel) (start : ℕ) (marks : List Bool) (top : ℕ) (stack rest : List ℕ) → stack ≡ rest ++ top ∷ [] → Searches ps start marks stack → top < length marks
search_within ps start marks top stack rest popped s =
    let on_top : IsMarked marks top = s.stacked top (subst (λ (l : List ℕ). Contains l top) (sym popped) (Contains-push rest top)) in
    elim (cases_lt top (length marks)) [
      | inl lt ↦ lt
      | inr past ↦ (let z : true ≡ false = sym on_top ∙ get_or_past marks top false past in absurd (true≢false z))
    ]

closed_along : (ps : List PackageModel) (edges : List Edge) (marks : List Bool) → All (IsEdge ps) edges → ((e : Edge) → IsEdge ps e → IsMarked marks e.from → IsMarked marks e.to) → (es : List Edge) (a b : ℕ) → Leads edges es a b → IsMarked marks a → IsMarked marks b
closed_along ps edges marks all closed [] a b h m = subst (IsMarked marks) h m
closed_along ps edges marks all closed (e ∷ es) a b h m = closed_along ps edges marks all closed es e.to b h.2 (closed e (All-contains (IsEdge ps) edges e all h.0) (subst (IsMarked marks) (sym h.1) m))

-- a search that met the package is done
pub search_met : (ps : List PackageModel) (start own : ℕ) (marks : List Bool) (stack : List ℕ) → IsMarked marks own → Searches ps start marks stack → IsMarked marks own ↔ LiesOnCycle ps (edge own start)
search_met ps start own marks stack met s = (λ m. lies ps own start (s.reached own met), λ on. met)

-- and so is one with nothing left to go through
pub search_ends : (ps : List PackageModel) (start own : ℕ) (marks : List Bool) (stack : List ℕ) → stack ≡ [] → Searches ps start marks stack → IsMarked marks own ↔ LiesOnCycle ps (edge own start)
search_ends ps start own marks stack none s =
    let t : Searches ps start marks [] = subst (Searches ps start marks) none s in
    let closed : (e : Edge) → IsEdge ps e → IsMarked marks e.from → IsMarked marks e.to = λ e d m. elim (t.ended e d m) [ inl k ↦ k | inr z ↦ absurd (none_in e.from z) ] in (
      λ m. lies ps own start (t.reached own m),
      λ on. (let back = led ps own start on in closed_along ps back.0 marks back.1 closed back.2.0 start own back.2.1 t.first),
    )
