-- Marks, and the search that makes them.
use Rattle.std.proofs.Common.{◌≡◌, ℕ, ◌<◌, ◌+◌, ◌⊎◌, inl, inr, Bool, true, false, not, cond, List, [], ◌∷◌, ◌++◌, length, get_or, set, map, refl, sym, ◌∙◌, ap, subst, arith, Vec}
use Rattle.std.specs.List.{Contains, count_by}
use Rattle.std.specs.declared.alloc.Global.{Global}
use Rattle.std.proofs.lemmas.List.{get_or-set_other, get_or-set_same, length_push}
use Rattle.std.proofs.lemmas.List.Elements.{All-contains, All-push, All-weaker, Contains-append_left, Contains-push, Contains-push_cases}
use Rattle.std.proofs.lemmas.List.Sums.{sum_by-set}
use Rattle.std.proofs.lemmas.Bool.{cases_eq}
use Rattle.go_digraph_core.specs.declared.cycle.edge.Edge.{Edge}
use Rattle.go_digraph_core.specs.cycle.Cycle.{Leads, LeadTo, Reaches, reversed}
use Rattle.go_digraph_core.specs.cycle.mirrors.Search.{edge_at, row_at, AreRows, IsMarked, IsReach, IsVisited, MarksRow}
use Rattle.go_digraph_core.proofs.CyclePlaces.{edge_there, edge_found, none_in, in_row}
use Rattle.go_digraph_core.proofs.CycleWalks.{reaches_itself, reaches_on, reaches_end, reaches_back, reaches_other_way}

-- marks after one more mark

pub marked_after : (marks : List Bool) (i v : ℕ) → IsMarked (set marks i true) v → (v ≡ i) ⊎ IsMarked marks v
marked_after marks i v h = elim (cases_eq v i) [ inl e ↦ inl e | inr n ↦ inr (sym (get_or-set_other marks i v true false n) ∙ h) ]

pub still_marked : (marks : List Bool) (i v : ℕ) → i < length marks → IsMarked marks v → IsMarked (set marks i true) v
still_marked marks i v lt h = elim (cases_eq v i) [
  | inl q ↦ (let P : ℕ → Type 0 = λ x. get_or (set marks i true) x false ≡ true in subst P (sym q) (get_or-set_same marks i true false lt))
  | inr n ↦ get_or-set_other marks i v true false n ∙ h
]

-- a visit of one more end

pub contains_same : (xs ys : List ℕ) (v : ℕ) → ys ≡ xs → Contains xs v → Contains ys v
contains_same xs ys v e h = (let P : List ℕ → Type 0 = λ l. Contains l v in subst P (sym e) h)

row_left : (g : List Edge) (ks : List ℕ) (k : ℕ) (old mid : List Bool) (s0 s1 : List ℕ) → MarksRow g ks old mid s0 s1 → IsMarked mid (edge_at g k).to → MarksRow g (ks ++ k ∷ []) old mid s0 s1
row_left g ks k old mid s0 s1 h m = record {
  kept = h.kept;
  ends = All-push (λ k. IsMarked mid (edge_at g k).to) ks k h.ends m;
  made = λ v w. elim (h.made v w) [ inl o ↦ inl o | inr n ↦ inr (n.0, (n.1.0, Contains-append_left ks (k ∷ []) n.1.0 n.1.1, n.1.2)) ];
  still = h.still;
  marked = h.marked;
  count = h.count;
}

row_new : (g : List Edge) (ks : List ℕ) (k : ℕ) (old mid : List Bool) (s0 s1 : List ℕ) → MarksRow g ks old mid s0 s1 → (edge_at g k).to < length mid → get_or mid (edge_at g k).to false ≡ false → MarksRow g (ks ++ k ∷ []) old (set mid (edge_at g k).to true) s0 (s1 ++ (edge_at g k).to ∷ [])
row_new g ks k old mid s0 s1 h lt unmarked =
    let n : ℕ = (edge_at g k).to in
    let keeps : (v : ℕ) → IsMarked mid v → IsMarked (set mid n true) v = λ v m. still_marked mid n v lt m in
    let counted : count_by (λ m. not m) (set mid n true) + cond {A = ℕ} (not (get_or mid n false)) 1 0 ≡ count_by (λ m. not m) mid + 0 = sum_by-set (λ m. cond (not m) 1 0) mid n true false lt in
    let one : cond {A = ℕ} (not (get_or mid n false)) 1 0 ≡ 1 = ap (λ b. cond {A = ℕ} (not b) 1 0) unmarked in
    let longer : length (s1 ++ n ∷ []) ≡ length s1 + 1 = length_push s1 n in
    let before : count_by (λ m. not m) mid + length s1 ≡ count_by (λ m. not m) old + length s0 = h.count in
    record {
      kept = λ v m. keeps v (h.kept v m);
      ends = All-push (λ k. IsMarked (set mid n true) (edge_at g k).to) ks k (All-weaker (λ k. IsMarked mid (edge_at g k).to) (λ k. IsMarked (set mid n true) (edge_at g k).to) (λ x m. keeps (edge_at g x).to m) ks h.ends) (get_or-set_same mid n true false lt);
      made = λ v w. elim (marked_after mid n v w) [
        | inl q ↦ (let P : ℕ → Type 0 = λ x. Contains (s1 ++ n ∷ []) x in inr (subst P (sym q) (Contains-push s1 n), (k, Contains-push ks k, sym q)))
        | inr m ↦ elim (h.made v m) [ inl o ↦ inl o | inr t ↦ inr (Contains-append_left s1 (n ∷ []) v t.0, (t.1.0, Contains-append_left ks (k ∷ []) t.1.0 t.1.1, t.1.2)) ]
      ];
      still = λ v t. Contains-append_left s1 (n ∷ []) v (h.still v t);
      marked = λ v t. elim (Contains-push_cases s1 n v t) [
        | inl m ↦ elim (h.marked v m) [ inl o ↦ inl o | inr o ↦ inr (keeps v o) ]
        | inr q ↦ (let P : ℕ → Type 0 = λ x. IsMarked (set mid n true) x in inr (subst P q (get_or-set_same mid n true false lt)))
      ];
      count = omega (arith, counted, one, longer, before);
    }

pub row_push : (g : List Edge) (ks : List ℕ) (k : ℕ) (old mid new : List Bool) (s0 s1 s2 : List ℕ) → MarksRow g ks old mid s0 s1 → (edge_at g k).to < length mid → IsVisited (edge_at g k).to mid new s1 s2 → MarksRow g (ks ++ k ∷ []) old new s0 s2
row_push g ks k old mid new s0 s1 s2 h lt w =
    let P : List Bool → Type 0 = λ m. MarksRow g (ks ++ k ∷ []) old m s0 s2 in
    elim w [
      | inl o ↦ (let Q : List ℕ → Type 0 = λ s. MarksRow g (ks ++ k ∷ []) old mid s0 s in subst P (sym o.1) (subst Q (sym o.2) (row_left g ks k old mid s0 s1 h o.0)))
      | inr n ↦ (let Q : List ℕ → Type 0 = λ s. MarksRow g (ks ++ k ∷ []) old (set mid (edge_at g k).to true) s0 s in subst P (sym n.1) (subst Q (sym n.2) (row_new g ks k old mid s0 s1 h lt n.0)))
    ]

pub row_none : (g : List Edge) (marks : List Bool) (s : List ℕ) → MarksRow g [] marks marks s s
row_none g marks s = record { kept = λ v m. m; ends = λ k d lt. absurd (omega (arith, lt)); made = λ v m. inl m; still = λ v t. t; marked = λ v t. inl t; count = refl }

-- what the search keeps true: what bears a mark is reached, and the end of an edge from it bears one as well, or the start is stacked
pub record Searches (g : List Edge) (a : ℕ) (marks : List Bool) (stack : List ℕ) : Type 0 where
  pub reached : (v : ℕ) → IsMarked marks v → Reaches g a v
  pub first : IsMarked marks a
  pub ended : (e : Edge) → Contains g e → IsMarked marks e.from → IsMarked marks e.to ⊎ Contains stack e.from
  pub stacked : (v : ℕ) → Contains stack v → IsMarked marks v

pub search_first : (g : List Edge) (a : ℕ) (old new : List Bool) (stack : List ℕ) → a < length old → ((v : ℕ) → get_or old v false ≡ false) → IsVisited a old new [] stack → Searches g a new stack
search_first g a old new stack lt none w = elim w [
  | inl o ↦ (let z : true ≡ false = sym o.0 ∙ none a in absurd (cc))
  | inr n ↦
      let only : (v : ℕ) → IsMarked (set old a true) v → v ≡ a = λ v m. elim (marked_after old a v m) [ inl q ↦ q | inr m' ↦ absurd (let z : true ≡ false = sym m' ∙ none v in cc) ] in
      let P : List Bool → Type 0 = λ m. Searches g a m stack in
      let Q : List ℕ → Type 0 = λ s. Searches g a (set old a true) s in
      let R : ℕ → Type 0 = λ x. Reaches g a x in
      let S : ℕ → Type 0 = λ x. Contains (a ∷ []) x in
      let T : ℕ → Type 0 = λ x. IsMarked (set old a true) x in
      let here : IsMarked (set old a true) a = get_or-set_same old a true false lt in
      subst P (sym n.1) (subst Q (sym n.2) (record {
        reached = λ v m. subst R (sym (only v m)) (reaches_itself g a);
        first = here;
        ended = λ e there m. inr (subst S (sym (only e.from m)) (Contains-push [] a));
        stacked = λ v t. elim (Contains-push_cases [] a v t) [ inl z ↦ absurd (none_in v z) | inr q ↦ subst T q here ];
      }))
]

pub search_more : (g : List Edge) (a : ℕ) (rows : List (Vec ℕ Global)) (old new : List Bool) (top : ℕ) (stack rest after : List ℕ) → AreRows g rows → stack ≡ rest ++ top ∷ [] → Searches g a old stack → MarksRow g (row_at rows top) old new rest after → Searches g a new after
search_more g a rows old new top stack rest after are popped s r =
    let P : List ℕ → Type 0 = λ l. Contains l top in
    let on_top : IsMarked old top = s.stacked top (subst P (sym popped) (Contains-push rest top)) in
    record {
      reached = λ v m. elim (r.made v m) [
        | inl o ↦ s.reached v o
        | inr n ↦
            let k : ℕ = n.1.0 in
            let w = (in_row g rows are top k).0 n.1.1 in
            let R : ℕ → Type 0 = λ x. Reaches g x (edge_at g k).to in
            let S : ℕ → Type 0 = λ x. Reaches g a x in
            subst S n.1.2 (reaches_on g a top (edge_at g k).to (s.reached top on_top) (subst R w.1 (reaches_end g (edge_at g k) (edge_there g k w.0))))
      ];
      first = r.kept a s.first;
      ended = λ e there m. elim (r.made e.from m) [
        | inr n ↦ inr n.0
        | inl o ↦ elim (s.ended e there o) [
          | inl t ↦ inl (r.kept e.to t)
          | inr t ↦ (let Q : List ℕ → Type 0 = λ l. Contains l e.from in elim (Contains-push_cases rest top e.from (subst Q popped t)) [
            | inl u ↦ inr (r.still e.from u)
            | inr q ↦
                let found : edge_at g there.0 ≡ e = edge_found g e there in
                let from : (edge_at g there.0).from ≡ top = ap (λ x. x.from) found ∙ sym q in
                let T : Edge → Type 0 = λ x. IsMarked new x.to in
                inl (subst T found (All-contains (λ k. IsMarked new (edge_at g k).to) (row_at rows top) there.0 r.ends ((in_row g rows are top there.0).1 (there.1, from))))
          ])
        ]
      ];
      stacked = λ v t. elim (r.marked v t) [
        | inr m ↦ m
        | inl u ↦ (let Q : List ℕ → Type 0 = λ l. Contains l v in r.kept v (s.stacked v (subst Q (sym popped) (Contains-append_left rest (top ∷ []) v u))))
      ];
    }

closed_along : (g : List Edge) (marks : List Bool) → ((e : Edge) → Contains g e → IsMarked marks e.from → IsMarked marks e.to) → (es : List Edge) (a b : ℕ) → Leads g es a b → IsMarked marks a → IsMarked marks b
closed_along g marks c [] a b h m = subst (λ x. IsMarked marks x) h m
closed_along g marks c (e ∷ es) a b h m = closed_along g marks c es e.to b h.2 (c e h.0 (subst (λ x. IsMarked marks x) (sym h.1) m))

-- a search with nothing stacked has marked what is reached
pub search_ends : (g : List Edge) (a : ℕ) (marks : List Bool) (stack : List ℕ) → stack ≡ [] → Searches g a marks stack → IsReach g a marks
search_ends g a marks stack none s v =
    let P : List ℕ → Type 0 = λ l. Searches g a marks l in
    let t : Searches g a marks [] = subst P none s in
    let closed : (e : Edge) → Contains g e → IsMarked marks e.from → IsMarked marks e.to = λ e there m. elim (t.ended e there m) [ inl k ↦ k | inr z ↦ absurd (none_in e.from z) ] in
    ((λ m. t.reached v m), (λ r. closed_along g marks closed r.0 a v r.1 t.first))

-- marks on what a node reaches along the edges the other way are on what leads to it
pub lead_to : (g back : List Edge) (b : ℕ) (marks : List Bool) → back ≡ map reversed g → IsReach back b marks → LeadTo g b marks
lead_to g back b marks e h n =
    let P : List Edge → Type 0 = λ l. IsReach l b marks in
    let there = subst P e h n in
    ((λ m. reaches_other_way g b n (there.0 m)), (λ r. there.1 (reaches_back g n b r)))
