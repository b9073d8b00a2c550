-- Lists of edges that lead from node to node.
use Rattle.std.proofs.Common.{◌≡◌, ℕ, ◌<◌, ◌≤◌, inl, inr, List, [], ◌∷◌, ◌++◌, length, get_or, map, All, refl, sym, ◌∙◌, ap, subst, arith}
use Rattle.std.specs.List.{Contains}
use Rattle.std.proofs.lemmas.List.{get_or-map, length-map}
use Rattle.std.proofs.lemmas.List.Elements.{All-contains, All-nil, All-cons}
use Rattle.go_digraph_core.specs.declared.cycle.edge.Edge.{Edge}
use Rattle.go_digraph_core.specs.cycle.Cycle.{InRange, Leads, Reaches, IsOnCycle, reversed}
use Rattle.go_digraph_core.specs.cycle.Laws.{ReachIsTransitive, EdgeReachesItsEnd, ReachStaysInRange, CycleReachesBothEnds, ClosedWalkIsOnCycles, MoreEdgesReachMore, FallingMeansNoCycle}

leads_on : (g es fs : List Edge) (a b c : ℕ) → Leads g es a b → Leads g fs b c → Leads g (es ++ fs) a c
leads_on g [] fs a b c h k = subst (λ x. Leads g fs x c) (sym h) k
leads_on g (e ∷ es) fs a b c h k = (h.0, h.1, leads_on g es fs e.to b c h.2 k)

pub reaches_itself : (g : List Edge) (a : ℕ) → Reaches g a a
reaches_itself g a = ([], refl)

pub reaches_on : ReachIsTransitive
reaches_on g a b c h k = (h.0 ++ k.0, leads_on g h.0 k.0 a b c h.1 k.1)

pub reaches_end : EdgeReachesItsEnd
reaches_end g e h = (e ∷ [], (h, refl, refl))

-- an edge on a cycle leads back by a list of edges, which is empty where it ends at its start
pub leads_back : (g : List Edge) (e : Edge) → IsOnCycle g e → Reaches g e.to e.from
leads_back g e h = elim h [ inl q ↦ (let P : ℕ → Type 0 = λ x. Reaches g e.to x in subst P q (reaches_itself g e.to)) | inr r ↦ r ]

-- what does not rise along each edge does not rise along a list of edges
pub falls_along : (g : List Edge) (number : ℕ → ℕ) → ((e : Edge) → Contains g e → number e.to ≤ number e.from) → (es : List Edge) (a b : ℕ) → Leads g es a b → number b ≤ number a
falls_along g number f [] a b h = (let q : number a ≡ number b = ap number h in omega (arith, q))
falls_along g number f (e ∷ es) a b h =
    let here : number e.to ≤ number e.from = f e h.0 in
    let rest : number b ≤ number e.to = falls_along g number f es e.to b h.2 in
    let q : number e.from ≡ number a = ap number h.1 in
    omega (arith, here, rest, q)

stays : (g : List Edge) (count : ℕ) → InRange count g → (es : List Edge) (a b : ℕ) → a < count → Leads g es a b → b < count
stays g count within [] a b lt h = omega (arith, lt, h)
stays g count within (e ∷ es) a b lt h = stays g count within es e.to b (All-contains (λ x. (x.from < count) × (x.to < count)) g e within h.0).1 h.2

pub reach_stays : ReachStaysInRange
reach_stays g count a b within lt h = stays g count within h.0 a b lt h.1

pub both_ends : CycleReachesBothEnds
both_ends g e there = ((λ on. (leads_back g e on, reaches_end g e there)), (λ h. inr h.0))

all_on_cycles : (g es : List Edge) (a b : ℕ) → Leads g es a b → Reaches g b a → All (IsOnCycle g) es
all_on_cycles g [] a b h r = All-nil (IsOnCycle g)
all_on_cycles g (e ∷ es) a b h r =
    let P : ℕ → Type 0 = λ x. Reaches g b x in
    let to_start : Reaches g b e.from = subst P (sym h.1) r in
    let here : Reaches g e.to e.from = reaches_on g e.to b e.from (es, h.2) to_start in
    All-cons (IsOnCycle g) e es (inr here) (all_on_cycles g es e.to b h.2 (reaches_on g b e.from e.to to_start (reaches_end g e h.0)))

pub closed_walk : ClosedWalkIsOnCycles
closed_walk g es a h = all_on_cycles g es a a h (reaches_itself g a)

leads_by_more : (g more : List Edge) → All (Contains more) g → (es : List Edge) (a b : ℕ) → Leads g es a b → Leads more es a b
leads_by_more g more all [] a b h = h
leads_by_more g more all (e ∷ es) a b h = (All-contains (Contains more) g e all h.0, h.1, leads_by_more g more all es e.to b h.2)

pub by_more : MoreEdgesReachMore
by_more g more all = (
  (λ a b h. (h.0, leads_by_more g more all h.0 a b h.1)),
  (λ e h. elim h [ inl q ↦ inl q | inr r ↦ inr (r.0, leads_by_more g more all r.0 e.to e.from r.1) ]),
)

pub no_cycle : FallingMeansNoCycle
no_cycle g number all k d lt on =
    let e : Edge = get_or g k d in
    let falls = λ (x : Edge) (h : Contains g x). (let here : number x.to < number x.from = All-contains (λ y. number y.to < number y.from) g x all h in let le : number x.to ≤ number x.from = omega (arith, here) in le) in
    let back = leads_back g e on in
    let le : number e.from ≤ number e.to = falls_along g number falls back.0 e.to e.from back.1 in
    let here : number e.to < number e.from = all k d lt in
    absurd (omega (arith, le, here))

-- the edges the other way lead the other way
contains_reversed : (g : List Edge) (e : Edge) → Contains (map reversed g) e → Contains g (reversed e)
contains_reversed g e h =
    let lt : h.0 < length g = omega (arith, length-map g reversed, h.1) in
    let same : get_or (map reversed g) h.0 e ≡ reversed (get_or g h.0 (reversed e)) = get_or-map reversed g h.0 (reversed e) e lt in
    let back : reversed (get_or g h.0 (reversed e)) ≡ e = sym same ∙ h.2 in
    (h.0, lt, ap reversed back)

leads_other_way : (g es : List Edge) (a b : ℕ) → Leads (map reversed g) es a b → Reaches g b a
leads_other_way g [] a b h = (let P : ℕ → Type 0 = λ x. Reaches g b x in subst P (sym h) (reaches_itself g b))
leads_other_way g (e ∷ es) a b h =
    let rest : Reaches g b e.to = leads_other_way g es e.to b h.2 in
    let last : Reaches g e.to e.from = reaches_end g (reversed e) (contains_reversed g e h.0) in
    let P : ℕ → Type 0 = λ x. Reaches g b x in
    subst P h.1 (reaches_on g b e.to e.from rest last)

pub reaches_other_way : (g : List Edge) (a b : ℕ) → Reaches (map reversed g) a b → Reaches g b a
reaches_other_way g a b h = leads_other_way g h.0 a b h.1

pub reversed_in_range : (g : List Edge) (n : ℕ) → InRange n g → InRange n (map reversed g)
reversed_in_range g n within k d lt =
    let lt' : k < length g = omega (arith, length-map g reversed, lt) in
    let same : get_or (map reversed g) k d ≡ reversed (get_or g k d) = get_or-map reversed g k d d lt' in
    let P : Edge → Type 0 = λ e. (e.from < n) × (e.to < n) in
    let here = within k d lt' in
    subst P (sym same) (here.1, here.0)

into_reversed : (g : List Edge) (e : Edge) → Contains g e → Contains (map reversed g) (reversed e)
into_reversed g e h =
    let same : get_or (map reversed g) h.0 (reversed e) ≡ reversed (get_or g h.0 e) = get_or-map reversed g h.0 e (reversed e) h.1 in
    (h.0, omega (arith, length-map g reversed, h.1), same ∙ ap reversed h.2)

leads_back_way : (g es : List Edge) (a b : ℕ) → Leads g es a b → Reaches (map reversed g) b a
leads_back_way g [] a b h = (let P : ℕ → Type 0 = λ x. Reaches (map reversed g) b x in subst P (sym h) (reaches_itself (map reversed g) b))
leads_back_way g (e ∷ es) a b h =
    let rest : Reaches (map reversed g) b e.to = leads_back_way g es e.to b h.2 in
    let last : Reaches (map reversed g) e.to e.from = reaches_end (map reversed g) (reversed e) (into_reversed g e h.0) in
    let P : ℕ → Type 0 = λ x. Reaches (map reversed g) b x in
    subst P h.1 (reaches_on (map reversed g) b e.to e.from rest last)

pub reaches_back : (g : List Edge) (a b : ℕ) → Reaches g a b → Reaches (map reversed g) b a
reaches_back g a b h = leads_back_way g h.0 a b h.1
