-- What sets have that are filled node by node.
use Rattle.std.proofs.Common.{◌≡◌, ◌↔◌, ◌⊎◌, ℕ, Bool, true, false, ◌+◌, ◌<◌, inl, inr, List, [], ◌∷◌, ◌++◌, length, get_or, set, replicate, ◌≤◌, All, Contains, refl, sym, ◌∙◌, ap, subst, arith}
use Rattle.std.proofs.lemmas.Bool.{cases_eq, cases_lt}
use Rattle.std.proofs.lemmas.List.{append-nil, append_assoc, get_or-replicate, get_or-set_same, get_or-set_other, get_or_past, length-replicate}
use Rattle.std.proofs.lemmas.List.Elements.{All-contains, All-nil, All-push, Contains-append_left, Contains-push, Contains-push_cases}
use Rattle.go_digraph_core.specs.declared.cycle.edge.Edge.{Edge}
use Rattle.go_digraph_core.specs.cycle.Cycle.{Leads}
use Rattle.std.proofs.lemmas.Grind.{get_or_default_zero}
use Rattle.std.proofs.lemmas.Option.{slice_get_within, get_or_from_slice_get}
use Rattle.std.proofs.Math.ListN.{get_or-append}
use Rattle.go_digraph_core.proofs.CycleMarks.{marked_after}
use Rattle.go_digraph_core.proofs.CyclePlaces.{none_in}
use Rattle.go_digraph_core.specs.reach.Numbers.{Numbers, no_numbers}
use Rattle.go_digraph_core.specs.reach.Reach.{AreReachedFrom, AreReachSets, EndsStandBefore}
use Rattle.go_digraph_core.specs.reach.mirrors.Filling.{AreMarksIn, Completes, EndsComeFirst, IsReachSetAt, IsUnion, members_at}

-- nothing is the union of nothing
pub union_none : (sets : List Numbers) (members : List ℕ) → members ≡ [] → IsUnion [] sets members
union_none sets members e k = (
  (λ h. absurd (none_in k (let P : List ℕ → Type 0 = λ l. Contains l k in subst P e h))),
  (λ h. absurd (none_in h.0 h.1)),
)

-- one end more
pub union_more : (ends : List ℕ) (end : ℕ) (sets : List Numbers) (old put new : List ℕ) → IsUnion ends sets old → ((k : ℕ) → Contains put k ↔ ((k ≡ end) ⊎ Contains old k)) → ((k : ℕ) → Contains new k ↔ (Contains put k ⊎ Contains (members_at sets end) k)) → IsUnion (ends ++ end ∷ []) sets new
union_more ends end sets old put new is inserted added k = (
  (λ h. elim ((added k).0 h) [
    | inl p ↦ elim ((inserted k).0 p) [
      | inl same ↦ (end, Contains-push ends end, inl same)
      | inr o ↦ (let r = (is k).0 o in (r.0, Contains-append_left ends (end ∷ []) r.0 r.1, r.2))
    ]
    | inr m ↦ (end, Contains-push ends end, inr m)
  ]),
  (λ h. elim (Contains-push_cases ends end h.0 h.1) [
    | inl there ↦ (added k).1 (inl ((inserted k).1 (inr ((is k).1 (h.0, there, h.2)))))
    | inr same ↦ elim h.2 [
      | inl here ↦ (added k).1 (inl ((inserted k).1 (inl (here ∙ sym same))))
      | inr m ↦ (added k).1 (inr (let P : ℕ → Type 0 = λ t. Contains (members_at sets t) k in subst P (sym same) m))
    ]
  ]),
)

module _ (g : List Edge) (v : ℕ) (row : List ℕ) (sets : List Numbers) (rows : (j : ℕ) → Contains row j ↔ Contains g (record { from = v; to = j })) (ready : (e : Edge) → Contains g e → e.from ≡ v → IsReachSetAt g sets e.to) where
  -- a list of edges from a node begins with one of its own
  walk_from : (k : ℕ) (e : Edge) (es : List Edge) → Leads g (e ∷ es) v k → (t : ℕ) × Contains row t × ((k ≡ t) ⊎ Contains (members_at sets t) k)
  walk_from k e [] h = (let P : ℕ → Type 0 = λ f. Contains g (record { from = f; to = e.to }) in (e.to, (rows e.to).1 (subst P h.1 h.0), inl (sym h.2)))
  walk_from k e (f ∷ fs) h = (let P : ℕ → Type 0 = λ x. Contains g (record { from = x; to = e.to }) in (e.to, (rows e.to).1 (subst P h.1 h.0), inr ((ready e h.0 h.1 k).1 (f, fs, h.2))))

  -- a node reaches the ends of its edges, and what these reach
  pub reached_by_ends : (members : List ℕ) → IsUnion row sets members → AreReachedFrom g v members
  reached_by_ends members is k = (
    (λ h.
        let u = (is k).0 h in
        let e : Edge = record { from = v; to = u.0 } in
        let there : Contains g e = (rows u.0).0 u.1 in
        elim u.2 [
          | inl same ↦ (e, [], (there, refl, sym same))
          | inr m ↦ (let far = (ready e there refl k).0 m in (e, far.0 ∷ far.1, (there, refl, far.2)))
        ]),
    (λ h. (is k).1 (walk_from k h.0 h.1 h.2)),
  )

-- one set more
pub filled_more : (g : List Edge) (nodes : List ℕ) (p : ℕ) (sets : List Numbers) (s : Numbers) → get_or nodes p 0 < length sets → AreReachedFrom g (get_or nodes p 0) s.members → ((q : ℕ) → q < p → IsReachSetAt g sets (get_or nodes q 0)) → (q : ℕ) → q < p + 1 → IsReachSetAt g (set sets (get_or nodes p 0) s) (get_or nodes q 0)
filled_more g nodes p sets s lt now done q le =
    let v : ℕ = get_or nodes p 0 in
    let u : ℕ = get_or nodes q 0 in
    elim (cases_eq u v) [
      | inl same ↦
          let here : members_at (set sets v s) v ≡ s.members = ap (λ (x : Numbers). x.members) (get_or-set_same sets v s (no_numbers 0) lt) in
          let P : List ℕ → Type 0 = λ l. AreReachedFrom g v l in
          let Q : ℕ → Type 0 = λ x. IsReachSetAt g (set sets v s) x in
          subst Q (sym same) (subst P (sym here) now)
      | inr ne ↦
          let off : members_at (set sets v s) u ≡ members_at sets u = ap (λ (x : Numbers). x.members) (get_or-set_other sets v u s (no_numbers 0) ne) in
          let P : List ℕ → Type 0 = λ l. AreReachedFrom g u l in
          let before : q < p = (elim (cases_lt q p) [
            | inl yes_before ↦ yes_before
            | inr past ↦ absurd (ne (let same : q ≡ p = omega (arith, le, past) in ap (λ x. get_or nodes x 0) same))
          ]) in
          subst P (sym off) (done q before)
    ]

-- where the ends of edges come first, they have their sets before
pub ready_before : (g : List Edge) (nodes : List ℕ) (p : ℕ) (sets : List Numbers) → EndsComeFirst g nodes → p < length nodes → ((q : ℕ) → q < p → IsReachSetAt g sets (get_or nodes q 0)) → (e : Edge) → Contains g e → e.from ≡ get_or nodes p 0 → IsReachSetAt g sets e.to
ready_before g nodes p sets first lt done e there is =
    let at = first e there p lt (sym is) in
    let P : ℕ → Type 0 = λ x. IsReachSetAt g sets x in
    subst P at.2 (done at.0 at.1)

-- the ends of edges come first in an order with others behind it
pub ends_come_first : (g : List Edge) (order others : List ℕ) → EndsStandBefore g order → EndsComeFirst g (order ++ others)
ends_come_first g order others before e there i lt is =
    let b = before e there in
    let j : ℕ = b.0.0 in
    let at : get_or order j 0 ≡ e.to = sym (get_or_default_zero order j e.to b.0.1) ∙ b.0.2 in
    let here : get_or (order ++ others) j 0 ≡ e.to = get_or-append order others 0 j b.0.1 ∙ at in
    elim (cases_lt i (length order)) [
      | inl inside ↦ (j, b.1 i j inside b.0.1 (sym (get_or-append order others 0 i inside) ∙ is) at, here)
      | inr past ↦ (let le : j < i = omega (arith, b.0.1, past) in (j, le, here))
    ]

-- no mark yet, and one more
pub marks_none : (order : List ℕ) (marks : List Bool) (n : ℕ) → marks ≡ replicate n false → AreMarksIn order marks
marks_none order marks n e v h = elim (cases_lt v n) [
  | inl lt ↦ absurd (let k : false ≡ true = sym (ap (λ l. get_or l v false) e ∙ get_or-replicate n v false false lt) ∙ h in cc)
  | inr past ↦
      let len : length (replicate n false) ≤ v = omega (arith, past, length-replicate {A = Bool} n false) in
      absurd (let k : false ≡ true = sym (ap (λ l. get_or l v false) e ∙ get_or_past (replicate n false) v false len) ∙ h in cc)
]

pub marks_more : (order : List ℕ) (node : ℕ) (marks : List Bool) → AreMarksIn order marks → AreMarksIn (order ++ node ∷ []) (set marks node true)
marks_more order node marks old v h = elim (marked_after marks node v h) [
  | inl here ↦ (let P : ℕ → Type 0 = λ x. Contains (order ++ node ∷ []) x in subst P (sym here) (Contains-push order node))
  | inr there ↦ Contains-append_left order (node ∷ []) v (old v there)
]

-- the order alone, and one node more, which goes behind it or is one of the order
pub completes_none : (order : List ℕ) (count : ℕ) (nodes : List ℕ) → nodes ≡ order → Completes order count 0 nodes
completes_none order count nodes e = record { others = []; is = e ∙ sym (append-nil order); below = All-nil (λ n. n < count); all = λ v lt. absurd (omega (arith, lt)) }

pub completes_more : (order : List ℕ) (count bound : ℕ) (nodes new : List ℕ) → bound < count → new ≡ nodes ++ bound ∷ [] → Completes order count bound nodes → Completes order count (bound + 1) new
completes_more order count bound nodes new lt e old =
    let C : ℕ → List ℕ → Type 0 = λ v l. Contains l v in
    record {
      others = old.others ++ bound ∷ [];
      is = e ∙ (ap (λ l. l ++ bound ∷ []) old.is ∙ append_assoc order old.others (bound ∷ []));
      below = All-push (λ n. n < count) old.others bound old.below lt;
      all = λ v le. subst (C v) (sym e) (elim (cases_lt v bound) [
        | inl before ↦ Contains-append_left nodes (bound ∷ []) v (old.all v before)
        | inr here ↦ (let same : bound ≡ v = omega (arith, le, here) in let P : ℕ → Type 0 = λ x. Contains (nodes ++ bound ∷ []) x in subst P same (Contains-push nodes bound))
      ]);
    }

pub completes_marked : (order : List ℕ) (count bound : ℕ) (nodes : List ℕ) → Contains order bound → Completes order count bound nodes → Completes order count (bound + 1) nodes
completes_marked order count bound nodes there old = record {
  others = old.others;
  is = old.is;
  below = old.below;
  all = λ v le. elim (cases_lt v bound) [
    | inl before ↦ old.all v before
    | inr here ↦
        let same : bound ≡ v = omega (arith, le, here) in
        let P : List ℕ → Type 0 = λ l. Contains l bound in
        let Q : ℕ → Type 0 = λ x. Contains nodes x in
        subst Q same (subst P (sym old.is) (Contains-append_left order old.others bound there))
  ];
}

-- the sets of all nodes
pub all_filled : (g : List Edge) (nodes : List ℕ) (count : ℕ) (sets : List Numbers) → length sets ≡ count → ((v : ℕ) → v < count → Contains nodes v) → All (IsReachSetAt g sets) nodes → AreReachSets g sets
all_filled g nodes count sets len every all a s at =
    let within : a < length sets = slice_get_within sets a s at in
    let lt : a < count = omega (arith, within, len) in
    let P : Numbers → Type 0 = λ x. AreReachedFrom g a x.members in
    subst P (get_or_from_slice_get sets a s (no_numbers 0) at) (All-contains (IsReachSetAt g sets) nodes a all (every a lt))
