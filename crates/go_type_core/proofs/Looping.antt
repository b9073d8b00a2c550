-- Types that reach themselves, as edges that lie on cycles.
use Rattle.std.proofs.Common.{◌≡◌, ℕ, zero, suc, ◌+◌, ◌<◌, ◌≤◌, ◌⊎◌, inl, inr, ◌↔◌, Bool, true, false, List, [], ◌∷◌, ◌++◌, Option, Some, None, length, get_or, set, replicate, take, refl, sym, ap, ◌∙◌, subst, arith}
use Rattle.std.specs.Prelude.{slice_get}
use Rattle.std.specs.List.{Contains}
use Rattle.std.proofs.lemmas.Option.{slice_get_within}
use Rattle.std.proofs.lemmas.List.{take_all, take_more, length-set, length-replicate, get_or-set_same, get_or-set_other}
use Rattle.std.proofs.lemmas.Bool.{cases_eq}
use Rattle.std.proofs.lemmas.List.Elements.{Contains-append_left, Contains-append_right, Contains-append_cases, Contains-get_or, Contains-push, Contains-push_cases, All-contains}
use Rattle.go_term_core.specs.decl_core.declared.keys.DeclKey.{DeclKey}
use Rattle.go_digraph_core.specs.declared.cycle.edge.Edge.{Edge}
use Rattle.go_digraph_core.specs.cycle.Cycle.{InRange, Leads, Reaches, IsOnCycle, IsRanked, IsRanking}
use Rattle.go_table_core.specs.Entries.{Entry}
use Rattle.go_type_core.specs.Built.{AreLoopedEntries, direct_keys, Uses, UsesAlong, IsLooped}
use Rattle.go_type_core.specs.mirrors.Numbers.{keys_of, number_of}
use Rattle.go_type_core.specs.mirrors.Edges.{edge_to, uses_from, all_uses, HasLoop, Falls, MarksTo, marks_if}
use Rattle.go_type_core.proofs.Keyed.{at_found, at_number, at_place, Apart}

abbrev edge : ℕ → ℕ → Edge
edge i j = record { from = i; to = j }

-- lists by their first items

pub none_there : {A : Type 0} (x : A) → Contains [] x → ⊥
none_there x h = absurd (omega (arith, h.1))

pub contains_first : {A : Type 0} (x : A) (xs : List A) → Contains (x ∷ xs) x
contains_first x xs = (0, omega arith, refl)

pub contains_more : {A : Type 0} (y : A) (xs : List A) (x : A) → Contains xs x → Contains (y ∷ xs) x
contains_more y xs x h = Contains-append_right (y ∷ []) xs x h

contains_at : {A : Type 0} (y : A) (xs : List A) (x : A) (k : ℕ) → k < length (y ∷ xs) → get_or (y ∷ xs) k x ≡ x → (y ≡ x) ⊎ Contains xs x
contains_at y xs x zero lt e = inl e
contains_at y xs x (suc k) lt e = inr (k, omega (arith, lt), e)

pub contains_cases : {A : Type 0} (y : A) (xs : List A) (x : A) → Contains (y ∷ xs) x → (y ≡ x) ⊎ Contains xs x
contains_cases y xs x h = contains_at y xs x h.0 h.1 h.2

-- the edges of one type

one_use : (keys ks : List DeclKey) (i : ℕ) (k : DeclKey) (o : Option ℕ) (j : ℕ) → o ≡ Some j → Contains (edge_to i o (uses_from keys i ks)) (edge i j)
one_use keys ks i k None j e = absurd (cc)
one_use keys ks i k (Some n) j e = (let nj : n ≡ j = cc in subst (λ (x : ℕ). Contains (edge i n ∷ uses_from keys i ks) (edge i x)) nj (contains_first (edge i n) (uses_from keys i ks)))

more_uses : (keys ks : List DeclKey) (i : ℕ) (o : Option ℕ) (e : Edge) → Contains (uses_from keys i ks) e → Contains (edge_to i o (uses_from keys i ks)) e
more_uses keys ks i None e h = h
more_uses keys ks i (Some n) e h = contains_more (edge i n) (uses_from keys i ks) e h

use_there : (keys ks : List DeclKey) (i j : ℕ) (k : DeclKey) → Contains ks k → number_of keys k ≡ Some j → Contains (uses_from keys i ks) (edge i j)
use_there keys [] i j k h n = absurd (none_there k h)
use_there keys (m ∷ ks) i j k h n = elim (contains_cases m ks k h) [
  | inl e ↦ one_use keys ks i m (number_of keys m) j (ap (number_of keys) e ∙ n)
  | inr r ↦ more_uses keys ks i (number_of keys m) (edge i j) (use_there keys ks i j k r n)
]

-- an edge of one type: its start, and what is used
abbrev IsFrom : List DeclKey → ℕ → List DeclKey → Edge → Type 0
IsFrom keys i ks e = (e.from ≡ i) × ((k : DeclKey) × Contains ks k × (number_of keys k ≡ Some e.to))

from_more : (keys ks : List DeclKey) (i : ℕ) (m : DeclKey) (e : Edge) → IsFrom keys i ks e → IsFrom keys i (m ∷ ks) e
from_more keys ks i m e h = (h.0, (h.1.0, contains_more m ks h.1.0 h.1.1, h.1.2))

from_step : (keys ks : List DeclKey) (i : ℕ) (m : DeclKey) (e : Edge) (o : Option ℕ) → number_of keys m ≡ o → (Contains (uses_from keys i ks) e → IsFrom keys i ks e) → Contains (edge_to i o (uses_from keys i ks)) e → IsFrom keys i (m ∷ ks) e
from_step keys ks i m e None n more h = from_more keys ks i m e (more h)
from_step keys ks i m e (Some j) n more h = elim (contains_cases (edge i j) (uses_from keys i ks) e h) [
  | inl q ↦ (sym (ap (λ (x : Edge). x.from) q), (m, contains_first m ks, n ∙ ap Some (ap (λ (x : Edge). x.to) q)))
  | inr r ↦ from_more keys ks i m e (more r)
]

use_from : (keys ks : List DeclKey) (i : ℕ) (e : Edge) → Contains (uses_from keys i ks) e → IsFrom keys i ks e
use_from keys [] i e h = absurd (none_there e h)
use_from keys (m ∷ ks) i e h = from_step keys ks i m e (number_of keys m) refl (use_from keys ks i e) h

-- the edges of all types

pub uses_there : (keys : List DeclKey) (ws : List Entry) (from i j : ℕ) (w : Entry) (k : DeclKey) → slice_get ws i ≡ Some w → Contains (direct_keys w.term) k → number_of keys k ≡ Some j → Contains (all_uses keys from ws) (edge (from + i) j)
uses_there keys [] from i j w k at h n = absurd (cc)
uses_there keys (v ∷ ws) from zero j w k at h n =
    let vw : v ≡ w = cc in
    let here : Contains (uses_from keys from (direct_keys v.term)) (edge from j) = use_there keys (direct_keys v.term) from j k (subst (λ (x : Entry). Contains (direct_keys x.term) k) (sym vw) h) n in
    let e : from ≡ from + 0 = omega arith in
    subst (λ (x : ℕ). Contains (all_uses keys from (v ∷ ws)) (edge x j)) e (Contains-append_left (uses_from keys from (direct_keys v.term)) (all_uses keys (suc from) ws) (edge from j) here)
uses_there keys (v ∷ ws) from (suc i) j w k at h n =
    let rest : Contains (all_uses keys (suc from) ws) (edge (suc from + i) j) = uses_there keys ws (suc from) i j w k at h n in
    let e : suc from + i ≡ from + suc i = omega arith in
    Contains-append_right (uses_from keys from (direct_keys v.term)) (all_uses keys (suc from) ws) (edge (from + suc i) j) (subst (λ (x : ℕ). Contains (all_uses keys (suc from) ws) (edge x j)) e rest)

-- an edge of all types, in parts
abbrev pub IsOfUses : List DeclKey → List Entry → ℕ → Edge → Type 0
IsOfUses keys ws from e = (i : ℕ) × (w : Entry) × (k : DeclKey) × (e.from ≡ from + i) × (slice_get ws i ≡ Some w) × Contains (direct_keys w.term) k × (number_of keys k ≡ Some e.to)

pub uses_of : (keys : List DeclKey) (ws : List Entry) (from : ℕ) (e : Edge) → Contains (all_uses keys from ws) e → IsOfUses keys ws from e
uses_of keys [] from e h = absurd (none_there e h)
uses_of keys (v ∷ ws) from e h = elim (Contains-append_cases (uses_from keys from (direct_keys v.term)) (all_uses keys (suc from) ws) e h) [
  | inl a ↦ (let u = use_from keys (direct_keys v.term) from e a in let q = u.0 in let s : e.from ≡ from + 0 = omega (arith, q) in (0, v, u.1.0, s, refl, u.1.1, u.1.2))
  | inr b ↦ (let r = uses_of keys ws (suc from) e b in let q = r.3 in let s : e.from ≡ from + suc r.0 = omega (arith, q) in (suc r.0, r.1, r.2, s, r.4, r.5, r.6))
]

-- numbers are below the count of keys
pub number_below : (es : List Entry) (k : DeclKey) (i : ℕ) → number_of (keys_of es) k ≡ Some i → i < length es
number_below es k i h = (let at = at_number es k i h in slice_get_within es i at.0 at.1.stands)

-- a walk of uses is a walk of edges

module _ (written : List Entry) (apart : Apart written) where
  abbrev pub edges : List Edge
  edges = all_uses (keys_of written) 0 written

  pub use_edge : (i j : ℕ) (a b : DeclKey) → number_of (keys_of written) a ≡ Some i → number_of (keys_of written) b ≡ Some j → Uses written a b → Contains edges (edge i j)
  use_edge i j a b ai bj u =
      let at = at_found written a u.0 u.1 in
      let same : Some at.0 ≡ Some i = sym at.1.numbered ∙ ai in
      let ni : at.0 ≡ i = cc in
      let stands : slice_get written i ≡ Some u.0 = sym (ap (slice_get written) ni) ∙ at.1.stands in
      let there : Contains edges (edge (0 + i) j) = uses_there (keys_of written) written 0 i j u.0 b stands u.2 bj in
      let e : 0 + i ≡ i = omega arith in
      subst (λ (x : ℕ). Contains edges (edge x j)) e there

  walk_there : (i j : ℕ) (a b : DeclKey) (between : List DeclKey) → number_of (keys_of written) a ≡ Some i → number_of (keys_of written) b ≡ Some j → UsesAlong written a between b → (e : Edge) × Contains edges e × (e.from ≡ i) × Reaches edges e.to j
  walk_there i j a b [] ai bj u = (edge i j, use_edge i j a b ai bj u, refl, ([], refl))
  walk_there i j a b (m ∷ ms) ai bj u =
      let at = next_at m b ms u.1 in
      let rest = walk_there at.0 j m b ms at.1 bj u.1 in
      (edge i at.0, use_edge i at.0 a m ai at.1 u.0, refl, (rest.0 ∷ rest.3.0, (rest.1, rest.2, rest.3.1)))
    where
      next_at : (m b : DeclKey) (ms : List DeclKey) → UsesAlong written m ms b → (n : ℕ) × (number_of (keys_of written) m ≡ Some n)
      next_at m b [] u = (let at = at_found written m u.0 u.1 in (at.0, at.1.numbered))
      next_at m b (l ∷ ms) u = (let at = at_found written m u.0.0 u.0.1 in (at.0, at.1.numbered))

  pub loop_there : (i : ℕ) (k : DeclKey) → number_of (keys_of written) k ≡ Some i → IsLooped written k → HasLoop edges edges i
  loop_there i k ki loop = (let w = walk_there i i k k loop.0 ki ki loop.1 in
      let back : Reaches edges w.0.to w.0.from = subst (λ (x : ℕ). Reaches edges w.0.to x) (sym w.2) w.3 in
      (w.0, w.1, w.2, inr back))

  -- the key of the type with a number uses what its edges lead to
  edge_use : (e : Edge) (a b : DeclKey) → number_of (keys_of written) a ≡ Some e.from → number_of (keys_of written) b ≡ Some e.to → Contains edges e → Uses written a b
  edge_use e a b an bn h =
      let u = uses_of (keys_of written) written 0 e h in
      let q = u.3 in
      let at = at_number written a e.from an in
      let ei : e.from ≡ u.0 = omega (arith, q) in
      let same : Some u.1 ≡ Some at.0 = sym u.4 ∙ (sym (ap (slice_get written) ei) ∙ at.1.stands) in
      let ua : u.1 ≡ at.0 = cc in
      let ba = at_number written b e.to bn in
      let ka = at_number written u.2 e.to u.6 in
      let same_b : Some ba.0 ≡ Some ka.0 = sym ba.1.stands ∙ ka.1.stands in
      let eb : ba.0 ≡ ka.0 = cc in
      let kb : u.2 ≡ b = sym ka.1.key ∙ (sym (ap (λ (x : Entry). x.key) eb) ∙ ba.1.key) in
      let uses : Contains (direct_keys at.0.term) u.2 = subst (λ (x : Entry). Contains (direct_keys x.term) u.2) ua u.5 in
      (at.0, at.1.found, subst (λ (x : DeclKey). Contains (direct_keys at.0.term) x) kb uses)

  -- the end of an edge is the number of a key
  end_key : (e : Edge) → Contains edges e → (k : DeclKey) × (number_of (keys_of written) k ≡ Some e.to)
  end_key e h = (let u = uses_of (keys_of written) written 0 e h in (u.2, u.6))

  along_back : (es : List Edge) (e : Edge) (a b : DeclKey) (j : ℕ) → number_of (keys_of written) a ≡ Some e.from → number_of (keys_of written) b ≡ Some j → Contains edges e → Leads edges es e.to j → (between : List DeclKey) × UsesAlong written a between b
  along_back [] e a b j an bj h leads = ([], edge_use e a b an (bj ∙ ap Some (sym leads)) h)
  along_back (f ∷ es) e a b j an bj h leads =
      let m = end_key e h in
      let mf : number_of (keys_of written) m.0 ≡ Some f.from = m.1 ∙ ap Some (sym leads.1) in
      let rest = along_back es f m.0 b j mf bj leads.0 leads.2 in
      (m.0 ∷ rest.0, (edge_use e a m.0 an m.1 h, rest.1))

  pub loop_back : (i : ℕ) (k : DeclKey) → number_of (keys_of written) k ≡ Some i → HasLoop edges edges i → IsLooped written k
  loop_back i k ki loop =
      let e : Edge = loop.0 in
      let an : number_of (keys_of written) k ≡ Some e.from = ki ∙ ap Some (sym loop.2) in
      elim loop.3 [
        | inl q ↦ along_back [] e k k e.from an an loop.1 q
        | inr r ↦ along_back r.0 e k k e.from an an loop.1 r.1
      ]

  -- marks of the starts of edges on cycles are those of types that reach themselves
  pub are_looped : (marks : List Bool) → ((i : ℕ) → (get_or marks i false ≡ true) ↔ HasLoop edges edges i) → AreLoopedEntries written marks
  are_looped marks h i w at =
      let n = (at_place written i w apart at).numbered in
      ((λ yes. loop_back i w.key n ((h i).0 yes)), (λ loop. (h i).1 (loop_there i w.key n loop)))

  -- ranks fall along the edges from what has no mark
  pub falls : (marks : List Bool) (ranks : List ℕ) → IsRanking edges ranks → ((i : ℕ) → (get_or marks i false ≡ true) ↔ HasLoop edges edges i) → Falls written marks
  falls marks ranks ranking h = (
    (λ i. get_or ranks i 0),
    λ i j w k at unmarked uses kj.
        (let there : Contains edges (edge (0 + i) j) = uses_there (keys_of written) written 0 i j w k at uses kj in
        let e : 0 + i ≡ i = omega arith in
        let here : Contains edges (edge i j) = subst (λ (x : ℕ). Contains edges (edge x j)) e there in
        let ranked : IsRanked edges ranks (edge i j) = All-contains (IsRanked edges ranks) edges (edge i j) ranking here in
        below i j (get_or marks i false) ranks unmarked ranked.0 (λ same. (h i).1 (edge i j, here, refl, ranked.1.0 same))),
  )
    where
      below : (i j : ℕ) (b : Bool) (ranks : List ℕ) → b ≡ false → get_or ranks j 0 ≤ get_or ranks i 0 → (get_or ranks j 0 ≡ get_or ranks i 0 → b ≡ true) → get_or ranks j 0 < get_or ranks i 0
      below i j b ranks unmarked le h = elim (cases_eq (get_or ranks j 0) (get_or ranks i 0)) [
        | inl e ↦ (let yes = h e in absurd (cc))
        | inr ne ↦ omega (arith, le, ne)
      ]

  pub in_range : InRange (length written) edges
  in_range = all_in_range edges (λ e h. (let u = uses_of (keys_of written) written 0 e h in
      let q = u.3 in
      let lt = slice_get_within written u.0 u.1 u.4 in
      (omega (arith, q, lt), number_below written u.2 e.to u.6)))
    where
      all_in_range : (es : List Edge) → ((e : Edge) → Contains es e → (e.from < length written) × (e.to < length written)) → InRange (length written) es
      all_in_range es h k d lt = h (get_or es k d) (Contains-get_or es k d lt)

-- marks made edge by edge

pub marks_none : (all some : List Edge) (count : ℕ) (marks : List Bool) → marks ≡ replicate count false → some ≡ [] → MarksTo all some count marks
marks_none all some count marks e none = record {
  as_many = ap length e ∙ length-replicate count false;
  each = λ i. (
    (λ yes. (let no = ap (λ l. get_or l i false) e ∙ all_false count i in absurd (cc))),
    (λ h. absurd (none_there h.0 (subst (λ (l : List Edge). Contains l h.0) none h.1))),
  );
}
  where
    all_false : (n i : ℕ) → get_or (replicate n false) i false ≡ false
    all_false zero i = refl
    all_false (suc n) zero = refl
    all_false (suc n) (suc i) = all_false n i

loop_more : (all some : List Edge) (x : Edge) (i : ℕ) → HasLoop all some i → HasLoop all (some ++ x ∷ []) i
loop_more all some x i h = (h.0, Contains-append_left some (x ∷ []) h.0 h.1, h.2, h.3)

pub marks_other : (all some : List Edge) (count : ℕ) (marks : List Bool) (x : Edge) → (IsOnCycle all x → ⊥) → MarksTo all some count marks → MarksTo all (some ++ x ∷ []) count marks
marks_other all some count marks x off m = record {
  as_many = m.as_many;
  each = λ i. (
    (λ yes. loop_more all some x i ((m.each i).0 yes)),
    (λ h. elim (Contains-push_cases some x h.0 h.1) [
      | inl old ↦ (m.each i).1 (h.0, old, h.2, h.3)
      | inr e ↦ absurd (off (subst (IsOnCycle all) (sym e) h.3))
    ]),
  );
}

pub marks_here : (all some : List Edge) (count : ℕ) (marks : List Bool) (x : Edge) → x.from < count → IsOnCycle all x → MarksTo all some count marks → MarksTo all (some ++ x ∷ []) count (set marks x.from true)
marks_here all some count marks x lt on m = record {
  as_many = length-set marks x.from true ∙ m.as_many;
  each = λ i. elim (cases_eq i x.from) [
    | inl e ↦ (
      (λ yes. (x, Contains-push some x, sym e, on)),
      (λ h. ap (λ n. get_or (set marks x.from true) n false) e ∙ get_or-set_same marks x.from true false (let n = m.as_many in omega (arith, lt, n))),
    )
    | inr ne ↦ (
      (λ yes. loop_more all some x i ((m.each i).0 (sym (get_or-set_other marks x.from i true false ne) ∙ yes))),
      (λ h. get_or-set_other marks x.from i true false ne ∙ (m.each i).1 (elim (Contains-push_cases some x h.0 h.1) [
        | inl old ↦ (h.0, old, h.2, h.3)
        | inr q ↦ absurd (ne (sym h.2 ∙ ap (λ (y : Edge). y.from) (sym q)))
      ])),
    )
  ];
}

-- edges made step by step

pub uses_both : (keys : List DeclKey) (i : ℕ) (ks js : List DeclKey) → uses_from keys i (ks ++ js) ≡ uses_from keys i ks ++ uses_from keys i js
uses_both keys i [] js = refl
uses_both keys i (k ∷ ks) js = by_number (number_of keys k) (uses_both keys i ks js)
  where
    by_number : (o : Option ℕ) → uses_from keys i (ks ++ js) ≡ uses_from keys i ks ++ uses_from keys i js → edge_to i o (uses_from keys i (ks ++ js)) ≡ edge_to i o (uses_from keys i ks) ++ uses_from keys i js
    by_number None rest = rest
    by_number (Some j) rest = ap (λ es. edge i j ∷ es) rest

pub marks_step : (all some : List Edge) (count : ℕ) (old new : List Bool) (x : Edge) (on : Bool) → x.from < count → ((on ≡ true) ↔ IsOnCycle all x) → new ≡ marks_if old x.from on → MarksTo all some count old → MarksTo all (some ++ x ∷ []) count new
marks_step all some count old new x true lt says made h = subst (λ m. MarksTo all (some ++ x ∷ []) count m) (sym made) (marks_here all some count old x lt (says.0 refl) h)
marks_step all some count old new x false lt says made h = subst (λ m. MarksTo all (some ++ x ∷ []) count m) (sym made) (marks_other all some count old x (λ on. (let both = says.1 on in absurd (cc))) h)

pub marks_more : (all : List Edge) (count : ℕ) (old new : List Bool) (n : ℕ) (x : Edge) (on : Bool) → n < length all → x ≡ get_or all n x → x.from < count → ((on ≡ true) ↔ IsOnCycle all x) → new ≡ marks_if old x.from on → MarksTo all (take n all) count old → MarksTo all (take (n + 1) all) count new
marks_more all count old new n x on lt is below says made h =
    let more : take (n + 1) all ≡ take n all ++ x ∷ [] = take_more all n x lt ∙ ap (λ y. take n all ++ y ∷ []) (sym is) in
    subst (λ l. MarksTo all l count new) (sym more) (marks_step all (take n all) count old new x on below says made h)

pub marks_all : (all : List Edge) (count : ℕ) (marks : List Bool) (n : ℕ) → length all ≤ n → MarksTo all (take n all) count marks → MarksTo all all count marks
marks_all all count marks n le h = subst (λ l. MarksTo all l count marks) (take_all n all le) h

-- what the marks say

pub marked_looped : (written : List Entry) (apart : Apart written) (marks : List Bool) → MarksTo (edges written apart) (edges written apart) (length written) marks → AreLoopedEntries written marks
marked_looped written apart marks m = are_looped written apart marks m.each

pub marked_falls : (written : List Entry) (apart : Apart written) (marks : List Bool) (ranks : List ℕ) → IsRanking (edges written apart) ranks → MarksTo (edges written apart) (edges written apart) (length written) marks → Falls written marks
marked_falls written apart marks ranks ranking m = falls written apart marks ranks ranking m.each
