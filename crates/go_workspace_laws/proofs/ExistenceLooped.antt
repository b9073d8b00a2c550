-- Which entries reach themselves is decided.
use Rattle.std.proofs.Common.{◌≡◌, ◌↔◌, ◌⊎◌, inl, inr, ℕ, zero, suc, ◌+◌, ◌<◌, ◌≤◌, Bool, false, List, [], length, get_or, take, refl, sym, subst, arith}
use Rattle.std.specs.Prelude.{IsTrue, replicate}
use Rattle.std.proofs.lemmas.Option.{get_or_from_slice_get}
use Rattle.go_digraph_core.specs.declared.cycle.edge.Edge.{Edge}
use Rattle.go_digraph_core.specs.cycle.Cycle.{InRange, IsOnCycle}
use Rattle.go_term_core.specs.decl_core.declared.keys.DeclKey.{DeclKey}
use Rattle.go_body_core.specs.table_core.Entries.{Entry}
use Rattle.go_body_core.specs.table_core.Tables.{KeysRise}
use Rattle.go_graph_core.proofs.Places.{some_item}
use Rattle.go_graph_core.proofs.Reaching.{reach_decided}
use Rattle.go_select_core.specs.type_core.Built.{AreLoopedEntries, IsLooped}
use Rattle.go_select_core.specs.type_core.mirrors.Edges.{Falls, MarksTo, all_uses, marks_if}
use Rattle.go_select_core.specs.type_core.mirrors.Numbers.{keys_of}
use Rattle.go_select_core.specs.type_core.Building.{looped_are, looped_key}
use Rattle.go_select_core.specs.type_core.Keyed.{rise_apart}
use Rattle.go_select_core.specs.type_core.Looping.{in_range, marked_falls, marked_looped, marks_all, marks_more, marks_none}
use Rattle.go_workspace_laws.proofs.ExistenceOrders.{holds, holds_is, ranks_of, ranks_rank}

pub cycle_decided : (g : List Edge) (e : Edge) → IsOnCycle g e ⊎ (IsOnCycle g e → ⊥)
cycle_decided g e = elim (reach_decided g e.to e.from) [
  | inl r ↦ inl (inr r)
  | inr off ↦ inr (λ h. elim h [ inl same ↦ off ([], same) | inr r ↦ off r ])
]

module _ (all : List Edge) (count : ℕ) (within : InRange count all) where
  marks_to : (n : ℕ) → n ≤ length all → (marks : List Bool) × MarksTo all (take n all) count marks
  marks_to zero le = (replicate count false, marks_none all (take 0 all) count (replicate count false) refl refl)
  marks_to (suc n) le =
      let lt : n < length all = omega (arith, le) in
      let more : n + 1 ≡ suc n = omega arith in
      let old = marks_to n (omega (arith, le)) in
      let item = some_item all n lt in
      let x : Edge = item.0 in
      let is : get_or all n x ≡ x = get_or_from_slice_get all n x x item.1 in
      let below : x.from < count = subst (λ (e : Edge). e.from < count) is (within n x lt).0 in
      let on : Bool = holds (cycle_decided all x) in
      let new : List Bool = marks_if old.0 x.from on in
      (new, subst (λ m. MarksTo all (take m all) count new) more (marks_more all count old.0 new n x on lt (sym is) below (holds_is (cycle_decided all x)) refl old.1))

  marks : (marks : List Bool) × MarksTo all all count marks
  marks = (let m = marks_to (length all) (omega arith) in (m.0, marks_all all count m.0 (length all) (omega arith) m.1))

module _ (written : List Entry) (rise : KeysRise written) where
  abbrev edges : List Edge
  edges = all_uses (keys_of written) 0 written

  within_written : InRange (length written) edges
  within_written = in_range written (rise_apart written rise)

  -- marks of those that reach themselves
  pub record AreMarked (looped : List Bool) : Type 0 where
    pub as_many : length looped ≡ length written
    pub are : AreLoopedEntries written looped
    pub falls : Falls written looped

  pub marked : (looped : List Bool) × AreMarked looped
  marked =
      let m = marks edges (length written) within_written in (
        m.0,
        record {
          as_many = m.1.as_many;
          are = marked_looped written (rise_apart written rise) m.0 m.1;
          falls = marked_falls written (rise_apart written rise) m.0 (ranks_of edges (length written)) (ranks_rank edges (length written) within_written) m.1;
        },
      )

  -- a test of keys
  pub loops_decided : (looped : DeclKey → Bool) × ((k : DeclKey) → IsTrue (looped k) ↔ IsLooped written k)
  loops_decided = (let m = marked in (looped_key (keys_of written) m.0, looped_are written m.0 m.1.are))
