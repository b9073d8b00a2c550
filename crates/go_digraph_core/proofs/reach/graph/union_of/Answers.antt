use Rattle.std.proofs.Common.{◌≡◌, ◌<◌, ◌⊎◌, ◌↔◌, List, ℕ, Contains, get_or, length, refl, subst, sym, ◌∙◌}
use Rattle.std.proofs.lemmas.List.{take_all, take_more}
use Rattle.std.proofs.lemmas.Option.{get_or_from_slice_get, slice_get_read}
use Rattle.go_digraph_core.specs.reach.Numbers.{Numbers, no_numbers}
use Rattle.go_digraph_core.specs.reach.mirrors.Filling.{IsUnion}
use Rattle.go_digraph_core.proofs.ReachFilled.{union_more}
use Rattle.go_digraph_core.proofs.reach.graph.union_of.Goals as goal

pub loop-end-preserved : goal.loop-end-preserved
loop-end-preserved c =
    let i : ℕ = c.loop-end.end-index in
    let sets : List Numbers = c.args.sets.now in
    let end : ℕ = get_or c.args.ends.now i 0 in
    let lt : end < length sets = c.requires.ends i 0 c.loop-end-test.true in
    let read : get_or sets end (no_numbers 0) ≡ c.index-sets-end.result = get_or_from_slice_get sets end c.index-sets-end.result (no_numbers 0) (slice_get_read sets (length sets) end c.index-sets-end.result refl lt c.index-sets-end.is) in
    let P : Numbers → Type 0 = λ s. (k : ℕ) → Contains c.add_all.new.self.members k ↔ (Contains c.insert.new.self.members k ⊎ Contains s.members k) in
    let Q : List ℕ → Type 0 = λ l. IsUnion l sets c.add_all.new.self.members in
    record {
      bound = c.add_all.ensures.bound ∙ (c.insert.ensures.bound ∙ c.loop-end.invariant.bound);
      members = subst Q (sym (take_more c.args.ends.now i 0 c.loop-end-test.true))
          (union_more _ end sets c.loop-end.set.members c.insert.new.self.members c.add_all.new.self.members c.loop-end.invariant.members c.insert.ensures.members (subst P (sym read) c.add_all.ensures.members));
    }

pub returns-clause-members : goal.returns-clause-members
returns-clause-members c =
    let Q : List ℕ → Type 0 = λ l. IsUnion l c.args.sets.now c.loop-end.set.members in
    subst Q (take_all c.loop-end.end-index c.args.ends.now c.loop-end-test.false) c.loop-end.invariant.members
