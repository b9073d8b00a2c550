use Rattle.std.proofs.Common.{◌≡◌, ◌<◌, ℕ, List, All, length, ◌∙◌, sym, ap, subst}
use Rattle.go_digraph_core.specs.needs.Needs.{rows_of, needed}
use Rattle.go_digraph_core.proofs.NeedsReading.{rows_count, row_read}
use Rattle.go_digraph_core.proofs.NeedsEdges.{row_inside}
use Rattle.go_value_core.proofs.back.own_ranks.Goals as goal

pub has_own_rank-requires-clause-row : goal.has_own_rank-requires-clause-row
has_own_rank-requires-clause-row c =
    let needs = c.args.needs.now in
    let a = c.loop-node.node in
    let P : List ℕ → Type 0 = λ l. All (λ b. b < length c.args.ranks.now) l in
    let Q : ℕ → Type 0 = λ n. All (λ b. b < n) (needed (rows_of needs) a) in
    subst P (row_read needs a c.index-needs-node.result c.loop-node-test.true c.index-needs-node.is ∙ sym c.deref.ensures.value)
    (subst Q (rows_count needs ∙ sym c.requires.ranks) (row_inside (rows_of needs) c.requires.inside a))
