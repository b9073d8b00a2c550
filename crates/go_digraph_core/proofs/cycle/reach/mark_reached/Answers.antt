use Rattle.std.proofs.Common.{List, ℕ, ◌<◌, All, length, subst, sym, rules}
use Rattle.go_digraph_core.specs.cycle.mirrors.Search.{MarksRow}
use Rattle.go_digraph_core.proofs.CycleMarks.{search_more, search_ends}
use Rattle.go_digraph_core.proofs.CyclePlaces.{row_in_range}
use Rattle.go_digraph_core.proofs.cycle.reach.mark_reached.Goals as goal

pub visit_row-requires-clause-row : goal.visit_row-requires-clause-row
visit_row-requires-clause-row c =
    let P : List ℕ → Type 0 = λ l. All (λ k. k < length c.args.edges.now) l in
    subst P (sym c.row_of.ensures) (row_in_range c.args.edges.now c.args.rows.now c.in-Some.node c.requires.rows)

pub loop-node-preserved : goal.loop-node-preserved
loop-node-preserved c =
    let P : List ℕ → Type 0 = λ l. MarksRow c.args.edges.now l c.loop-node.marks c.visit_row.new.marks c.pop.new.self.items c.visit_row.new.stack.items in
    search_more c.args.edges.now c.args.start c.args.rows.now c.loop-node.marks c.visit_row.new.marks c.in-Some.node c.loop-node.stack.items c.pop.new.self.items c.visit_row.new.stack.items c.requires.rows c.in-Some.ensures.items c.loop-node.invariant (subst P c.row_of.ensures c.in_ok-visit_row.ensures)

pub returns : goal.returns
returns c = search_ends c.args.edges.now c.args.start c.loop-node.marks c.loop-node.stack.items (search rules) c.loop-node.invariant
