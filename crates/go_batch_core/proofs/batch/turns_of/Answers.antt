use Rattle.std.proofs.Common.{ℕ, Vec, Global, length, map, sym, ap, subst, ◌∙◌}
use Rattle.std.specs.Arc.{arc_value}
use Rattle.std.proofs.lemmas.List.{length-map}
use Rattle.go_block_core.specs.graph_core.Plans.{AreImporters}
use Rattle.go_digraph_core.specs.ready_queue.Turns.{TurnsModel}
use Rattle.go_batch_core.specs.mirrors.Keeping.{mark_of}
use Rattle.go_batch_core.proofs.Beginning.{fresh_marks, nodes_of}
use Rattle.go_batch_core.proofs.batch.turns_of.Goals as goal

pub new-requires-clause-fresh : goal.new-requires-clause-fresh
new-requires-clause-fresh c = fresh_marks c.args.slots.now c.in_ok-marks.marks.items c.requires.fresh c.in_ok-marks.ensures

pub new-requires-clause-many : goal.new-requires-clause-many
new-requires-clause-many c = c.in_ok-needing.ensures.many ∙ sym c.requires.many ∙ sym (length-map c.args.slots.now mark_of) ∙ ap length (sym c.in_ok-marks.ensures)

pub new-requires-clause-nodes : goal.new-requires-clause-nodes
new-requires-clause-nodes c = nodes_of c.args.plan.now (map (λ (r : Vec ℕ Global). r.items) (arc_value c.in_ok-needing.needing).items) (length c.in_ok-marks.marks.items) c.in_ok-needing.ensures.rows (ap length c.in_ok-marks.ensures ∙ length-map c.args.slots.now mark_of ∙ c.requires.many)

pub returns-clause-importers : goal.returns-clause-importers
returns-clause-importers c = subst (λ (t : TurnsModel). AreImporters c.args.plan.now t.needing) (sym c.in_ok-turns.ensures) c.in_ok-needing.ensures.rows
