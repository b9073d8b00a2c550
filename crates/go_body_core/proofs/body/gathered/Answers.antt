use Rattle.std.proofs.Common.{false, ◌++◌, ap, ◌∙◌}
use Rattle.go_tree_nodes.specs.Shapes.{func_of, lines_of}
use Rattle.go_local_core.specs.walks.Ends.{lines_loop_faults}
use Rattle.go_body_core.proofs.Gathering.{gathers}
use Rattle.go_body_core.proofs.body.gathered.Goals as goal

pub returns : goal.returns
returns c =
    let loops_are = c.in_ok-lines_loop_faults.ensures ∙ ap (λ l. l ++ lines_loop_faults false (lines_of c.args.func.now.body.items)) c.new-loops.ensures.items in (
      c.in_ok-uses.ensures.uses,
      gathers (func_of c.args.func.now) c.args.notes.items c.args.names.now c.lines_loop_faults.new.faults.items c.as_slice.result.now c.in_ok-uses.field-0.uses.items c.as_slice-2.result.now
          c.in_ok-uses.field-0.faults.items c.extend_from_slice.new.self.items c.extend_from_slice-2.new.self.items c.add_end.new.faults.items
          c.in_ok-uses.ensures.uses c.in_ok-uses.ensures.faults c.in_ok-extend_from_slice.ensures.items loops_are c.as_slice.ensures.value c.in_ok-extend_from_slice-2.ensures.items c.as_slice-2.ensures.value c.in_ok-add_end.ensures,
      c.in_ok-uses.ensures.locals,
    )
