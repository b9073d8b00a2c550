use Rattle.std.proofs.Common.{◌≡◌}
use Rattle.go_tree_nodes.specs.Shapes.{func_of}
use Rattle.go_local_core.specs.Tables.{walked}
use Rattle.go_names_core.specs.Scope.{beyond_in}
use Rattle.go_names_core.specs.mirrors.Run.{noted}
use Rattle.go_names_core.specs.mirrors.States.{state}
use Rattle.go_names_core.proofs.Runs.{noted_of}
use Rattle.go_names_core.proofs.BodyLemmas.{noted_is, are_walked, are_given}
use Rattle.go_names_core.proofs.function.check_function.Given as start
use Rattle.go_names_core.proofs.function.check_function.Goals as goal

in_the_end : (g : start.Over) (c : goal.After-drop-walker-3 g) → noted c.visit_lines.new.visitor.notes.items c.visit_lines.new.visitor.faults.items ≡ noted_of (walked (g.C.Checker.rules c.args.checker.now) (beyond_in g.C.Meaning.Meant.outside c.args.blocks.now c.args.file) (func_of c.args.func.now))
in_the_end g c =
    let between = c.header.new.self in
    let last = c.visit_lines.new.visitor in
    noted_is g.C.Meaning.Meant.outside (g.C.Checker.rules c.args.checker.now) (g.met.C.Checker.at_names c.args.checker.now) c.args.blocks.now c.args.file c.args.func.now
    c.header.result (g.C.Checker.rules between.checker.now) c.begin.result between.scopes c.new.result.items between.locals.items c.new-2.result.items between.notes.items c.new-3.result.items between.faults.items c.is_err.result
    (state (g.C.Checker.rules last.checker.now) last.scopes last.locals.items last.notes.items last.faults.items last.lacks_memory)
    c.begin.ensures c.new.ensures.items c.new-2.ensures.items c.new-3.ensures.items c.is_err.ensures.value c.header.ensures c.visit_lines.ensures c.if-walker.false

pub returns-clause-walked : goal.returns-clause-walked
returns-clause-walked g c = are_walked g.C.Meaning.Meant.outside (g.C.Checker.rules c.args.checker.now) (g.met.C.Checker.at_names c.args.checker.now) c.args.blocks.now c.args.file c.args.func.now c.visit_lines.new.visitor.notes.items c.visit_lines.new.visitor.faults.items (in_the_end g c)

pub returns-clause-given : goal.returns-clause-given
returns-clause-given g c = are_given g.C.Meaning.Meant.outside (g.C.Checker.rules c.args.checker.now) (g.met.C.Checker.at_names c.args.checker.now) c.args.blocks.now c.args.file c.args.func.now c.requires.placed c.visit_lines.new.visitor.notes.items c.visit_lines.new.visitor.faults.items (in_the_end g c)
