use Rattle.go_tree_nodes.specs.Shapes.{lines_of}
use Rattle.go_local_core.specs.Outline.{lines_steps}
use Rattle.go_names_core.specs.mirrors.States.{state}
use Rattle.go_env_core.specs.declared.meaning.Meaning.TheVariants as meanings
use Rattle.go_body_core.specs.Rules.{rules_of}
use Rattle.go_branch_core.specs.mirrors.WayLaws.{ended}
use Rattle.go_branch_core.proofs.branches.check_in_turn.Goals as goal

pub returns : goal.returns
returns g c =
    let before = c.args.walk.now in
    let after = c.visit_run.new.visitor in
    ended meanings.Outside
    (state (rules_of before.checker.now.pieces) before.scopes before.locals.items before.notes.items before.faults.items before.lacks_memory)
    (state (rules_of after.checker.now.pieces) after.scopes after.locals.items after.notes.items after.faults.items after.lacks_memory)
    (λ rest. lines_steps (lines_of c.args.lines.now) rest) c.visit_run.ensures
