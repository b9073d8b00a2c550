use Rattle.std.proofs.Common.{◌≡◌, false, subst}
use Rattle.go_tree_nodes.specs.Shapes.{func_of, lines_of}
use Rattle.go_local_core.specs.Outline.{lines_steps}
use Rattle.go_local_core.specs.Tables.{walked}
use Rattle.go_names_core.specs.Scope.{beyond_in}
use Rattle.go_names_core.specs.mirrors.States.{State, state}
use Rattle.go_names_core.proofs.Runs.{noted_of}
use Rattle.go_env_core.specs.declared.meaning.Meaning.{Meaning}
use Rattle.go_env_core.specs.declared.meaning.Meaning.TheVariants as meanings
use Rattle.go_body_core.specs.Notes.{NoteOf}
use Rattle.go_body_core.specs.Rules.{rules_of}
use Rattle.go_body_core.specs.mirrors.Names.{rules_look_at_names}
use Rattle.go_branch_core.specs.mirrors.Ways.{EndsTo}
use Rattle.go_branch_core.proofs.Whole.{noted_is, walked_ok, given_ok}
use Rattle.go_branch_core.proofs.branches.check_parts.Given as start
use Rattle.go_branch_core.proofs.branches.check_parts.Goals as goal

abbrev last : (g : start.Over) → goal.After-end g → State Meaning NoteOf
last g c =
    let after = c.check_lines.new.walk in
    state (rules_of after.checker.now.pieces) after.scopes after.locals.items after.notes.items after.faults.items after.lacks_memory

in_the_end : (g : start.Over) (c : goal.After-end g) → (last g c).lacks_memory ≡ false
    → (last g c).noted ≡ noted_of (walked (rules_of c.args.checker.now.pieces) (beyond_in meanings.Outside c.args.checker.now.pieces.scene.now.blocks.now c.args.checker.now.pieces.file) (func_of c.args.func.now))
in_the_end g c ok =
    let between = c.header.new.self in
    noted_is meanings.Outside (rules_of c.args.checker.now.pieces) c.args.checker.now.pieces.scene.now.blocks.now c.args.checker.now.pieces.file c.args.func.now
    c.header.result (rules_of between.checker.now.pieces) c.begin.result between.scopes c.new.result.items between.locals.items c.new-2.result.items between.notes.items c.new-3.result.items between.faults.items c.is_err.result
    (last g c) c.begin.ensures c.new.ensures.items c.new-2.ensures.items c.new-3.ensures.items c.is_err.ensures.value c.header.ensures
    (subst (λ ls. EndsTo meanings.Outside (state (rules_of between.checker.now.pieces) between.scopes between.locals.items between.notes.items between.faults.items c.is_err.result) (λ rest. lines_steps (lines_of ls) rest) (last g c)) c.as_slice-lines.ensures.value c.check_lines.ensures) ok

pub returns-clause-walked : goal.returns-clause-walked
returns-clause-walked g c =
    walked_ok meanings.Outside (rules_of c.args.checker.now.pieces) c.args.checker.now.pieces.scene.now.blocks.now c.args.checker.now.pieces.file c.args.func.now c.end.result (last g c)
    (rules_look_at_names c.args.checker.now.pieces) (in_the_end g c) c.end.ensures.ample c.end.ensures.notes c.end.ensures.faults

pub returns-clause-given : goal.returns-clause-given
returns-clause-given g c =
    given_ok meanings.Outside (rules_of c.args.checker.now.pieces) c.args.checker.now.pieces.scene.now.blocks.now c.args.checker.now.pieces.file c.args.func.now c.end.result (last g c)
    (rules_look_at_names c.args.checker.now.pieces) c.requires.placed (in_the_end g c) c.end.ensures.ample c.end.ensures.notes c.end.ensures.faults
