use Rattle.std.proofs.Common.{ap}
use Rattle.std.proofs.Crossing.{crosses}
use denote.Param.{param}
use denote.Param.Send.{IsSync, sendable}
use Rattle.go_names_core.specs.mirrors.States.{state}
use Rattle.go_env_core.specs.declared.meaning.Meaning.TheVariants as meanings
use Rattle.go_body_core.specs.Rules.{rules_of}
use Rattle.go_branch_core.proofs.Crossing.{branches_cross}
use Rattle.go_branch_core.proofs.Forked.{ends_behind, forked_ends, rest_noted}
use Rattle.go_branch_core.proofs.branches.+branches.Goals as goal

pub check_halves-join-first-requires-send-F : goal.check_halves-join-first-requires-send-F
check_halves-join-first-requires-send-F g t c κs within =
    let rt : IsSync (param 0 g.row.R) = search depth 5 in
    search (branches_cross, crosses, sendable) depth 40

pub check_halves-join-first-requires-send-A : goal.check_halves-join-first-requires-send-A
check_halves-join-first-requires-send-A g t c κs = search (branches_cross, crosses, sendable) depth 40

pub check_rest-returns : goal.check_rest-returns
check_rest-returns g t c =
    let before = c.in_ok-walk.walk in
    let after = c.check_lines.new.walk in
    rest_noted meanings.Outside c.end.result (rules_of c.args.checker.now.pieces) (rules_of before.checker.now.pieces) (rules_of after.checker.now.pieces)
    c.args.scopes.now before.scopes after.scopes c.args.locals.now before.locals.items after.locals.items before.notes.items after.notes.items
    before.faults.items after.faults.items before.lacks_memory after.lacks_memory c.args.lines.now
    (ap (λ k. rules_of k.pieces) c.in_ok-walk.ensures.checker) c.in_ok-walk.ensures.scopes c.in_ok-walk.ensures.locals c.in_ok-walk.ensures.notes c.in_ok-walk.ensures.faults
    c.check_lines.ensures c.end.ensures.ample c.end.ensures.notes c.end.ensures.faults

pub check_lines-returns : goal.check_lines-returns
check_lines-returns g t c =
    let before = c.args.walk.now in
    let between = c.visit_run.new.visitor in
    let after = c.check_halves.new.walk in
    ends_behind meanings.Outside
    (state (rules_of before.checker.now.pieces) before.scopes before.locals.items before.notes.items before.faults.items before.lacks_memory)
    (state (rules_of between.checker.now.pieces) between.scopes between.locals.items between.notes.items between.faults.items between.lacks_memory)
    (state (rules_of after.checker.now.pieces) after.scopes after.locals.items after.notes.items after.faults.items after.lacks_memory)
    c.args.lines.now c.split_at.result.0.now c.split_at.result.1.now c.split_at.ensures.by_index.0 c.visit_run.ensures c.check_halves.ensures

pub check_halves-returns : goal.check_halves-returns
check_halves-returns g t c =
    let before = c.args.walk.now in
    let after = c.add_both.new.self in
    forked_ends meanings.Outside c.add_both.result c.join-first.result.0 c.join-first.result.1 (rules_of before.checker.now.pieces) (rules_of after.checker.now.pieces)
    before.scopes after.scopes before.locals.items after.locals.items c.as_slice-locals.result.now before.notes.items after.notes.items before.faults.items after.faults.items
    before.lacks_memory c.is_err-walk.result c.are_quiet.result c.args.lines.now c.split_at.result.0.now c.split_at.result.1.now
    c.split_at.ensures.by_index.0 c.are_quiet.ensures c.if-not-are_quiet.false c.if-walk.false c.is_err-walk.ensures.value
    (ap (λ k. rules_of k.pieces) c.add_both.ensures.checker) c.add_both.ensures.scopes c.add_both.ensures.locals c.as_slice-locals.ensures.value
    c.join-first.ensures.first c.join-first.ensures.second c.add_both.ensures.added
