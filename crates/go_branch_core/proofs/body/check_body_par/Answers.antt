use Rattle.std.proofs.Common.{◌∙◌}
use Rattle.go_tree_nodes.specs.Shapes.{func_of}
use Rattle.go_env_core.specs.Scenes.{scene_shown}
use Rattle.go_env_core.specs.Looks.{inline_rules}
use Rattle.go_body_core.specs.Rules.{body_rules}
use Rattle.go_body_core.proofs.Bodies.{same_rules, walked_ok, given_ok}
use Rattle.go_branch_core.proofs.body.check_body_par.Goals as goal

pub returns-clause-walked : goal.returns-clause-walked
returns-clause-walked g c =
    let s = scene_shown c.args.scene.now in
    let written = inline_rules s c.args.inline.now in
    let f = func_of c.args.func.now in
    let types = c.as_slice.result.now in
    let named = c.has_named_results.result in
    walked_ok s c.args.file c.args.known.now written f (body_rules s c.args.file c.args.known.now written types named)
    (same_rules s c.args.file c.args.known.now written f types named (c.as_slice.ensures.value ∙ c.in_ok-results.ensures) c.has_named_results.ensures)
    c.in_ok-checked.checked.notes.items c.as_slice-2.result.now c.in_ok-checked.checked.faults.items c.as_slice-2.ensures.value c.gathered.result c.in_ok-checked.ensures.walked c.gathered.ensures

pub returns-clause-given : goal.returns-clause-given
returns-clause-given g c =
    let s = scene_shown c.args.scene.now in
    let written = inline_rules s c.args.inline.now in
    let f = func_of c.args.func.now in
    let types = c.as_slice.result.now in
    let named = c.has_named_results.result in
    given_ok s c.args.file c.args.known.now written f (body_rules s c.args.file c.args.known.now written types named)
    (same_rules s c.args.file c.args.known.now written f types named (c.as_slice.ensures.value ∙ c.in_ok-results.ensures) c.has_named_results.ensures)
    c.in_ok-checked.checked.notes.items c.as_slice-2.result.now c.in_ok-checked.checked.faults.items c.as_slice-2.ensures.value c.gathered.result c.in_ok-checked.ensures.given c.gathered.ensures
