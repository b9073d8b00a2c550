use Rattle.std.proofs.Common.{◌-◌, get_or, [], ap, ◌∙◌, reverse, arith}
use Rattle.go_select_core.proofs.LevelsListLemmas.{at_read}
use Rattle.go_select_core.proofs.LevelsWayLemmas.{path_link, path_end, link_within}
use Rattle.go_select_core.proofs.levels.trails.Trails.path.Goals as goal

pub index-link-requires : goal.index-link-requires
index-link-requires c =
    let l = link_within _ _ _ _ c.links.invariant c.links-test.true in
    omega (arith, l, c.self.inside.links.ok.0)

pub links-smaller : goal.links-smaller
links-smaller c =
    let l = link_within _ _ _ _ c.links.invariant c.links-test.true in
    let b = c.self.invariant.earlier (c.links.at - 1) c.index-link.result.now (at_read _ _ _ l c.index-link.ensures) in
    omega (arith, b, c.links-test.true)

pub links-preserved : goal.links-preserved
links-preserved c =
    let l = link_within _ _ _ _ c.links.invariant c.links-test.true in
    path_link c.self.inside.links.items c.args.number c.links.at c.index-link.result.now c.links.steps.items _ c.self.invariant c.links.invariant c.links-test.true (at_read _ _ _ l c.index-link.ensures) c.in_ok-push.ensures.ok

pub returns : goal.returns
returns c =
    path_end c.self.inside.links.items c.args.number c.links.at c.links.steps.items _ c.links.invariant c.links-test.false (c.reverse.ensures.items ∙ ap reverse (c.in_ok-path.ensures.items_if_clones_equal (λ x y e. e) ∙ c.as_slice.ensures))
    ∙ ap (λ ps. get_or ps c.args.number []) c.self.view_is
