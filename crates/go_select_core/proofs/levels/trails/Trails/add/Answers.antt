use Rattle.std.proofs.Common.{◌≡◌, ◌<◌, ◌++◌, ◌∷◌, [], length, get_or, subst, sym, ap, ◌∙◌, arith}
use Rattle.go_select_core.specs.levels.mirrors.Trails.{paths_of, Climbs}
use Rattle.go_select_core.proofs.LevelsWayLemmas.{paths_push, climbs_push}
use Rattle.go_select_core.proofs.levels.trails.Trails.add.Goals as goal

pub invariant_of-self-2 : goal.invariant_of-self-2
invariant_of-self-2 c =
    let v : length (paths_of c.self.inside.links.items) ≡ length c.args.self.now = ap length c.self.view_is in
    let less : c.args.before < length (paths_of c.self.inside.links.items) = omega (arith, v, c.requires) in
    subst Climbs (sym c.in_ok-push.ensures.items) (climbs_push c.self.inside.links.items _ c.self.invariant less)

pub returns : goal.returns
returns c =
    ap paths_of c.in_ok-push.ensures.items
    ∙ paths_push ([] ∷ []) c.self.inside.links.items (record { before = c.args.before; step = c.args.step })
    ∙ ap (λ ps. ps ++ (get_or ps c.args.before [] ++ c.args.step ∷ []) ∷ []) c.self.view_is
