use Rattle.std.proofs.Common.{◌++◌, ◌∷◌, [], map, string_bytes, subst, sym, take}
use Rattle.go_diagnostic_core.specs.Near.{IsBest}
use Rattle.go_diagnostic_core.specs.mirrors.Nears.{near_shown}
use Rattle.go_diagnostic_core.proofs.Best.{shown_more}
use Rattle.go_diagnostic_core.proofs.near.best_of.Goals as goal

pub loop-name-preserved : goal.loop-name-preserved
loop-name-preserved c =
    let spelled = c.args.spelled.now in
    let names = c.args.names.now in
    let i = c.loop-name.name-index in
    let best = near_shown c.in_ok-best.best in
    let step = c.in_ok-best.ensures (map string_bytes (take i names)) c.loop-name.invariant in
    let shown = subst (λ n. IsBest spelled (map string_bytes (take i names) ++ n ∷ []) best) c.as_str.ensures.value step in
    subst (λ ns. IsBest spelled ns best) (sym (shown_more string_bytes names i c.name-item.result c.loop-name-test.true c.name-item.is)) shown
