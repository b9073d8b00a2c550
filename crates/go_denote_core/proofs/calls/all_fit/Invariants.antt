use Rattle.std.proofs.Common.{◌≡◌, drop}
use Rattle.go_denote_core.specs.Look.{look_of}
use Rattle.go_denote_core.specs.Calls.{all_fit}
use Rattle.go_denote_core.proofs.calls.all_fit.Given as goal

abbrev pub invariant-loop-at : goal.invariant-loop-at
invariant-loop-at g l =
    let look = look_of (g.E.TypeLooks.types l.env) (g.E.Names.names l.env) in
    let params = (g.E.Names.names l.env).params l.signature in
    all_fit look (drop l.at l.arguments) (drop l.at params) ≡ all_fit look l.arguments params
