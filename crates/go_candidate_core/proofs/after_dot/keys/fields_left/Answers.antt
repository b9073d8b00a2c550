use Rattle.std.proofs.Common.{◌≡◌, List, ℕ, IfOk, map, subst}
use Rattle.go_candidate_core.proofs.AfterDotLeaving.{left_same}
use Rattle.go_candidate_core.proofs.after_dot.keys.fields_left.Goals as goal

pub returns : goal.returns
returns g c =
    let fields = (g.E.Literals.literals c.args.env.now).fields c.args.t.now in
    subst (λ (l : List (List ℕ)). IfOk c.names_left.result (λ names. map (λ n. n.now) names.items ≡ l))
    (left_same fields (map (λ n. n.now) c.in_ok-others.others.keys) (map (λ n. n.now) c.args.others.now) c.in_ok-others.ensures) c.names_left.ensures
