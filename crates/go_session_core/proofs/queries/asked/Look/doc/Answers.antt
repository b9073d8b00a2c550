use Rattle.std.proofs.Common.{ℕ, List, Err, subst}
use Rattle.go_session_core.specs.queries.Queries.{IsDocAnswer}
use Rattle.go_session_core.proofs.QueriesAnswered.{refuses_look}
use Rattle.go_session_core.proofs.queries.asked.Look.doc.Goals as goal

pub returns : goal.returns
returns c =
    let s = c.in_ok-snapshot.snapshot.now in
    let told = subst (λ (p : List ℕ). IsDocAnswer p c.args.path.now s (Err c.in-Err.rule)) c.in_ok-from.ensures.ok.0 c.in-Err.ensures in
    refuses_look c.args.self.now c.self.inside.own c.args.from.now c.self.inside.board (IsDocAnswer c.args.from.now c.args.path.now) c.in-Err.rule s c.in_ok-from.ensures.ok.1 c.in_ok-snapshot.ensures.ok told c.self.view_is
