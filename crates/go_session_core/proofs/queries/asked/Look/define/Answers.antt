use Rattle.std.proofs.Common.{ℕ, List, Err, subst}
use Rattle.go_session_core.specs.queries.Queries.{IsDefineAnswer}
use Rattle.go_session_core.proofs.QueriesAnswered.{refuses_look}
use Rattle.go_session_core.proofs.queries.asked.Look.define.Goals as goal

pub returns : goal.returns
returns c =
    let s = c.in_ok-snapshot.snapshot.now in
    let told = subst (λ (p : List ℕ). IsDefineAnswer p c.args.file.now c.args.offset s (Err c.in-Err.rule)) c.in_ok-path.ensures.ok.0 c.in-Err.ensures in
    refuses_look c.args.self.now c.self.inside.own c.args.path.now c.self.inside.board (IsDefineAnswer c.args.path.now c.args.file.now c.args.offset) c.in-Err.rule s c.in_ok-path.ensures.ok.1 c.in_ok-snapshot.ensures.ok told c.self.view_is
