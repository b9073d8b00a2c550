use Rattle.std.proofs.Common.{ℕ, List, Ok, Err, subst}
use Rattle.go_session_core.specs.queries.Queries.{IsRunAnswer}
use Rattle.go_session_core.proofs.QueriesAnswered.{answers_look, refuses_look}
use Rattle.go_session_core.proofs.queries.asked.Look.run.Goals as goal

pub returns-in-Ok : goal.returns-in-Ok
returns-in-Ok c =
    let s = c.in_ok-snapshot.snapshot.now in
    let told = subst (λ (p : List ℕ). IsRunAnswer p c.args.steps s (Ok c.in-Ok.run')) c.in_ok-path.ensures.ok.0 c.in-Ok.ensures in
    answers_look c.args.self.now c.self.inside.own c.args.path.now c.self.inside.board (IsRunAnswer c.args.path.now c.args.steps) c.batches.result c.in-Ok.run' s c.in_ok-path.ensures.ok.1 c.batches.ensures c.in_ok-snapshot.ensures.ok told c.self.view_is

pub returns : goal.returns
returns c =
    let s = c.in_ok-snapshot.snapshot.now in
    let told = subst (λ (p : List ℕ). IsRunAnswer p c.args.steps s (Err c.in-Err.rule)) c.in_ok-path.ensures.ok.0 c.in-Err.ensures in
    refuses_look c.args.self.now c.self.inside.own c.args.path.now c.self.inside.board (IsRunAnswer c.args.path.now c.args.steps) c.in-Err.rule s c.in_ok-path.ensures.ok.1 c.in_ok-snapshot.ensures.ok told c.self.view_is
