use Rattle.std.proofs.Common.{[], ◌∷◌, sym, subst}
use Rattle.std.proofs.lemmas.Result.{IfErr-weaker}
use Rattle.go_wire_core.specs.mirrors.Serving.{IsStop}
use Rattle.go_wire_core.specs.declared.step.Step.TheVariants.{Ask, Refuse}
use Rattle.go_wire_core.proofs.InOrder.{asked_done, refused_done, step_stops}
use Rattle.go_wire_core.proofs.serving.serve_step.Goals as goal

pub returns-in-Ask-clause-err : goal.returns-in-Ask-clause-err
returns-in-Ask-clause-err g c =
    IfErr-weaker c.send.result _ _
    (λ end unsent.
    subst (λ s. IsStop end g.D.Desk.answers (s ∷ []) c.args.desk.now c.answer-reply.new.self (g.W.Write.contents c.args.writer.now) (g.W.Write.contents c.send.new.writer)) (sym c.in-Ask.is)
    (step_stops g.D.Desk.answers end (Ask c.in-Ask.request) c.args.desk.now c.answer-reply.new.self _ (g.W.Write.contents c.args.writer.now) (g.W.Write.contents c.send.new.writer)
    (asked_done g.D.Desk.answers c.in-Ask.request c.answer-reply.result c.args.desk.now c.answer-reply.new.self c.answer-reply.ensures.answers) unsent)) c.send.ensures.err

pub returns-in-Refuse-clause-err : goal.returns-in-Refuse-clause-err
returns-in-Refuse-clause-err g c =
    IfErr-weaker c.send-in-Refuse.result _ _
    (λ end unsent.
    subst (λ s. IsStop end g.D.Desk.answers (s ∷ []) c.args.desk.now c.args.desk.now (g.W.Write.contents c.args.writer.now) (g.W.Write.contents c.send-in-Refuse.new.writer)) (sym c.in-Refuse.is)
    (step_stops g.D.Desk.answers end (Refuse c.in-Refuse.session c.in-Refuse.rule) c.args.desk.now c.args.desk.now _ (g.W.Write.contents c.args.writer.now) (g.W.Write.contents c.send-in-Refuse.new.writer)
    (refused_done g.D.Desk.answers c.in-Refuse.session c.in-Refuse.rule c.args.desk.now) unsent)) c.send-in-Refuse.ensures.err
