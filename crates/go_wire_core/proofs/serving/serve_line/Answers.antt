use Rattle.go_wire_core.specs.Steps.{steps_of}
use Rattle.std.proofs.Common.{sym, subst}
use Rattle.go_wire_core.specs.Requests.{IsStepFor}
use Rattle.go_wire_core.proofs.ByTable.{step_is_for}
use Rattle.go_wire_core.proofs.InOrder.{first_none}
use Rattle.go_wire_core.proofs.serving.serve_line.Goals as goal

pub returns-in_default-clause-err : goal.returns-in_default-clause-err
returns-in_default-clause-err g c = first_none g.D.Desk.answers c.args.desk.now (steps_of c.args.numbered c.args.line.now) (g.W.Write.contents c.args.writer.now)

pub serve_step-requires : goal.serve_step-requires
serve_step-requires g c = subst (λ b. IsStepFor b c.in-Ok.step) (sym c.requires) (subst (IsStepFor c.args.numbered) (sym c.in-Ok.ensures) (step_is_for c.args.numbered c.args.line.now))
