use Rattle.std.proofs.Common.{subst}
use Rattle.std.specs.Prelude.{IfSome, string_bytes}
use Rattle.go_term_core.specs.Shapes.{shape}
use Rattle.go_judge_core.specs.Written.{IsWrittenAs}
use Rattle.go_judge_core.proofs.writing.told_as.Goals as goal

pub returns-in-Some : goal.returns-in-Some
returns-in-Some c = λ _. subst (λ w. IfSome w (λ s. IsWrittenAs c.args.here.now (shape c.args.term.now) (string_bytes s))) c.in-Some.is c.requires
