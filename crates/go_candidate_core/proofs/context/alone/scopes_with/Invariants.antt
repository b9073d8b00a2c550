use Rattle.std.proofs.Common.{take, map}
use Rattle.go_candidate_core.specs.context.Alone.{HasLocals}
use Rattle.go_candidate_core.proofs.context.alone.scopes_with.Given as goal

abbrev pub invariant-loop-number : goal.invariant-loop-number
invariant-loop-number l = HasLocals l.blocks l.file (take l.number (map (λ x. x.now) l.locals)) l.scopes
