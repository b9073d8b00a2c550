use Rattle.std.proofs.Common.{◌∙◌}
use Rattle.go_emit_core.proofs.Passing.{from_known, known_within}
use Rattle.go_emit_core.proofs.functions.before.Goals as goal

pub passed-requires : goal.passed-requires
passed-requires c = known_within c.args.answers.now c.args.known.count c.args.known.bound c.requires

pub returns-then-known-bound-clause-value : goal.returns-then-known-bound-clause-value
returns-then-known-bound-clause-value c = c.passed.ensures.value ∙ from_known c.args.answers.now c.args.known.count c.args.known.bound c.args.bound c.requires c.if-known-bound.true
