use Rattle.std.proofs.Common.{sym, ◌∙◌}
use Rattle.go_query_core.specs.Defining.{is_over}
use Rattle.go_query_core.proofs.Using.{any_end, any_here, any_step}
use Rattle.go_query_core.proofs.defining.any_over.Goals as goal

pub loop-token-preserved : goal.loop-token-preserved
loop-token-preserved c = any_step (is_over c.args.offset) c.args.tokens.now c.loop-token.token-index _ _ c.loop-token-test.true (sym c.is_over.ensures ∙ c.if-is_over.false) c.loop-token.invariant

pub returns-then-is_over : goal.returns-then-is_over
returns-then-is_over c = any_here (is_over c.args.offset) c.args.tokens.now c.loop-token.token-index _ _ c.loop-token-test.true (sym c.is_over.ensures ∙ c.if-is_over.true) c.loop-token.invariant

pub returns : goal.returns
returns c = any_end (is_over c.args.offset) c.args.tokens.now c.loop-token.token-index _ c.loop-token-test.false c.loop-token.invariant
