use Rattle.std.proofs.Common.{true, sym, ◌∙◌}
use Rattle.std.proofs.lemmas.Bool.{true≢false}
use Rattle.go_term_core.specs.Shapes.{shape}
use Rattle.go_table_core.proofs.Underlying.{found_same, found_met}
use Rattle.go_table_core.proofs.alike.identical_under.Goals as goal

pub returns-then-identical : goal.returns-then-identical
returns-then-identical c = found_same true (shape c.args.a.now) (shape c.args.b.now) (c.identical.ensures.0 c.if-identical.true)

pub returns : goal.returns
returns c = found_met true (shape c.args.a.now) (shape c.args.b.now) c.meets_error.result (λ h. true≢false (sym (c.identical.ensures.1 h) ∙ c.if-identical.false)) c.meets_error.ensures
