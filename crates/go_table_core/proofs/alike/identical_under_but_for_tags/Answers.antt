use Rattle.std.proofs.Common.{false, sym, ◌∙◌}
use Rattle.std.proofs.lemmas.Bool.{true≢false}
use Rattle.go_term_core.specs.Shapes.{shape}
use Rattle.go_table_core.proofs.Underlying.{found_same, found_met}
use Rattle.go_table_core.proofs.alike.identical_under_but_for_tags.Goals as goal

pub returns-then-identical_but_for_tags : goal.returns-then-identical_but_for_tags
returns-then-identical_but_for_tags c = found_same false (shape c.args.a.now) (shape c.args.b.now) (c.identical_but_for_tags.ensures.0 c.if-identical_but_for_tags.true)

pub returns : goal.returns
returns c = found_met false (shape c.args.a.now) (shape c.args.b.now) c.meets_error.result (λ h. true≢false (sym (c.identical_but_for_tags.ensures.1 h) ∙ c.if-identical_but_for_tags.false)) c.meets_error.ensures
