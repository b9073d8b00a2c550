use Rattle.std.specs.Prelude.{string_bytes}
use Rattle.go_explain_core.specs.Telling.{json_line}
use Rattle.go_explain_core.proofs.LineLemmas.{lines_more, lines_all}
use Rattle.go_explain_core.proofs.telling.push_objects.Goals as goal

pub loop-rule-preserved : goal.loop-rule-preserved
loop-rule-preserved c = lines_more json_line c.args.all.now c.loop-rule.rule-index _ (string_bytes c.args.text.now) (string_bytes c.loop-rule.text) (string_bytes c.push_object.new.text) c.loop-rule-test.true c.loop-rule.invariant c.in_ok-push_object.ensures

pub returns : goal.returns
returns c = lines_all json_line c.args.all.now c.loop-rule.rule-index (string_bytes c.args.text.now) (string_bytes c.loop-rule.text) c.loop-rule-test.false c.loop-rule.invariant
