use Rattle.std.proofs.Common.{◌∙◌, ap, sym}
use Rattle.go_text_core.specs.Rules.{rule_number}
use Rattle.go_explain_core.specs.Naming.{small}
use Rattle.go_explain_core.proofs.Numbers.{same_test}
use Rattle.go_explain_core.proofs.naming.is_named.Goals as goal

pub returns : goal.returns
returns c =
    same_test c.eq_ignore_ascii_case.result (small (rule_number c.args.rule)) (small c.args.text.now)
    (λ h. ap small (sym c.number.ensures) ∙ c.eq_ignore_ascii_case.ensures.test.0 h)
    (λ e. c.eq_ignore_ascii_case.ensures.test.1 (ap small c.number.ensures ∙ e))
