-- The test of two rules.
use Rattle.std.proofs.Common.{◌≡◌, Bool, sym, ◌∙◌}
use Rattle.std.specs.Prelude.{◌↔◌, IsTrue}
use denote.Enum.Bare.{sameb, same_true, true_same}
use Rattle.go_path_core.specs.text_core.declared.rule.Rule.{Rule}
use Rattle.go_path_core.specs.text_core.contracts.rule.Rule as rule

pub rule_test : (a b : Rule) (r : Bool) → r ≡ sameb rule.the_type a b → IsTrue r ↔ (a ≡ b)
rule_test a b r says = ((λ h. same_true rule.the_type tt a b (sym says ∙ h)), (λ e. says ∙ true_same rule.the_type a b e))
