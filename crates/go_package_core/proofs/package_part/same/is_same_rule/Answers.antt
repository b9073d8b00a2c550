use Rattle.go_package_core.proofs.PackagePartRuleTest.{rule_test}
use Rattle.go_package_core.proofs.package_part.same.is_same_rule.Goals as goal

pub returns : goal.returns
returns c = rule_test c.args.one c.args.other c.eq.result c.eq.ensures
