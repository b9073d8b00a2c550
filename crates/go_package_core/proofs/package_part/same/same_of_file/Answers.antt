use Rattle.std.proofs.Common.{◌<◌, subst}
use Rattle.go_report_core.specs.summary_core.AlikeListed.{listed_apart}
use Rattle.go_package_core.proofs.package_part.same.same_of_file.Goals as goal

pub returns-then-not-is_same_imported : goal.returns-then-not-is_same_imported
returns-then-not-is_same_imported c = listed_apart c.args.imports.now c.args.others.now c.loop-place.place c.index-imports-place.result c.index-others-place.result c.is_same_imported.result c.loop-place-test.true (subst (λ n. c.loop-place.place < n) c.if-imports-others.false c.loop-place-test.true) c.index-imports-place.is c.index-others-place.is c.is_same_imported.ensures c.if-not-is_same_imported.true
