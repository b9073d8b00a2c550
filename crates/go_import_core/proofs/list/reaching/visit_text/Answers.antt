use Rattle.std.proofs.Common.{arith, subst}
use Rattle.std.proofs.lemmas.Result.{on_ok_weaker}
use Rattle.go_graph_core.specs.Imports.{IsTarget}
use Rattle.go_graph_core.specs.declared.imports.ImportOutcome.TheVariants.{Package}
use Rattle.go_import_core.proofs.ListJudged.{target_within}
use Rattle.go_import_core.proofs.ListVisited.{text_found, text_refused}
use Rattle.go_import_core.proofs.list.reaching.visit_text.Goals as goal

pub returns-in-Package : goal.returns-in-Package
returns-in-Package c =
    let ps = c.args.packages.now in
    let target = subst (IsTarget ps c.args.from.now c.args.text.now) c.in-Package.is c.in_ok-number.ensures in
    let found = text_found ps c.args.from.now c.args.text.now c.in-Package.number c.args.marks.now c.visit.new.marks c.args.stack.now.items c.visit.new.stack.items c.requires.well target (omega (arith, target_within ps c.args.from.now c.args.text.now (Package c.in-Package.number) target, c.requires.many)) in
    on_ok_weaker c.visit.result found c.visit.ensures

pub returns-in-Refused : goal.returns-in-Refused
returns-in-Refused c =
    let ps = c.args.packages.now in
    let target = subst (IsTarget ps c.args.from.now c.args.text.now) c.in-Refused.is c.in_ok-number.ensures in
    text_refused ps c.args.from.now c.args.text.now c.in-Refused.field-0 c.args.marks.now c.args.stack.now.items c.requires.well target
