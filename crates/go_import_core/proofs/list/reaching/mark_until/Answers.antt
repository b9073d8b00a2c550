use Rattle.std.proofs.Common.{arith, rules}
use Rattle.go_import_core.proofs.ListSearches.{search_ends, search_more, search_within}
use Rattle.go_import_core.proofs.list.reaching.mark_until.Goals as goal

pub visit_package-requires-clause-number : goal.visit_package-requires-clause-number
visit_package-requires-clause-number c =
    let within = search_within c.args.packages.now c.args.start c.loop-marks.marks c.in-Some.number c.loop-marks.stack.items c.pop.new.self.items c.in-Some.ensures.items c.loop-marks.invariant in
    omega (arith, within, c.loop-marks.auto.marks, c.requires.many)

pub loop-marks-preserved : goal.loop-marks-preserved
loop-marks-preserved c =
    search_more c.args.packages.now c.args.start c.loop-marks.marks c.visit_package.new.marks c.in-Some.number c.loop-marks.stack.items c.pop.new.self.items c.visit_package.new.stack.items c.in-Some.ensures.items c.loop-marks.invariant c.in_ok-visit_package.ensures

pub returns-in_default : goal.returns-in_default
returns-in_default c = search_ends c.args.packages.now c.args.start c.args.own c.loop-marks.marks c.loop-marks.stack.items (search rules) c.loop-marks.invariant
