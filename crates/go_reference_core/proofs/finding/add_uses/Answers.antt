use Rattle.std.proofs.Common.{◌<◌, ◌≤◌, length, arith}
use Rattle.go_handle_core.specs.Declarations.{site_shown}
use Rattle.go_reference_core.proofs.Found.{uses_end, uses_start, uses_step}
use Rattle.go_reference_core.proofs.finding.add_uses.Goals as goal

pub loop-number-init : goal.loop-number-init
loop-number-init c = uses_start (site_shown c.args.site) c.args.«package» c.args.file c.args.answers.now c.args.references.now.items

pub loop-number-preserved : goal.loop-number-preserved
loop-number-preserved c =
    let lt : c.loop-number.number < length c.args.answers.now = omega (arith, c.loop-number-test.true) in
    uses_step (site_shown c.args.site) c.args.«package» c.args.file c.args.answers.now c.args.references.now.items c.loop-number.number c.index-answers-number.result c.loop-number.references.items c.add_use.new.references.items lt c.index-answers-number.is c.loop-number.invariant c.in_ok-add_use.ensures

pub returns : goal.returns
returns c =
    let le : length c.args.answers.now ≤ c.loop-number.number = omega (arith, c.loop-number-test.false) in
    uses_end (site_shown c.args.site) c.args.«package» c.args.file c.args.answers.now c.args.references.now.items c.loop-number.number c.loop-number.references.items le c.loop-number.invariant
