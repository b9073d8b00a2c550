use Rattle.std.proofs.Common.{◌+◌, ◌-◌, ◌/◌, sym, ◌∙◌, arith}
use Rattle.go_session_core.proofs.QueriesInsides.{high_half, low_half}
use Rattle.go_session_core.proofs.queries.kept.count_before.Goals as goal

pub halves-preserved-then-is_before : goal.halves-preserved-then-is_before
halves-preserved-then-is_before c =
    let before = low_half c.args.snapshot.now.sources c.args.text.now (c.halves.low + (c.halves.high - c.halves.low) / 2) c.package_of.result.now c.requires c.package_of.ensures (sym c.is_before.ensures ∙ c.if-is_before.true) in
    record { order = omega (arith, c.halves-test.true); within = c.halves.invariant.within; before = before; behind = c.halves.invariant.behind }

pub halves-preserved : goal.halves-preserved
halves-preserved c =
    let behind = high_half c.args.snapshot.now.sources c.args.text.now (c.halves.low + (c.halves.high - c.halves.low) / 2) c.package_of.result.now c.requires c.package_of.ensures (sym c.is_before.ensures ∙ c.if-is_before.false) in
    record { order = omega arith; within = omega (arith, c.halves-test.true, c.halves.invariant.within); before = c.halves.invariant.before; behind = behind }
