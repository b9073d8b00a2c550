use Rattle.std.proofs.Common.{arith}
use Rattle.go_term_core.specs.Shapes.{shape}
use Rattle.go_select_core.proofs.Surveying.{names_begin, names_next, names_fall}
use Rattle.go_select_core.proofs.SurveysWalking.{walk_end}
use Rattle.go_select_core.proofs.surveys.walk.walk_from.Goals as goal

pub levels-init : goal.levels-init
levels-init c = names_begin c.args.table.now (shape c.args.start.now) _ _ _ _ c.in_ok-levels.ensures c.new-names.ensures

pub levels-smaller : goal.levels-smaller
levels-smaller c =
    names_fall c.args.table.now (shape c.args.start.now) c.levels.first c.len-end.result _ _ _ _ c.deref-in-levels.result.now _ _ _ _ c.levels.invariant (omega (arith, c.len-end.ensures, c.levels.levels.types.ok.0)) c.deref-in-levels.ensures.value c.in_ok-note_level.ensures.said c.in_ok-note_level.ensures.named c.in_ok-expand.ensures.sized c.in_ok-expand.ensures.next
    (omega (arith, c.len.ensures, c.levels-test.true, c.levels.levels.types.ok.0))

pub levels-preserved : goal.levels-preserved
levels-preserved c =
    names_next c.args.table.now (shape c.args.start.now) c.levels.first c.len-end.result _ _ _ _ c.deref-in-levels.result.now _ _ _ _ c.levels.invariant (omega (arith, c.len-end.ensures, c.levels.levels.types.ok.0)) c.deref-in-levels.ensures.value c.in_ok-note_level.ensures.said c.in_ok-note_level.ensures.named c.in_ok-expand.ensures.sized c.in_ok-expand.ensures.next

pub returns : goal.returns
returns c = walk_end c.args.table.now (shape c.args.start.now) c.levels.first _ _ _ _ c.levels.invariant (omega (arith, c.len.ensures, c.levels-test.false, c.levels.levels.types.ok.0))
