use Rattle.std.proofs.Common.{◌++◌, Bool, ap, ◌∙◌}
use Rattle.go_term_core.specs.decl_core.Shown.{decl_shown}
use Rattle.go_report_core.specs.answer.Outer.{looped_if}
use Rattle.go_report_core.proofs.AnswerStepping.{looped_step}
use Rattle.go_report_core.proofs.answer.outer.add_looped.Goals as goal

pub loop-at-preserved : goal.loop-at-preserved
loop-at-preserved c =
    looped_step c.args.decls.now c.args.looped.now c.loop-at.at c.index-decls-at.result c.args.faults.now.items c.loop-at.faults.items _ c.loop-at-test.true c.index-decls-at.is
    (c.in_ok-add_if_looped.ensures ∙ ap (λ (b : Bool). c.loop-at.faults.items ++ looped_if b (decl_shown c.index-decls-at.result)) c.is_set.ensures) c.loop-at.invariant
