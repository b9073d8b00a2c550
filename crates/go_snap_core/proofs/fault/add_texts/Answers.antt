use Rattle.std.proofs.Common.{◌≡◌, ◌++◌, ◌<◌, length, sym, ap, ◌∙◌, arith, append-nil}
use Rattle.go_graph_core.specs.Sources.{content_shown}
use Rattle.go_snap_core.specs.mirrors.Reports.{text_fault}
use Rattle.go_snap_core.proofs.Adding.{text_more}
use Rattle.go_snap_core.proofs.fault.add_texts.Goals as goal
use Rattle.go_snap_core.proofs.fault.add_texts.Goals.{in-Err+in_ok-push, in_default}

pub loop-file-preserved : goal.loop-file-preserved
loop-file-preserved c =
    let number = c.args.«package» in
    let i = c.loop-file.file in
    let s = c.index-files-file.result in
    let old = c.loop-file.faults.items in
    let lt : i < length c.args.files.now = omega (arith, c.loop-file-test.true) in
    text_more number i c.args.files.now s c.args.faults.now.items old c.match-tree.faults.items lt c.index-files-file.is c.loop-file.invariant
    (elim c.match-tree.branch [
      | in-Err+in_ok-push w ↦ ap (λ v. v.items) w.faults-is ∙ (w.in_ok-push.ensures.items ∙ ap (λ r. old ++ text_fault number i r) (ap content_shown (sym w.in-Err.is) ∙ c.tree.ensures.value))
      | in_default w ↦ ap (λ v. v.items) w.faults-is ∙ (sym (append-nil old) ∙ ap (λ r. old ++ text_fault number i r) (ap content_shown (sym w.in_default.is) ∙ c.tree.ensures.value))
    ])
