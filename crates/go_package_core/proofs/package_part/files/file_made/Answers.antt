use Rattle.std.specs.Vec.{with_items}
use Rattle.go_tree_nodes.specs.Shapes.{file_of}
use Rattle.go_package_core.specs.Checked.{answers_shown}
use Rattle.go_package_core.proofs.PackagePartFiling.{file_is, refilled}
use Rattle.go_package_core.proofs.package_part.files.file_made.Goals as goal

pub returns : goal.returns
returns c =
    let b = c.args.blocks.now in
    let n = c.args.file in
    let f = file_of c.args.tree.now in
    let lent = c.deref_mut.result.now in
    let new = c.refuse_unused.new.answers in
    let uses = (with_items c.args.checked.answers new).items in
    let settled = c.in_ok-answers.ensures in
    let judged = refilled b n f c.args.checked.answers lent new c.deref_mut.ensures.value c.in_ok-refuse_unused.ensures.value in
    file_is b n f (answers_shown c.args.checked) lent uses c.deref.result.now c.deref-3.result.now c.deref-2.result.now c.in_ok-answers.field-0.items c.deref-4.result.now c.in_ok-report.report.items c.deref_mut.ensures.value judged c.deref.ensures.value
    c.deref-2.ensures.value (record { ordered = settled.ordered; kept = settled.kept; found = settled.found; unsaid = settled.unsaid }) c.deref-3.ensures.value c.deref-4.ensures.value c.in_ok-report.ensures
