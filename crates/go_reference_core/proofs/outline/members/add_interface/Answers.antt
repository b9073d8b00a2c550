use Rattle.std.proofs.Common.{[], map}
use Rattle.go_reference_core.specs.outline.Outlines.{entry_shown}
use Rattle.go_reference_core.specs.outline.mirrors.Lines.{method_line_entries}
use Rattle.go_reference_core.proofs.OutlineAdding.{step, whole}
use Rattle.go_reference_core.proofs.OutlineListed.{methods_list}
use Rattle.go_reference_core.proofs.outline.members.add_interface.Goals as goal

pub loop-line-preserved : goal.loop-line-preserved
loop-line-preserved c =
    step (method_line_entries c.args.end) (map entry_shown c.args.entries.now.items) (map entry_shown c.loop-line.entries.items) (map entry_shown c.add_method.new.entries.items) [] c.deref-line-items.result.now c.loop-line.line-index c.line-item.result c.loop-line-test.true c.line-item.is c.loop-line.invariant c.in_ok-add_method.ensures

pub returns : goal.returns
returns c = whole (method_line_entries c.args.end) (map entry_shown c.args.entries.now.items) (map entry_shown c.loop-line.entries.items) [] c.deref-line-items.result.now c.args.lines.now.items c.loop-line.line-index _ c.deref-line-items.ensures.value c.loop-line-test.false (methods_list c.args.end c.args.lines.now.items) c.loop-line.invariant
