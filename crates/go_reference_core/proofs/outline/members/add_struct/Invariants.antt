use Rattle.std.proofs.Common.{◌≡◌, ◌++◌, map, take}
use Rattle.std.specs.List.{flat_map}
use Rattle.go_reference_core.specs.outline.Outlines.{entry_shown}
use Rattle.go_reference_core.specs.outline.mirrors.Lines.{field_line_entries}
use Rattle.go_reference_core.proofs.outline.members.add_struct.Given as goal

abbrev pub invariant-loop-line : goal.invariant-loop-line
invariant-loop-line l = map entry_shown l.entries.items ≡ map entry_shown l.fn.entries.items ++ flat_map (field_line_entries l.end) (take l.line-index l.line-items)
