use Rattle.std.proofs.Common.{◌≡◌, ◌++◌, flat_map, take}
use Rattle.std.specs.Prelude.{string_bytes}
use Rattle.go_explain_core.specs.Telling.{json_line}
use Rattle.go_explain_core.proofs.telling.push_objects.Given as goal

abbrev pub invariant-loop-rule : goal.invariant-loop-rule
invariant-loop-rule l = string_bytes l.text ≡ string_bytes l.initial.text ++ flat_map json_line (take l.rule-index l.all)
