use Rattle.std.proofs.Common.{◌≡◌, ◌++◌, drop}
use Rattle.std.specs.Prelude.{string_bytes}
use Rattle.go_object_core.specs.Listing.{code_lines}
use Rattle.go_object_core.proofs.lines.add_code.Given as goal

abbrev pub invariant-loop-number : goal.invariant-loop-number
invariant-loop-number l = string_bytes l.fn.text ++ code_lines 0 l.code ≡ string_bytes l.text ++ code_lines l.number (drop l.number l.code)
