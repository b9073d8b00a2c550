use Rattle.std.proofs.Common.{◌≡◌, ◌++◌, take}
use Rattle.go_typexpr_core.specs.written.mirrors.Adding.{more_numbers}
use Rattle.go_typexpr_core.proofs.written.terms.add_more.Given as goal

abbrev pub invariant-loop : goal.invariant-loop
invariant-loop l = l.lines.items ≡ l.fn.lines.items ++ more_numbers l.number (take l.index l.items)
