use Rattle.std.proofs.Common.{◌≡◌, ◌++◌, [], drop}
use Rattle.go_inline_core.specs.Inline.{repeat_faults}
use Rattle.go_inline_core.specs.mirrors.Names.{names_of}
use Rattle.go_inline_core.proofs.repeated.add_repeated.Given as goal

abbrev pub invariant-loop-ident : goal.invariant-loop-ident
invariant-loop-ident l = l.fn.faults.items ++ repeat_faults [] (names_of l.idents) ≡ l.faults.items ++ repeat_faults l.seen (names_of (drop l.ident-index l.idents))
