use Rattle.std.proofs.Common.{◌≡◌, ◌++◌, drop, map}
use Rattle.std.specs.Prelude.{filter}
use Rattle.go_inline_core.specs.block_core.Exports.{name_and_decl}
use Rattle.go_cursor_core.specs.scope_stack.Blocks.{names_in}
use Rattle.go_summary_core.specs.shown.Shown.{texts}
use Rattle.go_candidate_core.specs.fitting.mirrors.Steps.{fits_name}
use Rattle.go_candidate_core.proofs.fitting.behind.fitting_names.Given as goal

abbrev pub invariant-loop-named : goal.invariant-loop-named
invariant-loop-named l =
    texts l.kept.items ++ filter (fits_name l.fn.summary.faces l.fn.usage) (names_in (map name_and_decl (drop l.named-index l.named-items))) ≡ filter (fits_name l.fn.summary.faces l.fn.usage) (names_in l.fn.summary.exports.names)
