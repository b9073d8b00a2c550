use Rattle.std.proofs.Common.{take}
use Rattle.std.specs.List.{flat_map}
use Rattle.go_inline_core.specs.mirrors.Listing.{Breaks}
use Rattle.go_inline_core.proofs.FaultLemmas.{line_repeated, method_repeated, entry_repeated}
use Rattle.go_inline_core.proofs.repeated.+types.Given as goal

abbrev pub invariant-check_fields-loop-line : goal.invariant-check_fields-loop-line
invariant-check_fields-loop-line l = Breaks l.fn.list (flat_map line_repeated (take l.line-index l.line-items)) l.list

abbrev pub invariant-check_methods-loop-method : goal.invariant-check_methods-loop-method
invariant-check_methods-loop-method l = Breaks l.fn.list (flat_map method_repeated (take l.method-index l.method-items)) l.list

abbrev pub invariant-check_params-loop-param : goal.invariant-check_params-loop-param
invariant-check_params-loop-param l = Breaks l.fn.list (flat_map entry_repeated (take l.param-index l.param-items)) l.list
