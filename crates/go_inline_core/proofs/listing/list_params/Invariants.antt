use Rattle.std.proofs.Common.{take}
use Rattle.std.specs.List.{flat_map}
use Rattle.go_inline_core.specs.mirrors.Listing.{Lists}
use Rattle.go_inline_core.proofs.WalkLemmas.{param_type}
use Rattle.go_inline_core.proofs.listing.list_params.Given as goal

abbrev pub invariant-loop-param : goal.invariant-loop-param
invariant-loop-param l = Lists l.fn.list (flat_map param_type (take l.param-index l.param-items)) l.list
