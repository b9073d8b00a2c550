use Rattle.std.proofs.Common.{take}
use Rattle.std.specs.List.{flat_map}
use Rattle.go_decl_core.specs.mirrors.Listing.{Adds}
use Rattle.go_decl_core.proofs.ListLemmas.{field_line_outers, method_outers, param_outers}
use Rattle.go_decl_core.proofs.type_places.+list.Given as goal

abbrev pub invariant-list_field_lines-loop-line : goal.invariant-list_field_lines-loop-line
invariant-list_field_lines-loop-line l = Adds l.fn.lister (flat_map field_line_outers (take l.line-index l.line-items)) l.lister

abbrev pub invariant-list_methods-loop-method : goal.invariant-list_methods-loop-method
invariant-list_methods-loop-method l = Adds l.fn.lister (flat_map method_outers (take l.method-index l.method-items)) l.lister

abbrev pub invariant-list_params-loop-param : goal.invariant-list_params-loop-param
invariant-list_params-loop-param l = Adds l.fn.lister (flat_map param_outers (take l.param-index l.param-items)) l.lister
