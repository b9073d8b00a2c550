use Rattle.std.proofs.Common.{arith}
use Rattle.go_parse_reader.proofs.TypesCodeHeights.{struct_high, interface_high, listed_high, signature_high}
use Rattle.go_parse_reader.proofs.types.heights.+heights.Goals as goal

pub type_height-lines_height-requires : goal.type_height-lines_height-requires
type_height-lines_height-requires t c = (omega (arith, c.decreases, struct_high _ _ _ _ _ c.in-Struct.is), omega (arith, c.requires, struct_high _ _ _ _ _ c.in-Struct.is))

pub type_height-overflow_add-result : goal.type_height-overflow_add-result
type_height-overflow_add-result t c = omega (arith, c.requires, c.lines_height.ensures, struct_high _ _ _ _ _ c.in-Struct.is)

pub type_height-returns-in-Struct : goal.type_height-returns-in-Struct
type_height-returns-in-Struct t c = omega (arith, c.lines_height.ensures, struct_high _ _ _ _ _ c.in-Struct.is)

pub type_height-methods_height-requires : goal.type_height-methods_height-requires
type_height-methods_height-requires t c = (omega (arith, c.decreases, interface_high _ _ _ _ _ c.in-Interface.is), omega (arith, c.requires, interface_high _ _ _ _ _ c.in-Interface.is))

pub type_height-overflow_add-result-in-Interface : goal.type_height-overflow_add-result-in-Interface
type_height-overflow_add-result-in-Interface t c = omega (arith, c.requires, c.methods_height.ensures, interface_high _ _ _ _ _ c.in-Interface.is)

pub type_height-returns-in-Interface : goal.type_height-returns-in-Interface
type_height-returns-in-Interface t c = omega (arith, c.methods_height.ensures, interface_high _ _ _ _ _ c.in-Interface.is)

pub results_height-params_height-requires : goal.results_height-params_height-requires
results_height-params_height-requires t c = (omega (arith, c.decreases, listed_high _ _ c.in-Listed.is), omega (arith, c.requires, listed_high _ _ c.in-Listed.is))

pub results_height-returns-in-Listed : goal.results_height-returns-in-Listed
results_height-returns-in-Listed t c = omega (arith, c.params_height.ensures, listed_high _ _ c.in-Listed.is)

pub signature_height-params_height-requires : goal.signature_height-params_height-requires
signature_height-params_height-requires t c = (omega (arith, c.decreases, signature_high c.args.signature.now), omega (arith, c.requires, signature_high c.args.signature.now))

pub signature_height-results_height-requires : goal.signature_height-results_height-requires
signature_height-results_height-requires t c = (omega (arith, c.decreases, signature_high c.args.signature.now), omega (arith, c.requires, signature_high c.args.signature.now))

pub signature_height-returns : goal.signature_height-returns
signature_height-returns t c = omega (arith, c.max.ensures, c.params_height.ensures, c.results_height.ensures, signature_high c.args.signature.now)
