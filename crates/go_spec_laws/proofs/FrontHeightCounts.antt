-- Heights that are counted by hand are computed.
use Rattle.std.proofs.Common.{refl}
use Rattle.go_spec_laws.specs.front.HeightLaws.{HeightsAreWorked}

pub heights_are_worked : HeightsAreWorked
heights_are_worked = record {
  constant = refl;
  variable = refl;
  function = refl;
  file = refl;
  parentheses = refl;
  selectors = refl;
  operators = refl;
  calls = refl;
  call_of_two = refl;
  call_of_call = refl;
  literal = refl;
  literals = refl;
  literal_in_literal = refl;
  struct_literal = refl;
  embedded = refl;
  interface_type = refl;
  types = refl;
  alias = refl;
  method = refl;
  signature = refl;
  lone = refl;
  empty_in_block = refl;
  declared_inside = refl;
  call_alone = refl;
  nested = refl;
  forever = refl;
  header_of_for = refl;
  header_of_if = refl;
  otherwise = refl;
  chain = refl;
}
