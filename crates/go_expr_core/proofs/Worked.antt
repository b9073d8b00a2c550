-- The worked expressions, computed.
use Rattle.std.proofs.Common.{refl}
use Rattle.go_expr_core.specs.Samples.{SampleExpressions}

pub samples : SampleExpressions
samples = record {
  no_pointer = refl;
  pointer_on_the_way = refl;
  by_key = refl;
  by_key_faults = refl;
  in_order = refl;
  too_few = refl;
  hidden_key = refl;
  repeated_keys = refl;
  promoted_key = refl;
  mixed_uses = refl;
  mixed_faults = refl;
  misfit = refl;
  written_type = refl;
  no_call = refl;
  called_twice = refl;
  spread = refl;
  spread_faults = refl;
  member = refl;
  refused_call = refl;
  refused_name = refl;
  no_single_value = refl;
  untyped_range = refl;
  typed_range = refl;
  divided = refl;
  bits_of_bits = refl;
  to_pointer = refl;
  no_type = refl;
  address = refl;
  no_address = refl;
}
