-- The literals that are worked out by hand.
use Rattle.std.proofs.Common.{refl, ap}
use Rattle.go_denote_core.specs.declared.things.Outcome.TheVariants as outcomes
use Rattle.go_denote_core.specs.composite.Keys.{missing_rule}
use Rattle.go_denote_core.specs.composite.Samples.{WorkedLiterals}

pub worked : {T S D P : Type 0} → WorkedLiterals T S D P
worked types names a b t u of = record {
  no_element = refl;
  one_element = refl;
  two_elements = refl;
  one_key = refl;
  exported_key = refl;
  non_exported_key = refl;
  two_keys = refl;
  repeated_key = refl;
  key_and_none = refl;
  mixed_key = refl;
  blank_key = refl;
  promoted_key = λ d path v by_pointer h. ap (λ s. outcomes.Refused (missing_rule s)) h;
  unknown_key = λ rule h. ap (λ s. outcomes.Refused (missing_rule s)) h;
}
