-- Truths are 0 or 1.
use Rattle.std.proofs.Common.{Bool, true, false, pos, refl, inl, inr}
use Rattle.std.specs.Prelude.{not, int_lt, int_le}
use Rattle.std.specs.Ordering.{int_eq}
use Rattle.go_machine_core.specs.Words.{bit, inverted, equal, differs, less, at_most, greater, at_least}
use Rattle.go_machine_core.specs.Laws.{IsBit, TruthsAreBits}

is_bit : (b : Bool) → IsBit (bit b)
is_bit false = inl refl
is_bit true = inr refl

pub truths_are_bits : TruthsAreBits
unfolding inverted equal differs less at_most greater at_least
truths_are_bits = record {
  turned = λ x. is_bit (int_eq x (pos 0));
  same = λ x y. (bit (int_eq x y), refl, is_bit (int_eq x y));
  other = λ x y. (bit (not (int_eq x y)), refl, is_bit (not (int_eq x y)));
  below = λ x y. (bit (int_lt x y), refl, is_bit (int_lt x y));
  within = λ x y. (bit (int_le x y), refl, is_bit (int_le x y));
  above = λ x y. (bit (int_lt y x), refl, is_bit (int_lt y x));
  beyond = λ x y. (bit (int_le y x), refl, is_bit (int_le y x));
}
