use Rattle.std.proofs.Common.{◌≡◌, ◌≤◌, map, take}
use Rattle.go_token_core.specs.Numbers.{number_in}
use Rattle.go_token_core.proofs.number.number_of.Given as goal

abbrev pub invariant-loop-c : goal.invariant-loop-c
invariant-loop-c g l = record {
  value : l.value ≡ number_in l.fn.radix (map g.C.AsCharacter.code (take l.c-index l.fn.text));
  small : l.value ≤ 9223372036854775807;
}
