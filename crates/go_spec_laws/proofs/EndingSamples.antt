-- What ends of functions are worked out to, computed.
use Rattle.std.proofs.Common.{refl}
use Rattle.go_spec_laws.specs.ending.Samples.{WorkedEnds, WorkedJumps}

pub ends : WorkedEnds
ends = record {
  returned = refl;
  nothing = refl;
  named_result = refl;
  no_results_listed = refl;
  no_results = refl;
  without_else = refl;
  both_return = refl;
  one_returns = refl;
  each_returns = refl;
  without_last_else = refl;
  endless = refl;
  endless_clauses = refl;
  conditioned = refl;
  conditioned_clauses = refl;
  left = refl;
  inner_left = refl;
  left_in_then = refl;
  left_in_else = refl;
  left_in_block = refl;
  continued = refl;
  block_returns = refl;
  block_behind = refl;
  empty_behind = refl;
  panic_in_parens = refl;
  callee_in_parens = refl;
  other_panic = refl;
}

pub jumps : WorkedJumps
jumps = record { outside = refl; in_branches = refl; inside = refl; behind = refl }
