-- What names mean in a method with blocks inside blocks, computed.
use Rattle.std.proofs.Common.{refl}
use Rattle.go_spec_laws.specs.front.Branches.{WorkedBranches}

pub worked_branches : WorkedBranches
worked_branches = record {
  declarations = refl;
  receiver_region = λ place. refl;
  parameter_region = λ place. refl;
  result_region = λ place. refl;
  body_region = λ place. refl;
  header_region = λ place. refl;
  then_region = λ place. refl;
  else_region = λ place. refl;
  loop_region = λ place. refl;
  before_body = refl;
  behind_then = refl;
  in_else = refl;
  behind_if = refl;
  behind_loop = refl;
  r_in_then = refl;
  p_in_else = refl;
  q_in_loop = refl;
  denoted = refl;
  faultless = refl;
}
