use Rattle.go_constant_core.proofs.Meanings.{both, either, neither, bools_same, bools_apart}
use Rattle.go_constant_core.proofs.laws.truth_tables.Goals as goal

pub returns : goal.returns
returns c = record { conjunction = both; disjunction = either; negation = neither; equal = bools_same; not_equal = bools_apart }
