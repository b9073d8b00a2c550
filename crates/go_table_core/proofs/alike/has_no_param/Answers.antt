use Rattle.std.proofs.Common.{refl}
use Rattle.go_table_core.proofs.Underlying.{none_test}
use Rattle.go_table_core.proofs.alike.has_no_param.Goals as goal

pub returns : goal.returns
returns c = none_test _ c.param_count.result _ c.param_count.ensures refl
