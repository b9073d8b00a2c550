use Rattle.go_table_core.proofs.Underlying.{error_interface}
use Rattle.go_table_core.proofs.laws.error_is_an_interface.Goals as goal

pub returns : goal.returns
returns c = error_interface c.identity_by_form.ensures.error
