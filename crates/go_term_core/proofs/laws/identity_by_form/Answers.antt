use Rattle.go_term_core.proofs.ByForm.{by_form}
use Rattle.go_term_core.proofs.laws.identity_by_form.Goals as goal

pub returns : goal.returns
returns c = by_form
