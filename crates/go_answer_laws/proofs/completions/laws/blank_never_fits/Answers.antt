use Rattle.go_answer_laws.proofs.CompletionsBlanks.{blank_never_fits}
use Rattle.go_answer_laws.proofs.completions.laws.blank_never_fits.Goals as goal

pub returns : goal.returns
returns c = blank_never_fits
