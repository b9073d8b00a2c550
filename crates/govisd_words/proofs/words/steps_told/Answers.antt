use Rattle.std.proofs.Common.{◌∙◌, ap}
use Rattle.clap.specs.Words.{found_of}
use Rattle.std.specs.Prelude.{codes}
use Rattle.govisd_words.specs.Counts.{steps_in}
use Rattle.govisd_words.proofs.WordLemmas.{value_in_rows}
use Rattle.govisd_words.proofs.words.steps_told.Goals as goal

pub returns : goal.returns
returns c = c.number_or.ensures ∙ ap steps_in (c.get_str.ensures ∙ value_in_rows (found_of c.args.found.now) (codes "steps"))
