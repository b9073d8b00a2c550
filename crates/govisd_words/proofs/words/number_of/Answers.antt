use Rattle.std.proofs.Common.{◌∙◌}
use Rattle.govisd_words.proofs.CountLemmas.{number_is}
use Rattle.govisd_words.proofs.words.number_of.Goals as goal

pub returns : goal.returns
returns c = c.ok.ensures.value ∙ number_is c.args.word.now c.parse.result c.parse.ensures.value.0
