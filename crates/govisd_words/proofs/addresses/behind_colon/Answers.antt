use Rattle.std.proofs.Common.{arith}
use Rattle.std.proofs.lemmas.Str.Pattern.{strip_prefix_char}
use Rattle.govisd_words.proofs.AddressLemmas.{behind_is}
use Rattle.govisd_words.proofs.addresses.behind_colon.Goals as goal

pub returns : goal.returns
returns c = behind_is 58 c.args.text.now c.strip_prefix.result (strip_prefix_char 58 c.args.text.now c.strip_prefix.result c.strip_prefix.ensures.cases (omega arith))
