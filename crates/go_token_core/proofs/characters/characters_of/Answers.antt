use Rattle.std.proofs.Common.{rules}
use Rattle.std.proofs.lemmas.Str.{chars_from_encodes}
use Rattle.go_token_core.proofs.CharacterLemmas.{width-chars}
use Rattle.go_token_core.proofs.characters.characters_of.Goals as goal

pub returns-clause-items : goal.returns-clause-items
returns-clause-items c = search (rules, chars_from_encodes)

pub returns-clause-size : goal.returns-clause-size
returns-clause-size c = width-chars c.args.text.now c.utf8.text
