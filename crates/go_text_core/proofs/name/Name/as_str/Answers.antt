use Rattle.std.proofs.Common.{take, subst}
use Rattle.std.proofs.lemmas.Str.{IsUtf8-from_is_utf8}
use Rattle.go_text_core.specs.Names.{HoldsText}
use Rattle.go_text_core.proofs.name.Name.as_str.Goals as goal

pub text_of-requires-clause-utf8 : goal.text_of-requires-clause-utf8
text_of-requires-clause-utf8 c = IsUtf8-from_is_utf8 (take c.in-Short.len c.in-Short.bytes) (subst HoldsText c.in-Short.is c.self.invariant).1
