use Rattle.std.proofs.Common.{refl}
use Rattle.go_parse_reader.proofs.TypesCodeEntries.{with_name_is}
use Rattle.go_parse_reader.proofs.types.entries.with_name.Goals as goal

pub returns-in_ok-add-in-Some : goal.returns-in_ok-add-in-Some
returns-in_ok-add-in-Some c = with_name_is _ _ _ _ _ _ c.in-Some.is c.in_ok-add-in-Some.ensures refl refl
