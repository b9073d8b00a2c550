use Rattle.std.proofs.Common.{arith}
use Rattle.go_parse_reader.proofs.TypesCodeTypes.{named_type_zero, named_type_more}
use Rattle.go_parse_reader.proofs.types.names.named_type.Goals as goal

pub returns-then-budget-eq0 : goal.returns-then-budget-eq0
returns-then-budget-eq0 c = named_type_zero _ _ c.if-budget-eq0.true

pub returns : goal.returns
returns c = rw (named_type_more c.args.budget c.args.ahead (omega arith)) c.name_as_type.ensures
