use Rattle.std.proofs.Common.{◌∙◌, ap, Ok}
use Rattle.go_parse_reader.specs.types.mirrors.EntryShapes.{line_tree}
use Rattle.go_parse_reader.specs.types.mirrors.Marks.{◌>>=◌}
use Rattle.go_parse_reader.proofs.TypesCodeTypes.{line_marked, line_fails}
use Rattle.go_parse_reader.proofs.types.type_reader.field_line.Goals as goal

pub returns-in-Ok : goal.returns-in-Ok
returns-in-Ok c = line_marked (line_tree c.args.fields) c.args.ahead ∙ ap (λ r. r >>= λ y. Ok ((line_tree c.args.fields y.0.0, y.0.1), y.1)) c.in-Ok.ensures

pub returns-in-Err : goal.returns-in-Err
returns-in-Err c = line_fails (line_tree c.args.fields) c.args.ahead _ c.in-Err.ensures
