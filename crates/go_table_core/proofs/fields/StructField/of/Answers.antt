use Rattle.go_table_core.proofs.Lined.{lined}
use Rattle.go_table_core.proofs.fields.StructField.of.Goals as goal

pub returns-clause-line : goal.returns-clause-line
returns-clause-line c = lined c.args.lines.now c.args.field.now.line c.get.result c.get.ensures.lookup
