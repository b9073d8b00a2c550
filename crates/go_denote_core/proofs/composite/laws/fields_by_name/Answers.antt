use Rattle.go_denote_core.proofs.CompositeFieldLaws.{named_fields}
use Rattle.go_denote_core.proofs.composite.laws.fields_by_name.Goals as goal

pub returns : goal.returns
returns g c = named_fields
