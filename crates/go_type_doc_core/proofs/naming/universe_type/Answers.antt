use Rattle.std.proofs.Common.{refl}
use Rattle.go_term_core.specs.Shapes.{shape}
use Rattle.go_type_doc_core.proofs.naming.universe_type.Goals as goal

pub returns-in-Ok-clause-ok : goal.returns-in-Ok-clause-ok
returns-in-Ok-clause-ok c = (shape c.in-Ok.term, refl, c.in-Ok.ensures.ok)
