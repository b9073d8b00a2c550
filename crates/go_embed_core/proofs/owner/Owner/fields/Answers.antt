use Rattle.std.proofs.Common.{ap, ◌∙◌}
use Rattle.go_type_core.specs.table_core.Methods.{term_fields}
use Rattle.go_embed_core.proofs.owner.Owner.fields.Goals as goal

pub returns-in-Some : goal.returns-in-Some
returns-in-Some c = c.struct_fields.ensures ∙ ap term_fields c.in-Some.ensures

pub returns-in-None : goal.returns-in-None
returns-in-None c = c.no_fields.ensures ∙ ap term_fields c.in-None.ensures
