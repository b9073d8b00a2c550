use Rattle.std.proofs.Common.{ap, ◌∙◌}
use Rattle.go_select_core.specs.embed_core.OwnersShown.{entry_owner}
use Rattle.go_env_core.specs.Fields.{term_seen}
use Rattle.go_select_core.specs.embed_core.Owners.{nobody}
use Rattle.go_env_core.proofs.Seeing.{none_kept}
use Rattle.go_env_core.proofs.fields.defined_fields.Goals as goal

pub returns-else-hides_fields : goal.returns-else-hides_fields
returns-else-hides_fields c s =
    let d = c.args.defined.now in
    c.term_fields-else-hides_fields.ensures s
    ∙ (ap (term_seen s nobody) c.underlying-else-hides_fields.ensures ∙ none_kept s (entry_owner d) d.term (c.hides_fields.ensures c.if-hides_fields.false))
