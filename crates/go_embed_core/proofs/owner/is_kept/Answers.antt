use Rattle.std.proofs.Common.{ap, ◌∙◌}
use Rattle.go_embed_core.specs.OwnersShown.{entry_owner}
use Rattle.go_embed_core.specs.mirrors.Edges.{hidden_in}
use Rattle.go_embed_core.proofs.Keeping.{asked_hiding, no_hiding}
use Rattle.go_embed_core.proofs.owner.is_kept.Goals as goal

pub returns-then-hides_fields : goal.returns-then-hides_fields
returns-then-hides_fields c =
    let d = c.args.defined.now in
    let n = c.args.name.now in
    asked_hiding c.has_namesake.result (entry_owner d) n (c.has_namesake.ensures ∙ ap (hidden_in d.key.path d.methods n) c.underlying.ensures)

pub returns : goal.returns
returns c = no_hiding (entry_owner c.args.defined.now) c.args.name.now (c.hides_fields.ensures c.if-hides_fields.false)
