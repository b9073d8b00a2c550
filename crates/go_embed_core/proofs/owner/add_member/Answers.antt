use Rattle.std.proofs.lemmas.Result.{on_ok_weaker}
use Rattle.go_embed_core.proofs.Adding.{member_pushed}
use Rattle.go_embed_core.proofs.owner.add_member.Goals as goal

pub returns : goal.returns
returns c = on_ok_weaker c.add.result (λ e. member_pushed _ _ c.args.path c.of.result c.args.field.now _ e c.of.ensures.field c.of.ensures.line) c.add.ensures
