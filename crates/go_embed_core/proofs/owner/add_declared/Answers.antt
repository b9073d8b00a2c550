use Rattle.std.proofs.Common.{◌++◌, map, ap, ◌∙◌}
use Rattle.std.proofs.lemmas.Result.{on_ok_weaker}
use Rattle.go_term_core.specs.decl_core.declared.keys.DeclKey.{DeclKey}
use Rattle.go_type_core.specs.table_core.Shown.{member_shown}
use Rattle.go_embed_core.specs.Owners.{declared_found}
use Rattle.go_embed_core.specs.OwnersShown.{named_shown}
use Rattle.go_embed_core.proofs.owner.add_declared.Goals as goal

pub returns : goal.returns
returns c =
    let d = c.args.defined.now in
    let first = map named_shown c.args.members.now.items in
    on_ok_weaker c.add_methods.result
    (λ e. e ∙ (ap (λ (k : DeclKey). first ++ declared_found k.path (map member_shown c.methods.result.now)) c.key.ensures ∙ ap (λ ms. first ++ declared_found d.key.path ms) c.methods.ensures))
    c.add_methods.ensures
