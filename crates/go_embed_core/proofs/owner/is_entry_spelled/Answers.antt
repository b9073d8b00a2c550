use Rattle.std.proofs.Common.{ap, ◌∙◌}
use Rattle.go_collections_core.specs.spelling_index.Spelled.{places_of}
use Rattle.go_embed_core.specs.Owners.{declared_found, is_spelled_in}
use Rattle.go_embed_core.proofs.Counting.{methods_spelled}
use Rattle.go_embed_core.proofs.Placing.{declared_named}
use Rattle.go_embed_core.proofs.owner.is_entry_spelled.Goals as goal

pub returns-in-Some : goal.returns-in-Some
returns-in-Some c =
    let d = c.args.defined.now in
    c.is_indexed.ensures ∙ declared_named d.key.path c.args.name.now d.methods (places_of c.in-Some.index.now) c.in-Some.ensures

pub returns-in-None : goal.returns-in-None
returns-in-None c =
    let d = c.args.defined.now in
    c.is_method_spelled.ensures ∙ (methods_spelled d.key.path c.args.name.now c.methods.result.now ∙ ap (λ ms. is_spelled_in (declared_found d.key.path ms) c.args.name.now) c.methods.ensures)
