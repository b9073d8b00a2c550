use Rattle.std.proofs.Common.{◌&&◌, is_some, ap, map, ◌∙◌}
use Rattle.go_term_core.specs.decl_core.declared.keys.DeclKey.{DeclKey}
use Rattle.go_collections_core.specs.spelling_index.Spelled.{places_of, spelled_in}
use Rattle.go_type_core.specs.table_core.Entries.{has_method, same_id}
use Rattle.go_type_core.specs.table_core.Shown.{member_shown}
use Rattle.go_embed_core.proofs.Placing.{had_named}
use Rattle.go_embed_core.proofs.owner.has_own_method.Goals as goal

pub returns-in-Some : goal.returns-in-Some
returns-in-Some c =
    let d = c.args.defined.now in
    let n = c.args.name.now in
    let ps = places_of c.in-Some.index.now in
    c.is_indexed_as.ensures
    ∙ (ap (λ (k : DeclKey). is_some (spelled_in ps n) && same_id n k.path n c.args.from.now) c.key.ensures ∙ had_named d.key.path n c.args.from.now d.methods ps c.in-Some.ensures)

pub returns-in-None : goal.returns-in-None
returns-in-None c =
    let d = c.args.defined.now in
    c.has_method.ensures
    ∙ (ap (λ (k : DeclKey). has_method k.path (map member_shown c.methods.result.now) c.args.name.now c.args.from.now) c.key.ensures ∙ ap (λ ms. has_method d.key.path ms c.args.name.now c.args.from.now) c.methods.ensures)
