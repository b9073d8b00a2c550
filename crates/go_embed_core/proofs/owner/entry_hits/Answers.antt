use Rattle.std.proofs.Common.{ap, map, sym, subst, ◌∙◌}
use Rattle.go_term_core.specs.decl_core.declared.keys.DeclKey.{DeclKey}
use Rattle.go_collections_core.specs.spelling_index.Spelled.{AreSpelled, places_of}
use Rattle.go_type_core.specs.table_core.Shown.{member_shown}
use Rattle.go_type_core.specs.table_core.Listing.{members_are}
use Rattle.go_embed_core.specs.Owners.{declared_found}
use Rattle.go_embed_core.specs.mirrors.Tallies.{tallies, tally_of}
use Rattle.go_embed_core.proofs.Counting.{methods_named}
use Rattle.go_embed_core.proofs.owner.entry_hits.Goals as goal

pub indexed_methods-requires : goal.indexed_methods-requires
indexed_methods-requires c = subst (AreSpelled (places_of c.in-Some.index.now)) (sym (members_are c.methods-methods.result.now ∙ ap (map (λ m. m.name)) c.methods-methods.ensures)) c.in-Some.ensures

pub returns-in-Some : goal.returns-in-Some
returns-in-Some c =
    let d = c.args.defined.now in
    let test = tally_of c.args.name.now c.args.from.now in
    c.indexed_methods.ensures
    ∙ (methods_named c.key.result.now.path c.args.name.now c.args.from.now c.methods-methods.result.now
    ∙ (ap (λ (k : DeclKey). tallies test (declared_found k.path (map member_shown c.methods-methods.result.now))) c.key.ensures ∙ ap (λ ms. tallies test (declared_found d.key.path ms)) c.methods-methods.ensures))

pub returns-in-None : goal.returns-in-None
returns-in-None c =
    let d = c.args.defined.now in
    let test = tally_of c.args.name.now c.args.from.now in
    c.method_hits.ensures
    ∙ (methods_named c.key.result.now.path c.args.name.now c.args.from.now c.methods-methods.result.now
    ∙ (ap (λ (k : DeclKey). tallies test (declared_found k.path (map member_shown c.methods-methods.result.now))) c.key.ensures ∙ ap (λ ms. tallies test (declared_found d.key.path ms)) c.methods-methods.ensures))
