use Rattle.std.proofs.Common.{sym, ◌∙◌}
use Rattle.go_embed_core.specs.OwnersShown.{owner_shown}
use Rattle.go_embed_core.specs.mirrors.Tallies.{hits_shown}
use Rattle.go_embed_core.proofs.Counting.{are_hits, members_own, members_tally}
use Rattle.go_embed_core.proofs.Keeping.{tally_if_hidden, tally_if_shown}
use Rattle.go_embed_core.proofs.owner.Owner.hits.Goals as goal

pub returns-then-hides : goal.returns-then-hides
returns-then-hides c =
    let o = owner_shown c.args.self.now in
    let own = c.own_hits-own.result in
    are_hits o c.args.name.now c.args.from.now own (members_own o c.args.name.now c.args.from.now (hits_shown own) c.own_hits-own.ensures (tally_if_hidden o c.hides.result c.args.name.now c.args.from.now c.hides.ensures c.if-hides.true))

pub returns : goal.returns
returns c =
    let o = owner_shown c.args.self.now in
    are_hits o c.args.name.now c.args.from.now c.and.result
    (c.and.ensures ∙ members_tally o c.args.name.now c.args.from.now (hits_shown c.own_hits-own.result) (hits_shown c.underlying_hits.result) c.own_hits-own.ensures (c.underlying_hits.ensures ∙ sym (tally_if_shown o c.hides.result c.args.name.now c.args.from.now c.hides.ensures c.if-hides.false)))
