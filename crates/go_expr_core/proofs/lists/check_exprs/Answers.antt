use Rattle.std.proofs.Common.{◌++◌, [], ◌∷◌, refl, sym, ap, ◌∙◌, append_assoc}
use Rattle.go_tree_nodes.specs.Shapes.{shape, shape_exprs}
use Rattle.go_denote_core.specs.declared.things.Stand.TheVariants as stands
use Rattle.go_expr_core.specs.Looks.{everywhere}
use Rattle.go_expr_core.specs.Denoting.{denoted}
use Rattle.go_expr_core.specs.Uses.{uses}
use Rattle.go_expr_core.specs.Faults.{member_faults}
use Rattle.go_expr_core.specs.Lists.{exprs_faults}
use Rattle.go_expr_core.specs.mirrors.Later.{later_denoted, later_uses, later_faults}
use Rattle.go_expr_core.proofs.Listing.{list_denoted, list_uses, list_faults}
use Rattle.go_expr_core.proofs.TypeTurns.{ended}
use Rattle.go_expr_core.proofs.lists.check_exprs.Goals as goal

pub returns-clause-denoted : goal.returns-clause-denoted
returns-clause-denoted g c =
    let looks = everywhere (g.E.TypeLooks.types c.args.env.now) (g.E.Names.names c.args.env.now) (g.E.Literals.literals c.args.env.now) (g.E.Exprs.written c.args.env.now) in
    let es = c.args.exprs.now in
    ended (later_denoted looks) refl c.deref-next-items.result.now c.loop-next.next-index c.loop-next-test.false (denoted looks stands.«Value» (shape es.first) ∷ []) c.loop-next.members.items c.loop-next.invariant.made
    ∙ (ap (λ l. denoted looks stands.«Value» (shape es.first) ∷ later_denoted looks l) c.deref-next-items.ensures.value ∙ sym (list_denoted looks es.first es.more.items))

pub returns-clause-uses : goal.returns-clause-uses
returns-clause-uses g c =
    let looks = everywhere (g.E.TypeLooks.types c.args.env.now) (g.E.Names.names c.args.env.now) (g.E.Literals.literals c.args.env.now) (g.E.Exprs.written c.args.env.now) in
    let es = c.args.exprs.now in
    let old = c.args.notes.now.uses.items in
    ended (later_uses looks) refl c.deref-next-items.result.now c.loop-next.next-index c.loop-next-test.false (old ++ uses looks stands.«Value» (shape es.first)) c.loop-next.notes.uses.items c.loop-next.invariant.used
    ∙ (append_assoc old (uses looks stands.«Value» (shape es.first)) (later_uses looks c.deref-next-items.result.now)
    ∙ ap (λ l. old ++ l) (ap (λ l. uses looks stands.«Value» (shape es.first) ++ later_uses looks l) c.deref-next-items.ensures.value ∙ sym (list_uses looks es.first es.more.items)))

pub returns-clause-faults : goal.returns-clause-faults
returns-clause-faults g c =
    let looks = everywhere (g.E.TypeLooks.types c.args.env.now) (g.E.Names.names c.args.env.now) (g.E.Literals.literals c.args.env.now) (g.E.Exprs.written c.args.env.now) in
    let es = c.args.exprs.now in
    let b = c.is_list-several.result in
    let old = c.args.notes.now.faults.items in
    ended (later_faults looks b) refl c.deref-next-items.result.now c.loop-next.next-index c.loop-next-test.false (old ++ member_faults looks b (shape es.first)) c.loop-next.notes.faults.items c.loop-next.invariant.noted
    ∙ (append_assoc old (member_faults looks b (shape es.first)) (later_faults looks b c.deref-next-items.result.now)
    ∙ ap (λ l. old ++ l) (ap (λ l. member_faults looks b (shape es.first) ++ later_faults looks b l) c.deref-next-items.ensures.value
    ∙ (sym (list_faults looks b es.first es.more.items) ∙ ap (λ x. exprs_faults looks x (shape_exprs es)) c.is_list-several.ensures)))
