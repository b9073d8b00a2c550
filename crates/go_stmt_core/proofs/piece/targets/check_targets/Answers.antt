use Rattle.std.proofs.Common.{◌++◌, [], ◌∷◌, refl, sym, ap, ◌∙◌, append_assoc}
use Rattle.go_tree_nodes.specs.Shapes.{shape, shape_exprs}
use Rattle.go_expr_core.specs.Looks.{everywhere}
use Rattle.go_expr_core.proofs.TypeTurns.{ended}
use Rattle.go_stmt_core.specs.piece.Targets.{target, target_uses, target_faults, targets, targets_faults}
use Rattle.go_stmt_core.specs.piece.mirrors.Later.{later_targets, later_uses, later_faults}
use Rattle.go_stmt_core.proofs.PieceListing.{all_targets, all_uses, all_faults}
use Rattle.go_stmt_core.proofs.piece.targets.check_targets.Goals as goal

pub returns-clause-targets : goal.returns-clause-targets
returns-clause-targets g c =
    let looks = everywhere (g.E.TypeLooks.types c.args.env.now) (g.E.Names.names c.args.env.now) (g.E.Literals.literals c.args.env.now) (g.E.Exprs.written c.args.env.now) in
    let es = c.args.exprs.now in
    let b = c.is_list-several.result in
    ended (later_targets looks b) refl c.deref-next-items.result.now c.loop-next.next-index c.loop-next-test.false (target looks b (shape es.first) ∷ []) c.loop-next.all.items c.loop-next.invariant.made
    ∙ (ap (λ l. target looks b (shape es.first) ∷ later_targets looks b l) c.deref-next-items.ensures.value ∙ (sym (all_targets looks b es.first es.more.items) ∙ ap (λ x. targets looks x (shape_exprs es)) c.is_list-several.ensures))

pub returns-clause-uses : goal.returns-clause-uses
returns-clause-uses g c =
    let looks = everywhere (g.E.TypeLooks.types c.args.env.now) (g.E.Names.names c.args.env.now) (g.E.Literals.literals c.args.env.now) (g.E.Exprs.written c.args.env.now) in
    let es = c.args.exprs.now in
    let old = c.args.notes.now.uses.items in
    ended (later_uses looks) refl c.deref-next-items.result.now c.loop-next.next-index c.loop-next-test.false (old ++ target_uses looks (shape es.first)) c.loop-next.notes.uses.items c.loop-next.invariant.used
    ∙ (append_assoc old (target_uses looks (shape es.first)) (later_uses looks c.deref-next-items.result.now)
    ∙ ap (λ l. old ++ l) (ap (λ l. target_uses looks (shape es.first) ++ later_uses looks l) c.deref-next-items.ensures.value ∙ sym (all_uses looks es.first es.more.items)))

pub returns-clause-faults : goal.returns-clause-faults
returns-clause-faults g c =
    let looks = everywhere (g.E.TypeLooks.types c.args.env.now) (g.E.Names.names c.args.env.now) (g.E.Literals.literals c.args.env.now) (g.E.Exprs.written c.args.env.now) in
    let es = c.args.exprs.now in
    let b = c.is_list-several.result in
    let old = c.args.notes.now.faults.items in
    ended (later_faults looks b) refl c.deref-next-items.result.now c.loop-next.next-index c.loop-next-test.false (old ++ target_faults looks b (shape es.first)) c.loop-next.notes.faults.items c.loop-next.invariant.noted
    ∙ (append_assoc old (target_faults looks b (shape es.first)) (later_faults looks b c.deref-next-items.result.now)
    ∙ ap (λ l. old ++ l) (ap (λ l. target_faults looks b (shape es.first) ++ later_faults looks b l) c.deref-next-items.ensures.value
    ∙ (sym (all_faults looks b es.first es.more.items) ∙ ap (λ x. targets_faults looks x (shape_exprs es)) c.is_list-several.ensures)))
