use Rattle.std.proofs.Common.{rules, ◌≡◌, ◌++◌, [], ◌∷◌, ◌<◌, length, get_or, refl, ap, subst, ◌∙◌}
use Rattle.std.proofs.lemmas.List.{map-append}
use Rattle.go_tree_nodes.specs.declared.exprs.«Item» as declared_item
use Rattle.go_tree_nodes.specs.Shapes.{shape, items_of, shape_key}
use Rattle.go_denote_core.specs.declared.things.Stand.TheVariants as stands
use Rattle.go_expr_core.specs.Places.{start}
use Rattle.go_expr_core.specs.Looks.{everywhere}
use Rattle.go_tree_nodes.specs.TypeShapes.{shape_type}
use Rattle.go_expr_core.specs.Denoting.{named_type, written_type, denoted, denoted_items}
use Rattle.go_expr_core.specs.TypeUses.{type_uses}
use Rattle.go_expr_core.specs.Uses.{use_of, uses, spots, args_spots, args_uses, type_name_uses, elements_uses}
use Rattle.go_expr_core.specs.Faults.{args_faults, member_faults, literal_faults}
use Rattle.go_denote_core.specs.composite.Literals.{literal_denotes}
use Rattle.go_denote_core.specs.composite.Marks.{type_fields}
use Rattle.go_expr_core.proofs.Marks.{mark_there}
use Rattle.go_expr_core.proofs.Steps.{element_noted, elements_noted, ok_adds, ok_both, ok_is, ok_any}
use Rattle.go_expr_core.proofs.Arms.{answered_denoted, call_noted, call_denoted, call_has_uses, call_has_faults, literal_denoted, literal_has_uses, literal_has_faults, struct_denoted, struct_has_uses, struct_has_faults}
use Rattle.std.proofs.lemmas.Result.{on_ok_weaker}
use Rattle.go_expr_core.proofs.Turning.{turn_used, turn_noted}
use Rattle.go_expr_core.proofs.TypeTurns.{step}
use Rattle.go_expr_core.proofs.walk.+check.Goals as goal

pub check_args-loop-item-preserved : goal.check_args-loop-item-preserved
check_args-loop-item-preserved g t c =
    let looks = everywhere (g.E.TypeLooks.types c.args.env.now) (g.E.Names.names c.args.env.now) (g.E.Literals.literals c.args.env.now) (g.E.Exprs.written c.args.env.now) in
    let xs = c.deref-item-items.result.now in
    let i = c.loop-item.item-index in
    let x = c.item-item.result in
    let b = c.is_several-several.result in
    record {
      made = step (λ l. denoted_items looks (items_of l)) (λ (y : declared_item.Item). denoted looks stands.«Value» (shape y.value) ∷ []) (λ y ys. refl) xs i x c.loop-item-test.true c.item-item.is _ _
          (c.in_ok-push.ensures.items ∙ ap (λ d. c.loop-item.members.items ++ d ∷ []) c.in_ok-denoted.ensures.denoted) ∙ c.loop-item.invariant.made;
      used = step (λ l. args_uses looks (items_of l)) (λ (y : declared_item.Item). uses looks stands.«Value» (shape y.value)) (λ y ys. map-append (use_of looks) (spots looks stands.«Value» (shape y.value)) (args_spots looks (items_of ys))) xs i x c.loop-item-test.true c.item-item.is _ _
          c.in_ok-denoted.ensures.uses ∙ c.loop-item.invariant.used;
      noted = step (λ l. args_faults looks b (items_of l)) (λ (y : declared_item.Item). member_faults looks b (shape y.value)) (λ y ys. refl) xs i x c.loop-item-test.true c.item-item.is _ _
          c.in_ok-denoted.ensures.faults ∙ c.loop-item.invariant.noted;
    }

pub check_each-loop-at-preserved : goal.check_each-loop-at-preserved
check_each-loop-at-preserved g t c =
    let looks = everywhere (g.E.TypeLooks.types c.args.env.now) (g.E.Names.names c.args.env.now) (g.E.Literals.literals c.args.env.now) (g.E.Exprs.written c.args.env.now) in
    let xs = c.args.items.now.items in
    let i = c.loop-at.at in
    let x = c.item-item.result in
    let d = c.deref-item-items.ensures.value in
    let h : i < length xs = subst (λ l. i < length l) d c.loop-at-test.true in
    let is : x ≡ get_or xs i x = subst (λ l. x ≡ get_or l i x) d c.item-item.is in
    let fields = type_fields (g.E.Literals.literals c.args.env.now) c.args.t.now in
    let mark = c.mark_at.ensures ∙ mark_there fields c.args.key_marks.now xs i x c.requires h is in
    record {
      used = turn_used looks c.args.t.now c.args.mixed c.mark_at.result xs i x h is mark _ _ c.in_ok-check_element.ensures.uses ∙ c.loop-at.invariant.used;
      noted = turn_noted looks c.args.mode c.args.t.now c.args.mixed c.mark_at.result xs i x h is mark _ _ c.in_ok-check_element.ensures.faults ∙ c.loop-at.invariant.noted;
    }

pub check_element-returns-clause-faults : goal.check_element-returns-clause-faults
check_element-returns-clause-faults g t c =
    let looks = everywhere (g.E.TypeLooks.types c.args.env.now) (g.E.Names.names c.args.env.now) (g.E.Literals.literals c.args.env.now) (g.E.Exprs.written c.args.env.now) in
    element_noted c.note_misfit.result looks c.args.t.now c.args.mode c.args.mixed c.args.number c.args.mark (shape_key c.args.key.now) (shape c.args.value.now) c.item_start.result c.element_target-wanted.result c.in_ok-by_key.by_key c.in_ok-denoted.denoted _ _ _
    c.in_ok-denoted.ensures.faults c.item_start.ensures c.in_ok-by_key.ensures.target c.element_target-wanted.ensures c.in_ok-denoted.ensures.denoted (c.note_misfit.ensures (start (shape c.args.value.now)))

pub check_elements-returns-clause-faults : goal.check_elements-returns-clause-faults
check_elements-returns-clause-faults g t c =
    let looks = everywhere (g.E.TypeLooks.types c.args.env.now) (g.E.Names.names c.args.env.now) (g.E.Literals.literals c.args.env.now) (g.E.Exprs.written c.args.env.now) in
    elements_noted looks c.args.t c.args.offset c.args.items.now.items c.literal_rule-rule.result c.literal_mode-mode.result c.is_mixed.result c.in_ok-marks.marks.keys c.len.result c.len-2.result _ _ _
    c.in_ok-marks.ensures.keys (c.len.ensures ∙ c.args.items.now.ok.0) (c.len-2.ensures ∙ c.args.items.now.ok.0) c.literal_rule-rule.ensures c.literal_mode-mode.ensures c.is_mixed.ensures c.in_ok-note_fault.ensures c.in_ok-check_each.ensures.faults

pub check_expr-returns-in_ok-callee-in-Call-clause-denoted : goal.check_expr-returns-in_ok-callee-in-Call-clause-denoted
check_expr-returns-in_ok-callee-in-Call-clause-denoted g t c =
    let looks = everywhere (g.E.TypeLooks.types c.args.env.now) (g.E.Names.names c.args.env.now) (g.E.Literals.literals c.args.env.now) (g.E.Exprs.written c.args.env.now) in
    ok_is c.check_called.result _ _ (call_denoted looks c.args.place c.args.expr.now c.in-Call.call c.in-Call.is c.deref-in-Call.result.now c.deref-in-Call-2.result.now c.deref-in-Call-3.result.now c.deref-in-Call.ensures c.deref-in-Call-2.ensures c.deref-in-Call-3.ensures c.in_ok-callee-in-Call.callee c.in_ok-callee-in-Call.ensures.denoted) c.check_called.ensures.denoted

pub check_expr-returns-in_ok-callee-in-Call-clause-uses : goal.check_expr-returns-in_ok-callee-in-Call-clause-uses
check_expr-returns-in_ok-callee-in-Call-clause-uses g t c =
    let looks = everywhere (g.E.TypeLooks.types c.args.env.now) (g.E.Names.names c.args.env.now) (g.E.Literals.literals c.args.env.now) (g.E.Exprs.written c.args.env.now) in
    ok_both c.check_called.result _ _ _ _ _ _ c.in_ok-callee-in-Call.ensures.uses (call_has_uses looks c.args.place c.args.expr.now c.in-Call.call c.in-Call.is c.deref-in-Call.result.now c.deref-in-Call-2.result.now c.deref-in-Call-3.result.now c.deref-in-Call.ensures c.deref-in-Call-2.ensures c.deref-in-Call-3.ensures c.in_ok-callee-in-Call.callee c.in_ok-callee-in-Call.ensures.denoted) c.check_called.ensures.uses

pub check_expr-returns-in_ok-callee-in-Call-clause-faults : goal.check_expr-returns-in_ok-callee-in-Call-clause-faults
check_expr-returns-in_ok-callee-in-Call-clause-faults g t c =
    let looks = everywhere (g.E.TypeLooks.types c.args.env.now) (g.E.Names.names c.args.env.now) (g.E.Literals.literals c.args.env.now) (g.E.Exprs.written c.args.env.now) in
    ok_both c.check_called.result _ _ _ _ _ _ c.in_ok-callee-in-Call.ensures.faults (call_has_faults looks c.args.place c.args.expr.now c.in-Call.call c.in-Call.is c.deref-in-Call.result.now c.deref-in-Call-2.result.now c.deref-in-Call-3.result.now c.deref-in-Call.ensures c.deref-in-Call-2.ensures c.deref-in-Call-3.ensures) c.check_called.ensures.faults

pub check_expr-returns-in-Literal-clause-denoted : goal.check_expr-returns-in-Literal-clause-denoted
check_expr-returns-in-Literal-clause-denoted g t c =
    let looks = everywhere (g.E.TypeLooks.types c.args.env.now) (g.E.Names.names c.args.env.now) (g.E.Literals.literals c.args.env.now) (g.E.Exprs.written c.args.env.now) in
    ok_is c.check_literal.result _ _ (literal_denoted looks c.args.place c.args.expr.now c.in-Literal.literal c.in-Literal.is c.deref-in-Literal.result.now c.deref-in-Literal-2.result.now c.deref-in-Literal.ensures c.deref-in-Literal-2.ensures) c.check_literal.ensures.denoted

pub check_expr-returns-in-Literal-clause-uses : goal.check_expr-returns-in-Literal-clause-uses
check_expr-returns-in-Literal-clause-uses g t c =
    let looks = everywhere (g.E.TypeLooks.types c.args.env.now) (g.E.Names.names c.args.env.now) (g.E.Literals.literals c.args.env.now) (g.E.Exprs.written c.args.env.now) in
    ok_adds c.check_literal.result _ _ _ _ (literal_has_uses looks c.args.place c.args.expr.now c.in-Literal.literal c.in-Literal.is c.deref-in-Literal.result.now c.deref-in-Literal-2.result.now c.deref-in-Literal.ensures c.deref-in-Literal-2.ensures) c.check_literal.ensures.uses

pub check_expr-returns-in-Literal-clause-faults : goal.check_expr-returns-in-Literal-clause-faults
check_expr-returns-in-Literal-clause-faults g t c =
    let looks = everywhere (g.E.TypeLooks.types c.args.env.now) (g.E.Names.names c.args.env.now) (g.E.Literals.literals c.args.env.now) (g.E.Exprs.written c.args.env.now) in
    ok_adds c.check_literal.result _ _ _ _ (literal_has_faults looks c.args.place c.args.expr.now c.in-Literal.literal c.in-Literal.is c.deref-in-Literal.result.now c.deref-in-Literal-2.result.now c.deref-in-Literal.ensures c.deref-in-Literal-2.ensures) c.check_literal.ensures.faults

pub check_expr-returns-in-StructLiteral-clause-denoted : goal.check_expr-returns-in-StructLiteral-clause-denoted
check_expr-returns-in-StructLiteral-clause-denoted g t c =
    let looks = everywhere (g.E.TypeLooks.types c.args.env.now) (g.E.Names.names c.args.env.now) (g.E.Literals.literals c.args.env.now) (g.E.Exprs.written c.args.env.now) in
    ok_is c.check_struct_literal.result _ _ (struct_denoted looks c.args.place c.args.expr.now c.in-StructLiteral.literal c.in-StructLiteral.is c.deref-in-StructLiteral.result.now c.deref-in-StructLiteral-2.result.now c.deref-in-StructLiteral.ensures c.deref-in-StructLiteral-2.ensures) c.check_struct_literal.ensures.denoted

pub check_expr-returns-in-StructLiteral-clause-uses : goal.check_expr-returns-in-StructLiteral-clause-uses
check_expr-returns-in-StructLiteral-clause-uses g t c =
    let looks = everywhere (g.E.TypeLooks.types c.args.env.now) (g.E.Names.names c.args.env.now) (g.E.Literals.literals c.args.env.now) (g.E.Exprs.written c.args.env.now) in
    ok_adds c.check_struct_literal.result _ _ _ _ (struct_has_uses looks c.args.place c.args.expr.now c.in-StructLiteral.literal c.in-StructLiteral.is c.deref-in-StructLiteral.result.now c.deref-in-StructLiteral-2.result.now c.deref-in-StructLiteral.ensures c.deref-in-StructLiteral-2.ensures) c.check_struct_literal.ensures.uses

pub check_expr-returns-in-StructLiteral-clause-faults : goal.check_expr-returns-in-StructLiteral-clause-faults
check_expr-returns-in-StructLiteral-clause-faults g t c =
    let looks = everywhere (g.E.TypeLooks.types c.args.env.now) (g.E.Names.names c.args.env.now) (g.E.Literals.literals c.args.env.now) (g.E.Exprs.written c.args.env.now) in
    ok_adds c.check_struct_literal.result _ _ _ _ (struct_has_faults looks c.args.place c.args.expr.now c.in-StructLiteral.literal c.in-StructLiteral.is c.deref-in-StructLiteral.result.now c.deref-in-StructLiteral-2.result.now c.deref-in-StructLiteral.ensures c.deref-in-StructLiteral-2.ensures) c.check_struct_literal.ensures.faults

pub check_called-returns-clause-denoted : goal.check_called-returns-clause-denoted
check_called-returns-clause-denoted g t c =
    let looks = everywhere (g.E.TypeLooks.types c.args.env.now) (g.E.Names.names c.args.env.now) (g.E.Literals.literals c.args.env.now) (g.E.Exprs.written c.args.env.now) in
    ok_is c.finish_call.result _ _ (answered_denoted looks c.args.callee.now c.args.opening (items_of c.args.args.now.items) c.is_lone_call-is_lone.result c.in_ok-members.members.items c.is_lone_call-is_lone.ensures c.in_ok-members.ensures.denoted) c.finish_call.ensures.denoted

pub check_called-returns-clause-uses : goal.check_called-returns-clause-uses
check_called-returns-clause-uses g t c =
    let looks = everywhere (g.E.TypeLooks.types c.args.env.now) (g.E.Names.names c.args.env.now) (g.E.Literals.literals c.args.env.now) (g.E.Exprs.written c.args.env.now) in
    on_ok_weaker c.finish_call.result (λ e. e ∙ call_noted looks c.args.callee.now c.args.opening (items_of c.args.args.now.items) c.is_lone_call-is_lone.result c.in_ok-members.members.items c.is_lone_call-is_lone.ensures c.in_ok-members.ensures.denoted _ _ _ _ _ c.in_ok-open_call.ensures c.in_ok-members.ensures.uses (search rules)) c.finish_call.ensures.uses

pub check_called-returns-clause-faults : goal.check_called-returns-clause-faults
check_called-returns-clause-faults g t c =
    let looks = everywhere (g.E.TypeLooks.types c.args.env.now) (g.E.Names.names c.args.env.now) (g.E.Literals.literals c.args.env.now) (g.E.Exprs.written c.args.env.now) in
    ok_any c.finish_call.result c.in_ok-members.ensures.faults

pub check_literal-returns-clause-denoted : goal.check_literal-returns-clause-denoted
check_literal-returns-clause-denoted g t c =
    let looks = everywhere (g.E.TypeLooks.types c.args.env.now) (g.E.Names.names c.args.env.now) (g.E.Literals.literals c.args.env.now) (g.E.Exprs.written c.args.env.now) in
    ok_is c.check_elements.result _ _ (ap literal_denotes c.in_ok-t.ensures.t) c.check_elements.ensures.denoted

pub check_literal-returns-clause-uses : goal.check_literal-returns-clause-uses
check_literal-returns-clause-uses g t c =
    let looks = everywhere (g.E.TypeLooks.types c.args.env.now) (g.E.Names.names c.args.env.now) (g.E.Literals.literals c.args.env.now) (g.E.Exprs.written c.args.env.now) in
    ok_both c.check_elements.result _ _ _ _ _ _ c.in_ok-t.ensures.uses (ap (λ s. type_name_uses looks c.args.name.now ++ elements_uses looks s (items_of c.args.items.now.items)) c.in_ok-t.ensures.t) c.check_elements.ensures.uses

pub check_literal-returns-clause-faults : goal.check_literal-returns-clause-faults
check_literal-returns-clause-faults g t c =
    let looks = everywhere (g.E.TypeLooks.types c.args.env.now) (g.E.Names.names c.args.env.now) (g.E.Literals.literals c.args.env.now) (g.E.Exprs.written c.args.env.now) in
    ok_adds c.check_elements.result _ _ _ _ (ap (λ s. literal_faults looks c.type_name_start.result s (items_of c.args.items.now.items)) c.in_ok-t.ensures.t ∙ ap (λ o. literal_faults looks o (named_type looks c.args.name.now) (items_of c.args.items.now.items)) c.type_name_start.ensures) c.check_elements.ensures.faults

pub check_struct_literal-returns-clause-denoted : goal.check_struct_literal-returns-clause-denoted
check_struct_literal-returns-clause-denoted g t c =
    let looks = everywhere (g.E.TypeLooks.types c.args.env.now) (g.E.Names.names c.args.env.now) (g.E.Literals.literals c.args.env.now) (g.E.Exprs.written c.args.env.now) in
    ok_is c.check_elements.result _ _ (ap literal_denotes c.in_ok-t.ensures) c.check_elements.ensures.denoted

pub check_struct_literal-returns-clause-uses : goal.check_struct_literal-returns-clause-uses
check_struct_literal-returns-clause-uses g t c =
    let looks = everywhere (g.E.TypeLooks.types c.args.env.now) (g.E.Names.names c.args.env.now) (g.E.Literals.literals c.args.env.now) (g.E.Exprs.written c.args.env.now) in
    ok_both c.check_elements.result _ _ _ _ _ _ c.in_ok-check_type.ensures (ap (λ s. type_uses looks (shape_type c.args.tree.now) ++ elements_uses looks s (items_of c.args.items.now.items)) c.in_ok-t.ensures) c.check_elements.ensures.uses

pub check_struct_literal-returns-clause-faults : goal.check_struct_literal-returns-clause-faults
check_struct_literal-returns-clause-faults g t c =
    let looks = everywhere (g.E.TypeLooks.types c.args.env.now) (g.E.Names.names c.args.env.now) (g.E.Literals.literals c.args.env.now) (g.E.Exprs.written c.args.env.now) in
    ok_both c.check_elements.result _ _ _ _ _ _ c.in_ok-add_type_faults.ensures (ap (λ f. looks.written.faults_of (named_type looks) (shape_type c.args.tree.now) ++ f) (ap (λ s. literal_faults looks c.type_start.result s (items_of c.args.items.now.items)) c.in_ok-t.ensures ∙ ap (λ o. literal_faults looks o (written_type looks (shape_type c.args.tree.now)) (items_of c.args.items.now.items)) c.type_start.ensures)) c.check_elements.ensures.faults
