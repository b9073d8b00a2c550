use Rattle.std.proofs.Common.{◌≡◌, [], ◌∷◌, refl, sym, ap, ◌∙◌}
use Rattle.go_tree_nodes.specs.declared.names.Ident.{Ident}
use Rattle.go_tree_nodes.specs.declared.usage.Usage.{Usage}
use Rattle.go_tree_nodes.specs.declared.exprs.CallExpr.{out-CallExpr}
use Rattle.go_tree_nodes.specs.declared.exprs.LiteralExpr.{out-LiteralExpr}
use Rattle.go_tree_nodes.specs.declared.exprs.StructLiteralExpr.{out-StructLiteralExpr}
use Rattle.go_tree_nodes.specs.Trees.{ExprTree}
use Rattle.go_tree_nodes.specs.TypeShapes.{shape_type}
use Rattle.go_tree_nodes.specs.Shapes.{shape, shape_key, items_of}
use Rattle.go_tree_nodes.proofs.ShapeLemmas.{call_form, literal_form, struct_form}
use Rattle.go_expr_core.specs.denote_core.declared.things.Stand.{Stand}
use Rattle.go_expr_core.specs.denote_core.declared.things.Stand.TheVariants as stands
use Rattle.go_expr_core.specs.Places.{left_place, whole}
use Rattle.go_cursor_core.specs.Shown.{literal_shown}
use Rattle.go_cursor_core.specs.Used.{OfName, OfWritten, BehindSpot, used, first_used, type_name_used, type_used, expr_used, key_used, args_used, elements_used}
use Rattle.go_cursor_core.proofs.Finding.{in_front, not_in_front, front, behind, passed, hit}
use Rattle.go_cursor_core.proofs.TreeLists.{listed_args, one_arg, args_first, listed_elements, one_element, elements_first}
use Rattle.go_cursor_core.proofs.exprs.+exprs.Goals as goal

pub in_args-returns-then-is_some : goal.in_args-returns-then-is_some
in_args-returns-then-is_some t c =
    hit c.args.start listed_args one_arg (λ n. refl) args_first c.deref-arg-items.result.now c.args.args.now.items c.loop-arg.arg-index c.arg-item.result c.in_expr-found.result c.deref-arg-items.ensures.value c.loop-arg-test.true c.arg-item.is c.loop-arg.invariant c.in_expr-found.ensures (sym c.is_some.ensures ∙ c.if-is_some.true)

pub in_args-loop-arg-preserved : goal.in_args-loop-arg-preserved
in_args-loop-arg-preserved t c =
    passed c.args.start listed_args one_arg (λ n. refl) args_first c.deref-arg-items.result.now c.loop-arg.arg-index c.arg-item.result c.in_expr-found.result c.loop-arg-test.true c.arg-item.is c.loop-arg.invariant c.in_expr-found.ensures (sym c.is_some.ensures ∙ c.if-is_some.false)

pub in_elements-returns-then-is_some : goal.in_elements-returns-then-is_some
in_elements-returns-then-is_some t c =
    let l = literal_shown c.args.of_type in
    let all = c.args.elements.now.items in
    let x = c.element-item.result in
    let i = c.loop-at.at in
    let there = sym c.is_some.ensures ∙ c.if-is_some.true in
    hit c.args.start (listed_elements l all) (one_element l all) (λ n. refl) (elements_first l all) c.deref-element-items.result.now all i x c.in_key-found.result c.deref-element-items.ensures.value c.loop-at-test.true c.element-item.is c.loop-at.invariant
    (in_front c.args.start c.in_key-found.result (one_element l all i x) (key_used l (items_of all) i (shape_key x.key)) (expr_used stands.«Value» (shape x.value)) refl c.in_key-found.ensures there) there

pub in_elements-returns-then-is_some-2 : goal.in_elements-returns-then-is_some-2
in_elements-returns-then-is_some-2 t c =
    let l = literal_shown c.args.of_type in
    let all = c.args.elements.now.items in
    let x = c.element-item.result in
    let i = c.loop-at.at in
    let gone = sym c.is_some.ensures ∙ c.if-is_some.false in
    hit c.args.start (listed_elements l all) (one_element l all) (λ n. refl) (elements_first l all) c.deref-element-items.result.now all i x c.in_expr-found.result c.deref-element-items.ensures.value c.loop-at-test.true c.element-item.is c.loop-at.invariant
    (c.in_expr-found.ensures ∙ sym (not_in_front c.args.start c.in_key-found.result (one_element l all i x) (key_used l (items_of all) i (shape_key x.key)) (expr_used stands.«Value» (shape x.value)) refl c.in_key-found.ensures gone)) (sym c.is_some-in-loop-at.ensures ∙ c.if-is_some-2.true)

pub in_elements-loop-at-preserved : goal.in_elements-loop-at-preserved
in_elements-loop-at-preserved t c =
    let l = literal_shown c.args.of_type in
    let all = c.args.elements.now.items in
    let x = c.element-item.result in
    let i = c.loop-at.at in
    let gone = sym c.is_some.ensures ∙ c.if-is_some.false in
    passed c.args.start (listed_elements l all) (one_element l all) (λ n. refl) (elements_first l all) c.deref-element-items.result.now i x c.in_expr-found.result c.loop-at-test.true c.element-item.is c.loop-at.invariant
    (c.in_expr-found.ensures ∙ sym (not_in_front c.args.start c.in_key-found.result (one_element l all i x) (key_used l (items_of all) i (shape_key x.key)) (expr_used stands.«Value» (shape x.value)) refl c.in_key-found.ensures gone)) (sym c.is_some-in-loop-at.ensures ∙ c.if-is_some-2.false)

pub in_expr-returns-in-None : goal.in_expr-returns-in-None
in_expr-returns-in-None t c =
    let b = c.in-Binary.binary.value in
    behind c.args.start c.in_expr-in-Binary.result c.in_expr-in-None.result _ (expr_used stands.«Value» (shape b.left)) (expr_used stands.«Value» (shape b.right)) (ap (λ e. expr_used c.args.place (shape e)) c.in-Binary.is)
    (c.in_expr-in-Binary.ensures ∙ ap (λ x. first_used c.args.start (expr_used stands.«Value» (shape x.left))) c.deref-in-Binary.ensures) c.in-None.is
    (c.in_expr-in-None.ensures ∙ ap (λ x. first_used c.args.start (expr_used stands.«Value» (shape x.right))) c.deref-in-None.ensures)

pub in_expr-returns-in_default : goal.in_expr-returns-in_default
in_expr-returns-in_default t c =
    let b = c.in-Binary.binary.value in
    front c.args.start c.in_expr-in-Binary.result _ (expr_used stands.«Value» (shape b.left)) (expr_used stands.«Value» (shape b.right)) (ap (λ e. expr_used c.args.place (shape e)) c.in-Binary.is)
    (c.in_expr-in-Binary.ensures ∙ ap (λ x. first_used c.args.start (expr_used stands.«Value» (shape x.left))) c.deref-in-Binary.ensures) c.in_default.not-None

same_behind : (x y : Ident) (u v : Usage) (p q : Stand) (e f : ExprTree) → x ≡ y → u ≡ v → p ≡ q → e ≡ f → used x (BehindSpot u p e) ≡ used y (BehindSpot v q f)
same_behind x y u v p q e f g h i j = ap (λ a. used a (BehindSpot u p e)) g ∙ (ap (λ a. used y (BehindSpot a p e)) h ∙ (ap (λ a. used y (BehindSpot v a e)) i ∙ ap (λ a. used y (BehindSpot v q a)) j))

pub in_expr-returns-in-None-in_expr : goal.in_expr-returns-in-None-in_expr
in_expr-returns-in-None-in_expr t c =
    let s = c.in-Select.select.value in
    let p = c.args.place in
    let left = c.left_place-left.ensures ∙ ap (λ x. left_place p (shape x.operand)) c.deref-in-Select.ensures in
    behind c.args.start c.in_expr-in-Select.result c.named-in-None-in_expr.result _ (expr_used (left_place p (shape s.operand)) (shape s.operand)) (used s.name (BehindSpot (whole p) (left_place p (shape s.operand)) (shape s.operand)) ∷ [])
    (ap (λ e. expr_used p (shape e)) c.in-Select.is)
    (c.in_expr-in-Select.ensures ∙ (ap (λ x. first_used c.args.start (expr_used c.left_place-left.result (shape x.operand))) c.deref-in-Select-2.ensures ∙ ap (λ q. first_used c.args.start (expr_used q (shape s.operand))) left)) c.in-None-in_expr.is
    (c.named-in-None-in_expr.ensures ∙ ap (λ u. first_used c.args.start (u ∷ [])) (same_behind _ _ _ _ _ _ _ _ (ap (λ x. x.name) c.deref-in-None-in_expr-2.ensures) c.whole.ensures left (ap (λ x. shape x.operand) c.deref-in-None-in_expr.ensures)))

pub in_expr-returns-in_default-in_expr : goal.in_expr-returns-in_default-in_expr
in_expr-returns-in_default-in_expr t c =
    let s = c.in-Select.select.value in
    let p = c.args.place in
    let left = c.left_place-left.ensures ∙ ap (λ x. left_place p (shape x.operand)) c.deref-in-Select.ensures in
    front c.args.start c.in_expr-in-Select.result _ (expr_used (left_place p (shape s.operand)) (shape s.operand)) (used s.name (BehindSpot (whole p) (left_place p (shape s.operand)) (shape s.operand)) ∷ [])
    (ap (λ e. expr_used p (shape e)) c.in-Select.is)
    (c.in_expr-in-Select.ensures ∙ (ap (λ x. first_used c.args.start (expr_used c.left_place-left.result (shape x.operand))) c.deref-in-Select-2.ensures ∙ ap (λ q. first_used c.args.start (expr_used q (shape s.operand))) left)) c.in_default-in_expr.not-None

pub in_expr-returns-in-None-in_expr-2 : goal.in_expr-returns-in-None-in_expr-2
in_expr-returns-in-None-in_expr-2 t c =
    let o = out-CallExpr c.in-Call.call.value in
    behind c.args.start c.in_expr-in-Call.result c.in_args.result _ (expr_used stands.Callee (shape o.callee)) (args_used (items_of o.args.items)) (ap (expr_used c.args.place) (call_form c.args.expr.now c.in-Call.call c.in-Call.is))
    (c.in_expr-in-Call.ensures ∙ ap (λ x. first_used c.args.start (expr_used stands.Callee (shape (out-CallExpr x).callee))) c.deref-in-Call.ensures) c.in-None-in_expr-2.is
    (c.in_args.ensures ∙ ap (λ x. first_used c.args.start (args_used (items_of (out-CallExpr x).args.items))) c.deref-in-None-in_expr-2-2.ensures)

pub in_expr-returns-in_default-in_expr-2 : goal.in_expr-returns-in_default-in_expr-2
in_expr-returns-in_default-in_expr-2 t c =
    let o = out-CallExpr c.in-Call.call.value in
    front c.args.start c.in_expr-in-Call.result _ (expr_used stands.Callee (shape o.callee)) (args_used (items_of o.args.items)) (ap (expr_used c.args.place) (call_form c.args.expr.now c.in-Call.call c.in-Call.is))
    (c.in_expr-in-Call.ensures ∙ ap (λ x. first_used c.args.start (expr_used stands.Callee (shape (out-CallExpr x).callee))) c.deref-in-Call.ensures) c.in_default-in_expr-2.not-None

pub in_expr-returns-in-None-in_type_name : goal.in_expr-returns-in-None-in_type_name
in_expr-returns-in-None-in_type_name t c =
    let o = out-LiteralExpr c.in-Literal.literal.value in
    let d = c.deref-in-None-in_type_name.result.now in
    behind c.args.start c.in_type_name.result c.in_elements.result _ (type_name_used o.type_name) (elements_used (OfName o.type_name) (items_of o.elements.items) 0 (items_of o.elements.items)) (ap (expr_used c.args.place) (literal_form c.args.expr.now c.in-Literal.literal c.in-Literal.is))
    (c.in_type_name.ensures ∙ ap (λ x. first_used c.args.start (type_name_used (out-LiteralExpr x).type_name)) c.deref-in-Literal.ensures) c.in-None-in_type_name.is
    (c.in_elements.ensures
    ∙ (ap (λ x. first_used c.args.start (elements_used (OfName (out-LiteralExpr x).type_name) (items_of (out-LiteralExpr d).elements.items) 0 (items_of (out-LiteralExpr d).elements.items))) c.deref-in-Literal.ensures
    ∙ ap (λ x. first_used c.args.start (elements_used (OfName o.type_name) (items_of (out-LiteralExpr x).elements.items) 0 (items_of (out-LiteralExpr x).elements.items))) c.deref-in-None-in_type_name.ensures))

pub in_expr-returns-in_default-in_type_name : goal.in_expr-returns-in_default-in_type_name
in_expr-returns-in_default-in_type_name t c =
    let o = out-LiteralExpr c.in-Literal.literal.value in
    front c.args.start c.in_type_name.result _ (type_name_used o.type_name) (elements_used (OfName o.type_name) (items_of o.elements.items) 0 (items_of o.elements.items)) (ap (expr_used c.args.place) (literal_form c.args.expr.now c.in-Literal.literal c.in-Literal.is))
    (c.in_type_name.ensures ∙ ap (λ x. first_used c.args.start (type_name_used (out-LiteralExpr x).type_name)) c.deref-in-Literal.ensures) c.in_default-in_type_name.not-None

pub in_expr-returns-in-None-in_type : goal.in_expr-returns-in-None-in_type
in_expr-returns-in-None-in_type t c =
    let o = out-StructLiteralExpr c.in-StructLiteral.literal.value in
    let d = c.deref-in-None-in_type.result.now in
    behind c.args.start c.in_type.result c.in_elements-in-None-in_type.result _ (type_used (shape_type o.type_expr)) (elements_used (OfWritten (shape_type o.type_expr)) (items_of o.elements.items) 0 (items_of o.elements.items)) (ap (expr_used c.args.place) (struct_form c.args.expr.now c.in-StructLiteral.literal c.in-StructLiteral.is))
    (c.in_type.ensures ∙ ap (λ x. first_used c.args.start (type_used (shape_type (out-StructLiteralExpr x).type_expr))) c.deref-in-StructLiteral.ensures) c.in-None-in_type.is
    (c.in_elements-in-None-in_type.ensures
    ∙ (ap (λ x. first_used c.args.start (elements_used (OfWritten (shape_type (out-StructLiteralExpr x).type_expr)) (items_of (out-StructLiteralExpr d).elements.items) 0 (items_of (out-StructLiteralExpr d).elements.items))) c.deref-in-StructLiteral.ensures
    ∙ ap (λ x. first_used c.args.start (elements_used (OfWritten (shape_type o.type_expr)) (items_of (out-StructLiteralExpr x).elements.items) 0 (items_of (out-StructLiteralExpr x).elements.items))) c.deref-in-None-in_type.ensures))

pub in_expr-returns-in_default-in_type : goal.in_expr-returns-in_default-in_type
in_expr-returns-in_default-in_type t c =
    let o = out-StructLiteralExpr c.in-StructLiteral.literal.value in
    front c.args.start c.in_type.result _ (type_used (shape_type o.type_expr)) (elements_used (OfWritten (shape_type o.type_expr)) (items_of o.elements.items) 0 (items_of o.elements.items)) (ap (expr_used c.args.place) (struct_form c.args.expr.now c.in-StructLiteral.literal c.in-StructLiteral.is))
    (c.in_type.ensures ∙ ap (λ x. first_used c.args.start (type_used (shape_type (out-StructLiteralExpr x).type_expr))) c.deref-in-StructLiteral.ensures) c.in_default-in_type.not-None
