-- The forms of trees that the program takes apart.
use Rattle.std.proofs.Common.{◌≡◌, Bool, true, false, ◌&&◌, ℕ, sym, ap, ◌∙◌}
use Rattle.std.specs.Prelude.{if◌then◌else◌}
use Rattle.std.specs.Global.{Box}
use Rattle.go_tree_nodes.specs.declared.exprs.Expr.{Expr}
use Rattle.go_tree_nodes.specs.declared.exprs.Expr.TheVariants as expr
use Rattle.go_tree_nodes.specs.declared.exprs.CallExpr.{CallExpr, out-CallExpr}
use Rattle.go_tree_nodes.specs.declared.stmts.Loop.{Loop, out-Loop}
use Rattle.go_tree_nodes.specs.Trees.{Call}
use Rattle.go_tree_nodes.specs.declared.types.Params.{out-Params}
use Rattle.go_tree_nodes.specs.declared.types.Signature.{Signature, out-Signature}
use Rattle.go_tree_nodes.specs.TypeShapes.{params_of, shape_results, shape_signature}
use Rattle.go_tree_nodes.proofs.TypeShapes.{signature_parts}
use Rattle.go_tree_nodes.specs.Shapes.{shape, items_of, shape_for, shape_loop, lines_of}
use Rattle.go_code_core.specs.declared.fragments.names.Gives.{Gives}
use Rattle.go_code_core.specs.declared.fragments.names.Gives.TheVariants as gives
use Rattle.go_code_core.specs.declared.fragments.names.Meaning.{Meaning}
use Rattle.go_code_core.specs.fragments.Fragment.{all_ones, call_gives, expr_gives, receiver_fits}
use Rattle.go_code_core.specs.fragments.Inside.{head_inside, lines_inside, params_inside, results_inside, signature_inside, stmt_inside}
use Rattle.go_code_core.specs.fragments.Names.{Frame, CodeLooks, callee_meaning}
use Rattle.go_tree_nodes.proofs.ShapeLemmas.{call_form, loop_parts}
use Rattle.go_tree_nodes.specs.Counts.{item_count}

-- what calls give

taken : (b : Bool) (x y : Gives) → b ≡ true → x ≡ (if b then x else y)
taken b x y h = ap (λ c. if c then x else y) (sym h)

passed : (b : Bool) (x y : Gives) → b ≡ false → y ≡ (if b then x else y)
passed b x y h = ap (λ c. if c then x else y) (sym h)

pub call_given : (f : Frame) (e : Expr) (c : Box CallExpr) → e ≡ expr.Call c → (p q r s : CallExpr) → p ≡ c.value → q ≡ c.value → r ≡ c.value → s ≡ c.value
    → (fits ones : Bool) → fits ≡ receiver_fits f (shape (out-CallExpr p).callee) → fits ≡ true → ones ≡ all_ones f (items_of (out-CallExpr q).args.items) → ones ≡ true
    → (m : Meaning) (n : ℕ) (g : Gives) → m ≡ callee_meaning f.looks (shape (out-CallExpr r).callee) → n ≡ item_count (items_of (out-CallExpr s).args.items) → g ≡ call_gives m n → g ≡ expr_gives f (shape e)
call_given f e c is p q r s ip iq ir is' fits ones h h' k k' m n g at many e' =
    let callee = shape (out-CallExpr c.value).callee in
    let items = items_of (out-CallExpr c.value).args.items in
    let left : receiver_fits f callee ≡ true = sym (ap (λ x. receiver_fits f (shape (out-CallExpr x).callee)) ip) ∙ (sym h ∙ h') in
    let right : all_ones f items ≡ true = sym (ap (λ x. all_ones f (items_of (out-CallExpr x).args.items)) iq) ∙ (sym k ∙ k') in
    let both : (receiver_fits f callee && all_ones f items) ≡ true = ap (λ b. b && all_ones f items) left ∙ right in
    let what : m ≡ callee_meaning f.looks callee = at ∙ ap (λ x. callee_meaning f.looks (shape (out-CallExpr x).callee)) ir in
    let count : n ≡ item_count items = many ∙ ap (λ x. item_count (items_of (out-CallExpr x).args.items)) is' in
    e' ∙ (ap (λ x. call_gives x n) what ∙ (ap (λ x. call_gives (callee_meaning f.looks callee) x) count
    ∙ (taken (receiver_fits f callee && all_ones f items) (call_gives (callee_meaning f.looks callee) (item_count items)) gives.Other both ∙ sym (ap (expr_gives f) (call_form e c is)))))

neither : (a b : Bool) → a ≡ false → (a && b) ≡ false
neither a b h = ap (λ x. x && b) h

second : (a b : Bool) → a ≡ true → b ≡ false → (a && b) ≡ false
second a b h k = ap (λ x. x && b) h ∙ k

not_given : (f : Frame) (e : Expr) (c : Box CallExpr) → e ≡ expr.Call c
    → (receiver_fits f (shape (out-CallExpr c.value).callee) && all_ones f (items_of (out-CallExpr c.value).args.items)) ≡ false → gives.Other ≡ expr_gives f (shape e)
not_given f e c is h =
    let callee = shape (out-CallExpr c.value).callee in
    let items = items_of (out-CallExpr c.value).args.items in
    passed (receiver_fits f callee && all_ones f items) (call_gives (callee_meaning f.looks callee) (item_count items)) gives.Other h ∙ sym (ap (expr_gives f) (call_form e c is))

pub receiver_unfit : (f : Frame) (e : Expr) (c : Box CallExpr) → e ≡ expr.Call c → (p : CallExpr) → p ≡ c.value → (fits : Bool) → fits ≡ receiver_fits f (shape (out-CallExpr p).callee) → fits ≡ false → gives.Other ≡ expr_gives f (shape e)
receiver_unfit f e c is p ip fits h h' =
    not_given f e c is (neither _ _ (sym (ap (λ x. receiver_fits f (shape (out-CallExpr x).callee)) ip) ∙ (sym h ∙ h')))

pub argument_unfit : (f : Frame) (e : Expr) (c : Box CallExpr) → e ≡ expr.Call c → (p q : CallExpr) → p ≡ c.value → q ≡ c.value
    → (fits ones : Bool) → fits ≡ receiver_fits f (shape (out-CallExpr p).callee) → fits ≡ true → ones ≡ all_ones f (items_of (out-CallExpr q).args.items) → ones ≡ false → gives.Other ≡ expr_gives f (shape e)
argument_unfit f e c is p q ip iq fits ones h h' k k' =
    not_given f e c is
    (second _ _ (sym (ap (λ x. receiver_fits f (shape (out-CallExpr x).callee)) ip) ∙ (sym h ∙ h')) (sym (ap (λ x. all_ones f (items_of (out-CallExpr x).args.items)) iq) ∙ (sym k ∙ k')))

-- loops of which code is made

pub loop_with : (f : Frame) (turns : Loop) (head body : Bool) → head ≡ head_inside f (shape_for (out-Loop turns).head) → head ≡ true → body ≡ lines_inside f (lines_of (out-Loop turns).body.items) → body ≡ stmt_inside f (shape_loop turns)
loop_with f turns head body h h' k =
    let rest = lines_inside f (lines_of (out-Loop turns).body.items) in
    k ∙ (ap (λ b. b && rest) (sym (sym h ∙ h')) ∙ sym (ap (stmt_inside f) (loop_parts turns)))

pub loop_without : (f : Frame) (turns : Loop) (head : Bool) → head ≡ head_inside f (shape_for (out-Loop turns).head) → head ≡ false → false ≡ stmt_inside f (shape_loop turns)
loop_without f turns head h h' =
    let rest = lines_inside f (lines_of (out-Loop turns).body.items) in
    ap (λ b. b && rest) (sym (sym h ∙ h')) ∙ sym (ap (stmt_inside f) (loop_parts turns))

-- signatures of which code is made

pub signature_with : (looks : CodeLooks) (s : Signature) (params results : Bool) → params ≡ params_inside looks (params_of (out-Params (out-Signature s).params).entries.items) → params ≡ true
    → results ≡ results_inside looks (shape_results (out-Signature s).results) → results ≡ signature_inside looks (shape_signature s)
signature_with looks s params results h h' k =
    k ∙ (ap (λ b. b && results_inside looks (shape_results (out-Signature s).results)) (sym (sym h ∙ h')) ∙ sym (ap (signature_inside looks) (signature_parts s)))

pub signature_without : (looks : CodeLooks) (s : Signature) (params : Bool) → params ≡ params_inside looks (params_of (out-Params (out-Signature s).params).entries.items) → params ≡ false → false ≡ signature_inside looks (shape_signature s)
signature_without looks s params h h' =
    ap (λ b. b && results_inside looks (shape_results (out-Signature s).results)) (sym (sym h ∙ h')) ∙ sym (ap (signature_inside looks) (signature_parts s))
