-- The forms of expressions, each by the parts that the program takes of it.
use Rattle.std.proofs.Common.{◌≡◌, ℕ, Bool, List, [], ◌∷◌, ◌++◌, length, sym, ap, ◌∙◌, set, append-nil}
use Rattle.std.specs.Global.{Box}
use Rattle.std.proofs.lemmas.List.{map-append}
use Rattle.go_tree_nodes.specs.declared.exprs.Expr.{Expr}
use Rattle.go_tree_nodes.specs.declared.exprs.Expr.TheVariants as expr
use Rattle.go_tree_nodes.specs.declared.exprs.CallExpr.{CallExpr, out-CallExpr}
use Rattle.go_tree_nodes.specs.declared.exprs.LiteralExpr.{LiteralExpr, out-LiteralExpr}
use Rattle.go_tree_nodes.specs.declared.exprs.StructLiteralExpr.{StructLiteralExpr, out-StructLiteralExpr}
use Rattle.go_denote_core.specs.text_core.declared.span.Span.{Span}
use Rattle.go_tree_nodes.specs.Trees.{ItemTrees}
use Rattle.go_tree_nodes.specs.TypeShapes.{shape_type}
use Rattle.go_tree_nodes.specs.Shapes.{shape, items_of}
use Rattle.go_tree_core.specs.declared.occurrence.Role.TheVariants as roles
use Rattle.go_denote_core.specs.declared.things.Stand.{Stand}
use Rattle.go_denote_core.specs.declared.things.Stand.TheVariants as stands
use Rattle.go_denote_core.specs.declared.things.Denoted as declared_denoted
use Rattle.go_denote_core.specs.declared.things.Answer.{Answer}
use Rattle.go_denote_core.specs.Arguments.{arguments_of, is_free}
use Rattle.go_denote_core.specs.Calls.{call_answer}
use Rattle.go_denote_core.specs.composite.Literals.{literal_denotes}
use Rattle.go_expr_core.specs.declared.things.Use.{Use}
use Rattle.go_expr_core.specs.Looks.{Looks, look_of_place}
use Rattle.go_tree_nodes.specs.Starts.{type_name_start, type_start}
use Rattle.go_expr_core.specs.Places.{is_lone_call, is_several}
use Rattle.go_expr_core.specs.Denoting.{named_type, written_type, denoted, denoted_items, answer_by, called_answer}
use Rattle.go_expr_core.specs.Elements.{keys_of, is_mixed}
use Rattle.go_expr_core.specs.TypeUses.{type_uses}
use Rattle.go_expr_core.specs.Uses.{made_use, use_of, uses, args_uses, type_name_spots, type_name_uses, type_spots, items_spots, elements_uses}
use Rattle.go_expr_core.specs.Faults.{faults, args_faults, literal_faults}
use Rattle.go_tree_nodes.proofs.ShapeLemmas.{call_form, literal_form, struct_form}
use Rattle.go_expr_core.proofs.Forms.{two, three}
use Rattle.go_expr_core.proofs.Turning.{placed, call_used}

-- calls

-- what is called and handed over, as the definition has it
called : {T S D P : Type 0} (looks : Looks T S D P) (c : Box CallExpr) (c1 c2 c3 : CallExpr) (f : declared_denoted.Denoted T S D)
    → c1 ≡ c.value → c2 ≡ c.value → c3 ≡ c.value → f ≡ denoted looks stands.Callee (shape (out-CallExpr c1).callee)
    → answer_by looks f (out-CallExpr c2).«open» (items_of (out-CallExpr c3).args.items)
    ≡ called_answer looks (shape (out-CallExpr c.value).callee) (out-CallExpr c.value).«open» (items_of (out-CallExpr c.value).args.items)
called looks c c1 c2 c3 f d1 d2 d3 ef =
    ap (λ x. answer_by looks x (out-CallExpr c2).«open» (items_of (out-CallExpr c3).args.items)) ef
    ∙ three (λ x y z. called_answer looks (shape (out-CallExpr x).callee) (out-CallExpr y).«open» (items_of (out-CallExpr z).args.items)) c1 c2 c3 c.value d1 d2 d3

module _ {T S D P : Type 0} (looks : Looks T S D P) (p : Stand) (e : Expr) (c : Box CallExpr) (is : e ≡ expr.Call c) (c1 c2 c3 : CallExpr) (d1 : c1 ≡ c.value) (d2 : c2 ≡ c.value) (d3 : c3 ≡ c.value) where
  module _ (f : declared_denoted.Denoted T S D) (ef : f ≡ denoted looks stands.Callee (shape (out-CallExpr c1).callee)) where
    pub call_denoted : (answer_by looks f (out-CallExpr c2).«open» (items_of (out-CallExpr c3).args.items)).denoted ≡ denoted looks p (shape e)
    call_denoted = ap (λ (a : Answer T S D P). a.denoted) (called looks c c1 c2 c3 f d1 d2 d3 ef) ∙ sym (ap (denoted looks p) (call_form e c is))

    pub call_has_uses : uses looks stands.Callee (shape (out-CallExpr c1).callee)
        ++ made_use (out-CallExpr c2).«open».start roles.Call (answer_by looks f (out-CallExpr c2).«open» (items_of (out-CallExpr c3).args.items)).outcome ∷ args_uses looks (items_of (out-CallExpr c3).args.items)
        ≡ uses looks p (shape e)
    call_has_uses =
        ap (λ (a : Answer T S D P). uses looks stands.Callee (shape (out-CallExpr c1).callee) ++ made_use (out-CallExpr c2).«open».start roles.Call a.outcome ∷ args_uses looks (items_of (out-CallExpr c3).args.items)) (called looks c c1 c2 c3 f d1 d2 d3 ef)
        ∙ (three (λ x y z. uses looks stands.Callee (shape (out-CallExpr x).callee) ++ made_use (out-CallExpr y).«open».start roles.Call (called_answer looks (shape (out-CallExpr c.value).callee) (out-CallExpr c.value).«open» (items_of (out-CallExpr c.value).args.items)).outcome ∷ args_uses looks (items_of (out-CallExpr z).args.items)) c1 c2 c3 c.value d1 d2 d3
        ∙ (sym (call_used looks p (shape (out-CallExpr c.value).callee) (out-CallExpr c.value).«open» (items_of (out-CallExpr c.value).args.items) (out-CallExpr c.value).close)
        ∙ sym (ap (uses looks p) (call_form e c is))))

  pub call_has_faults : faults looks stands.Callee (shape (out-CallExpr c1).callee) ++ args_faults looks (is_several (items_of (out-CallExpr c3).args.items)) (items_of (out-CallExpr c3).args.items) ≡ faults looks p (shape e)
  call_has_faults =
      two (λ x z. faults looks stands.Callee (shape (out-CallExpr x).callee) ++ args_faults looks (is_several (items_of (out-CallExpr z).args.items)) (items_of (out-CallExpr z).args.items)) c1 c3 c.value d1 d3
      ∙ sym (ap (faults looks p) (call_form e c is))

-- what a call has, by whether its only argument is a call and what its arguments denote
module _ {T S D P : Type 0} (looks : Looks T S D P) (f : declared_denoted.Denoted T S D) (first : Span) (items : ItemTrees) (lone : Bool) (ds : List (declared_denoted.Denoted T S D))
    (el : lone ≡ is_lone_call items) (ed : ds ≡ denoted_items looks items) where
  answered : call_answer (look_of_place looks first.start) f (is_free lone ds) (arguments_of (look_of_place looks first.start) ds) ≡ answer_by looks f first items
  answered =
      let o = look_of_place looks first.start in
      ap (λ x. call_answer o f (is_free x ds) (arguments_of o ds)) el ∙ ap (λ x. call_answer o f (is_free (is_lone_call items) x) (arguments_of o x)) ed

  pub answered_denoted : (call_answer (look_of_place looks first.start) f (is_free lone ds) (arguments_of (look_of_place looks first.start) ds)).denoted ≡ (answer_by looks f first items).denoted
  answered_denoted = ap (λ (a : Answer T S D P). a.denoted) answered

  pub call_noted : (u0 u1 u2 : List (Use D P)) (n : ℕ) (y : Use D P) → u1 ≡ u0 ++ y ∷ [] → u2 ≡ u1 ++ args_uses looks items → n ≡ length u0
      → set u2 n (made_use first.start roles.Call (call_answer (look_of_place looks first.start) f (is_free lone ds) (arguments_of (look_of_place looks first.start) ds)).outcome)
      ≡ u0 ++ made_use first.start roles.Call (answer_by looks f first items).outcome ∷ args_uses looks items
  call_noted u0 u1 u2 n y a1 a2 at_end =
      placed u0 u0 u1 u2 n y _ [] _ (sym (append-nil u0)) a1 a2 at_end
      ∙ ap (λ (a : Answer T S D P). u0 ++ made_use first.start roles.Call a.outcome ∷ args_uses looks items) answered

-- literals of named types

module _ {T S D P : Type 0} (looks : Looks T S D P) (p : Stand) (e : Expr) (l : Box LiteralExpr) (is : e ≡ expr.Literal l) (l1 l2 : LiteralExpr) (d1 : l1 ≡ l.value) (d2 : l2 ≡ l.value) where
  pub literal_denoted : literal_denotes {S = S} {D = D} (named_type looks (out-LiteralExpr l1).type_name) ≡ denoted looks p (shape e)
  literal_denoted = ap (λ x. literal_denotes {S = S} {D = D} (named_type looks (out-LiteralExpr x).type_name)) d1 ∙ sym (ap (denoted looks p) (literal_form e l is))

  pub literal_has_uses : type_name_uses looks (out-LiteralExpr l1).type_name ++ elements_uses looks (named_type looks (out-LiteralExpr l1).type_name) (items_of (out-LiteralExpr l2).elements.items) ≡ uses looks p (shape e)
  literal_has_uses =
      let n = (out-LiteralExpr l.value).type_name in
      let items = items_of (out-LiteralExpr l.value).elements.items in
      two (λ x y. type_name_uses looks (out-LiteralExpr x).type_name ++ elements_uses looks (named_type looks (out-LiteralExpr x).type_name) (items_of (out-LiteralExpr y).elements.items)) l1 l2 l.value d1 d2
      ∙ (sym (map-append (use_of looks) (type_name_spots looks n) (items_spots looks (named_type looks n) (is_mixed (keys_of items)) [] items))
      ∙ sym (ap (uses looks p) (literal_form e l is)))

  pub literal_has_faults : literal_faults looks (type_name_start (out-LiteralExpr l1).type_name) (named_type looks (out-LiteralExpr l1).type_name) (items_of (out-LiteralExpr l2).elements.items) ≡ faults looks p (shape e)
  literal_has_faults =
      two (λ x y. literal_faults looks (type_name_start (out-LiteralExpr x).type_name) (named_type looks (out-LiteralExpr x).type_name) (items_of (out-LiteralExpr y).elements.items)) l1 l2 l.value d1 d2
      ∙ sym (ap (faults looks p) (literal_form e l is))

-- literals of struct types that are written out: elements are taken first, then the type

module _ {T S D P : Type 0} (looks : Looks T S D P) (p : Stand) (e : Expr) (l : Box StructLiteralExpr) (is : e ≡ expr.StructLiteral l) (l1 l2 : StructLiteralExpr) (d1 : l1 ≡ l.value) (d2 : l2 ≡ l.value) where
  pub struct_denoted : literal_denotes {S = S} {D = D} (written_type looks (shape_type (out-StructLiteralExpr l2).type_expr)) ≡ denoted looks p (shape e)
  struct_denoted = ap (λ x. literal_denotes {S = S} {D = D} (written_type looks (shape_type (out-StructLiteralExpr x).type_expr))) d2 ∙ sym (ap (denoted looks p) (struct_form e l is))

  pub struct_has_uses : type_uses looks (shape_type (out-StructLiteralExpr l2).type_expr) ++ elements_uses looks (written_type looks (shape_type (out-StructLiteralExpr l2).type_expr)) (items_of (out-StructLiteralExpr l1).elements.items) ≡ uses looks p (shape e)
  struct_has_uses =
      let n = shape_type (out-StructLiteralExpr l.value).type_expr in
      let items = items_of (out-StructLiteralExpr l.value).elements.items in
      two (λ y x. type_uses looks (shape_type (out-StructLiteralExpr x).type_expr) ++ elements_uses looks (written_type looks (shape_type (out-StructLiteralExpr x).type_expr)) (items_of (out-StructLiteralExpr y).elements.items)) l1 l2 l.value d1 d2
      ∙ (sym (map-append (use_of looks) (type_spots looks n) (items_spots looks (written_type looks n) (is_mixed (keys_of items)) [] items))
      ∙ sym (ap (uses looks p) (struct_form e l is)))

  pub struct_has_faults : looks.written.faults_of (named_type looks) (shape_type (out-StructLiteralExpr l2).type_expr)
      ++ literal_faults looks (type_start (shape_type (out-StructLiteralExpr l2).type_expr)) (written_type looks (shape_type (out-StructLiteralExpr l2).type_expr)) (items_of (out-StructLiteralExpr l1).elements.items) ≡ faults looks p (shape e)
  struct_has_faults =
      two (λ y x. looks.written.faults_of (named_type looks) (shape_type (out-StructLiteralExpr x).type_expr) ++ literal_faults looks (type_start (shape_type (out-StructLiteralExpr x).type_expr)) (written_type looks (shape_type (out-StructLiteralExpr x).type_expr)) (items_of (out-StructLiteralExpr y).elements.items)) l1 l2 l.value d1 d2
      ∙ sym (ap (faults looks p) (struct_form e l is))
