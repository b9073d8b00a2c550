-- What the pieces that the program keeps in lists declare.
use Rattle.std.proofs.Common.{◌≡◌, ℕ, ◌+◌, List, [], ◌∷◌, ◌++◌, length, map, refl, ap, sym, ◌∙◌, append-nil, append_assoc, arith}
use Rattle.std.specs.Global.{Box}
use Rattle.std.specs.List.{flat_map}
use Rattle.std.specs.Prelude.{Option}
use Rattle.std.proofs.lemmas.List.{length-append}
use Rattle.go_path_core.specs.text_core.declared.span.Span.{Span}
use Rattle.go_tree_nodes.specs.declared.names.Ident.{Ident}
use Rattle.go_tree_nodes.specs.declared.names.NextIdent.{NextIdent}
use Rattle.go_tree_nodes.specs.declared.types.Signature.{Signature, out-Signature}
use Rattle.go_tree_nodes.specs.declared.types.Results as declared_results
use Rattle.go_tree_nodes.specs.declared.types.Results.TheVariants as results
use Rattle.go_tree_nodes.specs.declared.types.Params.{Params, out-Params}
use Rattle.go_tree_nodes.specs.declared.types.FieldLine.{FieldLine}
use Rattle.go_tree_nodes.specs.declared.types.MethodLine.{MethodLine, MethodLine', out-MethodLine, is-MethodLine'}
use Rattle.go_tree_nodes.specs.declared.types.Fields.TheVariants as fields
use Rattle.go_tree_nodes.specs.declared.types.Fields.{Fields}
use Rattle.go_tree_nodes.specs.declared.types.«Param» as declared_param
use Rattle.go_tree_nodes.specs.declared.exprs.Expr.{Expr}
use Rattle.go_tree_nodes.specs.declared.exprs.Expr.TheVariants as expr
use Rattle.go_tree_nodes.specs.declared.exprs.CallExpr.{CallExpr, out-CallExpr}
use Rattle.go_tree_nodes.specs.declared.exprs.LiteralExpr.{LiteralExpr, out-LiteralExpr}
use Rattle.go_tree_nodes.specs.declared.exprs.StructLiteralExpr.{StructLiteralExpr, out-StructLiteralExpr}
use Rattle.go_tree_nodes.specs.declared.exprs.«Item» as declared_item
use Rattle.go_tree_nodes.specs.declared.exprs.NextExpr.{NextExpr}
use Rattle.go_tree_nodes.specs.declared.decls.ValueKind.{ValueKind}
use Rattle.go_tree_nodes.specs.Trees.{FieldTrees, ValueSpecTree}
use Rattle.go_tree_nodes.specs.TypeShapes.{idents_from, shape_idents, shape_names, shape_type, shape_signature, shape_results, fields_before, fields_of, methods_of, params_of}
use Rattle.go_tree_nodes.specs.Shapes.{shape, items_of, exprs_from}
use Rattle.go_tree_nodes.proofs.TypeShapes.{listed_parts, signature_parts}
use Rattle.go_tree_nodes.proofs.ShapeLemmas.{call_parts, literal_parts, struct_literal_parts}
use Rattle.go_decl_core.specs.declared.places.DeclKind.{DeclKind}
use Rattle.go_decl_core.specs.declared.places.DeclKind.TheVariants as kinds
use Rattle.go_decl_core.specs.Outer.{Outer, Manner, Part, outer, idents_outers, names_outers, type_outers, fields_outers, methods_outers, signature_outers, result_outers, params_outers, expr_outers, items_outers, exprs_outers}
use Rattle.go_decl_core.specs.TopDecls.{TopDeclTree, ValueForm, top_decl, numbered, named_decls}
use Rattle.go_decl_core.specs.mirrors.Outers.{field_outers}

abbrev pub next_outers : DeclKind → Manner → NextIdent → List Outer
next_outers k m n = outer k m n.ident ∷ []

abbrev pub field_line_outers : FieldLine → List Outer
field_line_outers l = field_outers l.fields

abbrev pub method_outers : MethodLine → List Outer
method_outers (MethodLine' x signature s) = outer kinds.Method Part x ∷ signature_outers (shape_signature signature)

abbrev pub param_outers : declared_param.Param → List Outer
param_outers p = names_outers (shape_names p.names) ++ type_outers (shape_type p.type_expr)

abbrev pub item_outers : declared_item.Item → List Outer
item_outers i = expr_outers (shape i.value)

abbrev pub next_expr_outers : NextExpr → List Outer
next_expr_outers n = expr_outers (shape n.expr)

pub idents_list : (k : DeclKind) (m : Manner) (x : Ident) (ns : List NextIdent) → idents_outers k m (idents_from x ns) ≡ outer k m x ∷ [] ++ flat_map (next_outers k m) ns
idents_list k m x [] = refl
idents_list k m x (n ∷ ns) = ap (λ os. outer k m x ∷ os) (idents_list k m n.ident ns)

pub method_has : (m : MethodLine) → method_outers m ≡ outer kinds.Method Part (out-MethodLine m).name ∷ signature_outers (shape_signature (out-MethodLine m).signature)
method_has m = ap method_outers (is-MethodLine' m)

before_outers : (f : Fields) (tag : _) (s : Option Span) (rest : FieldTrees) → fields_outers (fields_before f tag s rest) ≡ field_outers f ++ fields_outers rest
before_outers (fields.Named xs t) tag s rest = sym (append_assoc (idents_outers kinds.Field Part (shape_idents xs)) (type_outers (shape_type t)) (fields_outers rest))
before_outers (fields.Embedded star n) tag s rest = refl

pub fields_list : (ls : List FieldLine) → fields_outers (fields_of ls) ≡ flat_map field_line_outers ls
fields_list [] = refl
fields_list (l ∷ ls) = before_outers l.fields l.tag l.semicolon (fields_of ls) ∙ ap (λ os. field_line_outers l ++ os) (fields_list ls)

pub methods_list : (ms : List MethodLine) → methods_outers (methods_of ms) ≡ flat_map method_outers ms
methods_list [] = refl
methods_list (MethodLine' x signature s ∷ ms) = ap (λ os. outer kinds.Method Part x ∷ (signature_outers (shape_signature signature) ++ os)) (methods_list ms)

pub params_list : (ps : List declared_param.Param) → params_outers (params_of ps) ≡ flat_map param_outers ps
params_list [] = refl
params_list (p ∷ ps) =
    ap (λ os. names_outers (shape_names p.names) ++ (type_outers (shape_type p.type_expr) ++ os)) (params_list ps)
    ∙ sym (append_assoc (names_outers (shape_names p.names)) (type_outers (shape_type p.type_expr)) (flat_map param_outers ps))

pub items_list : (is : List declared_item.Item) → items_outers (items_of is) ≡ flat_map item_outers is
items_list [] = refl
items_list (i ∷ is) = ap (λ os. item_outers i ++ os) (items_list is)

pub exprs_list : (e : Expr) (ns : List NextExpr) → exprs_outers (exprs_from e ns) ≡ expr_outers (shape e) ++ flat_map next_expr_outers ns
exprs_list e [] = simp append-nil
exprs_list e (n ∷ ns) = ap (λ os. expr_outers (shape e) ++ os) (exprs_list n.expr ns)

-- what values that hold lists declare

pub signature_has : (s : Signature) → signature_outers (shape_signature s) ≡ params_outers (params_of (out-Params (out-Signature s).params).entries.items) ++ result_outers (shape_results (out-Signature s).results)
signature_has s = ap signature_outers (signature_parts s)

pub listed_has : (r : declared_results.Results) (p : Params) → r ≡ results.Listed p → result_outers (shape_results r) ≡ params_outers (params_of (out-Params p).entries.items)
listed_has r p is = ap (λ r. result_outers (shape_results r)) is ∙ ap result_outers (listed_parts p)

pub call_has : (t : Expr) (c : Box CallExpr) → t ≡ expr.Call c → expr_outers (shape t) ≡ expr_outers (shape (out-CallExpr c.value).callee) ++ items_outers (items_of (out-CallExpr c.value).args.items)
call_has t c same = ap (λ t. expr_outers (shape t)) same ∙ ap expr_outers (call_parts c.value)

pub literal_has : (t : Expr) (l : Box LiteralExpr) → t ≡ expr.Literal l → expr_outers (shape t) ≡ items_outers (items_of (out-LiteralExpr l.value).elements.items)
literal_has t l same = ap (λ t. expr_outers (shape t)) same ∙ ap expr_outers (literal_parts l.value)

pub struct_literal_has : (t : Expr) (l : Box StructLiteralExpr) → t ≡ expr.StructLiteral l → expr_outers (shape t) ≡ type_outers (shape_type (out-StructLiteralExpr l.value).type_expr) ++ items_outers (items_of (out-StructLiteralExpr l.value).elements.items)
struct_literal_has t l same = ap (λ t. expr_outers (shape t)) same ∙ ap expr_outers (struct_literal_parts l.value)

-- names and numbers, one more each

pub idents_push : (k : DeclKind) (m : Manner) (x : Ident) (ns : List NextIdent) (y : NextIdent) → idents_outers k m (idents_from x (ns ++ y ∷ [])) ≡ idents_outers k m (idents_from x ns) ++ outer k m y.ident ∷ []
idents_push k m x [] y = refl
idents_push k m x (n ∷ ns) y = ap (λ os. outer k m x ∷ os) (idents_push k m n.ident ns y)

pub idents_count : (k : DeclKind) (m : Manner) (x : Ident) (ns : List NextIdent) → length (idents_outers k m (idents_from x ns)) ≡ length ns + 1
idents_count k m x [] = refl
idents_count k m x (n ∷ ns) = let rest = idents_count k m n.ident ns in omega (arith, rest)

pub named_push : (k : ValueKind) (v : ValueSpecTree) (n i : ℕ) (x : Ident) (ns : List NextIdent) (y : NextIdent) (j : ℕ) → j ≡ i + (length ns + 1) → named_decls k v n i (idents_from x (ns ++ y ∷ [])) ≡ named_decls k v n i (idents_from x ns) ++ top_decl y.ident (n + j) (ValueForm k v j) ∷ []
named_push k v n i x [] y j at = ap (λ j. top_decl x (n + i) (ValueForm k v i) ∷ (top_decl y.ident (n + j) (ValueForm k v j) ∷ [])) (let e : i + 1 ≡ j = omega (arith, at) in e)
named_push k v n i x (z ∷ ns) y j at = ap (λ ds. top_decl x (n + i) (ValueForm k v i) ∷ ds) (named_push k v n (i + 1) z.ident ns y j (let e : j ≡ i + 1 + (length ns + 1) = omega (arith, at) in e))

module _ {A : Type 0} (names : A → List Outer) (decls : ℕ → A → List TopDeclTree) where
  pub numbered_push : (n : ℕ) (xs : List A) (x : A) → numbered names decls n (xs ++ x ∷ []) ≡ numbered names decls n xs ++ decls (n + length (flat_map names xs)) x
  numbered_push n [] x = append-nil (decls n x) ∙ ap (λ k. decls k x) (let e : n ≡ n + 0 = omega arith in e)
  numbered_push n (y ∷ ys) x =
      ap (λ ds. decls n y ++ ds) (numbered_push (n + length (names y)) ys x)
      ∙ (sym (append_assoc (decls n y) (numbered names decls (n + length (names y)) ys) (decls (n + length (names y) + length (flat_map names ys)) x))
      ∙ ap (λ k. (decls n y ++ numbered names decls (n + length (names y)) ys) ++ decls k x) (let e : n + length (names y) + length (flat_map names ys) ≡ n + length (names y ++ flat_map names ys) = omega (arith, length-append (names y) (flat_map names ys)) in e))

  pub numbered_map : {B : Type 0} (g : B → A) (n : ℕ) (ys : List B) → numbered names decls n (map g ys) ≡ numbered (λ y. names (g y)) (λ n y. decls n (g y)) n ys
  numbered_map g n [] = refl
  numbered_map g n (y ∷ ys) = ap (λ ds. decls n (g y) ++ ds) (numbered_map g (n + length (names (g y))) ys)
