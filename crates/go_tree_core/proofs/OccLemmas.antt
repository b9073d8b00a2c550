-- The occurrences of what a program keeps in lists.
use Rattle.std.proofs.Common.{◌≡◌, Vec, List, [], ◌∷◌, ◌++◌, map, refl, ap, sym, ◌∙◌, append-nil, append_assoc}
use Rattle.std.specs.Global.{Global, Box}
use Rattle.std.specs.List.{flat_map}
use Rattle.std.specs.Prelude.{Option}
use Rattle.go_tree_nodes.specs.text_core.declared.span.Span.{Span}
use Rattle.go_tree_nodes.specs.declared.types.Signature.{Signature, out-Signature}
use Rattle.go_tree_nodes.specs.declared.types.Results as declared_results
use Rattle.go_tree_nodes.specs.declared.types.Results.TheVariants as results
use Rattle.go_tree_nodes.specs.declared.types.Params.{Params, out-Params}
use Rattle.go_tree_nodes.specs.declared.types.FieldLine.{FieldLine}
use Rattle.go_tree_nodes.specs.declared.types.MethodLine.{MethodLine, MethodLine', out-MethodLine, is-MethodLine'}
use Rattle.go_tree_nodes.specs.declared.types.Fields.TheVariants as fields
use Rattle.go_tree_nodes.specs.declared.types.Fields.{Fields}
use Rattle.go_tree_nodes.specs.declared.types.«Param» as declared_param
use Rattle.go_tree_nodes.specs.declared.exprs.Expr.{Expr}
use Rattle.go_tree_nodes.specs.declared.exprs.Expr.TheVariants as expr
use Rattle.go_tree_nodes.specs.declared.exprs.CallExpr.{CallExpr, out-CallExpr}
use Rattle.go_tree_nodes.specs.declared.exprs.LiteralExpr.{LiteralExpr, out-LiteralExpr}
use Rattle.go_tree_nodes.specs.declared.exprs.StructLiteralExpr.{StructLiteralExpr, out-StructLiteralExpr}
use Rattle.go_tree_nodes.specs.declared.exprs.«Item» as declared_item
use Rattle.go_tree_nodes.specs.declared.exprs.NextExpr.{NextExpr}
use Rattle.go_tree_nodes.specs.declared.stmts.Loop.{Loop, out-Loop}
use Rattle.go_tree_nodes.specs.declared.stmts.Stmt.{Stmt}
use Rattle.go_tree_nodes.specs.declared.stmts.Stmt.TheVariants as stmt
use Rattle.go_tree_nodes.specs.declared.stmts.«Branch» as declared_branch
use Rattle.go_tree_nodes.specs.declared.stmts.Otherwise.{Otherwise}
use Rattle.go_tree_nodes.specs.declared.stmts.Otherwise.TheVariants as otherwise
use Rattle.go_tree_nodes.specs.declared.stmts.«Line» as declared_line
use Rattle.go_tree_nodes.specs.declared.files.TopDecl.{TopDecl}
use Rattle.go_tree_nodes.specs.declared.files.ImportDecl.{ImportDecl}
use Rattle.go_tree_core.specs.declared.occurrence.Context.{Context}
use Rattle.go_tree_core.specs.declared.occurrence.Context.TheVariants as context
use Rattle.go_tree_core.specs.declared.occurrence.Occ.{Occ}
use Rattle.go_tree_nodes.specs.Trees.{FieldTrees}
use Rattle.go_tree_nodes.specs.TypeShapes.{shape_type, shape_signature, shape_results, fields_before, fields_of, methods_of, params_of}
use Rattle.go_tree_nodes.specs.Shapes.{shape_key, shape, items_of, exprs_from, shape_if, shape_for, shape_stmt, shape_branch, shape_else, lines_of, decl_of, top_of, import_of, shape_import_specs}
use Rattle.go_tree_core.specs.Occurrences.{type_name_occs, type_occs, field_occs, fields_occs, signature_occs, result_occs, methods_occs, call_at, params_occs, key_occs, expr_occs, items_occs, exprs_occs, group_occs, specs_occs, import_occs, imports_occs, if_occs, for_occs, stmt_occs, branch_occs, else_occs, lines_occs, decl_occs, tops_occs}
use Rattle.go_tree_nodes.proofs.TypeShapes.{listed_parts, signature_parts}
use Rattle.go_tree_nodes.proofs.ShapeLemmas.{call_parts, literal_parts, struct_literal_parts, shape_block, loop_parts, shape_else_block, branch_parts}

abbrev pub field_line_occs : FieldLine → List Occ
field_line_occs l = field_occs l.fields

abbrev pub method_occs : MethodLine → List Occ
method_occs (MethodLine' x signature s) = signature_occs (shape_signature signature)

abbrev pub param_occs : declared_param.Param → List Occ
param_occs p = type_occs (shape_type p.type_expr)

abbrev pub item_occs : declared_item.Item → List Occ
item_occs i = key_occs (shape_key i.key) ++ expr_occs context.«Value» (shape i.value)

abbrev pub next_occs : Context → NextExpr → List Occ
next_occs p n = expr_occs p (shape n.expr)

abbrev pub line_occs : declared_line.Line → List Occ
line_occs l = stmt_occs (shape_stmt l.stmt)

abbrev pub top_occs : TopDecl → List Occ
top_occs d = decl_occs (decl_of d.decl)

abbrev pub import_decl_occs : ImportDecl → List Occ
import_decl_occs i = specs_occs import_occs (shape_import_specs i.specs)

pub method_has : (m : MethodLine) → method_occs m ≡ signature_occs (shape_signature (out-MethodLine m).signature)
method_has m = ap method_occs (is-MethodLine' m)

before_occs : (f : Fields) (tag : _) (s : Option Span) (rest : FieldTrees) → fields_occs (fields_before f tag s rest) ≡ field_occs f ++ fields_occs rest
before_occs (fields.Named xs t) tag s rest = refl
before_occs (fields.Embedded star n) tag s rest = refl

pub fields_occs_list : (ls : List FieldLine) → fields_occs (fields_of ls) ≡ flat_map field_line_occs ls
fields_occs_list [] = refl
fields_occs_list (l ∷ ls) = before_occs l.fields l.tag l.semicolon (fields_of ls) ∙ ap (λ os. field_line_occs l ++ os) (fields_occs_list ls)

pub methods_occs_list : (ms : List MethodLine) → methods_occs (methods_of ms) ≡ flat_map method_occs ms
methods_occs_list [] = refl
methods_occs_list (MethodLine' x signature s ∷ ms) = ap (λ os. signature_occs (shape_signature signature) ++ os) (methods_occs_list ms)

pub params_occs_list : (ps : List declared_param.Param) → params_occs (params_of ps) ≡ flat_map param_occs ps
params_occs_list [] = refl
params_occs_list (p ∷ ps) = ap (λ os. param_occs p ++ os) (params_occs_list ps)

pub items_occs_list : (is : List declared_item.Item) → items_occs (items_of is) ≡ flat_map item_occs is
items_occs_list [] = refl
items_occs_list (i ∷ is) = ap (λ os. key_occs (shape_key i.key) ++ (expr_occs context.«Value» (shape i.value) ++ os)) (items_occs_list is) ∙ sym (append_assoc (key_occs (shape_key i.key)) (expr_occs context.«Value» (shape i.value)) (flat_map item_occs is))

pub exprs_occs_list : (p : Context) (e : Expr) (ns : List NextExpr) → exprs_occs p (exprs_from e ns) ≡ expr_occs p (shape e) ++ flat_map (next_occs p) ns
exprs_occs_list p e [] = simp append-nil
exprs_occs_list p e (n ∷ ns) = ap (λ l. expr_occs p (shape e) ++ l) (exprs_occs_list p n.expr ns)

-- the specifications of a group, as what their lines hold
pub group_occs_list : {A B : Type 0} (f : A → List Occ) (g : B → A × Option Span) (ls : List B) → group_occs f (map g ls) ≡ flat_map (λ l. f (g l).0) ls
group_occs_list f g [] = refl
group_occs_list f g (l ∷ ls) = ap (λ os. f (g l).0 ++ os) (group_occs_list f g ls)

pub lines_occs_list : (ls : List declared_line.Line) → lines_occs (lines_of ls) ≡ flat_map line_occs ls
lines_occs_list [] = refl
lines_occs_list (l ∷ ls) = ap (λ os. line_occs l ++ os) (lines_occs_list ls)

pub tops_occs_list : (ds : List TopDecl) → tops_occs (map top_of ds) ≡ flat_map top_occs ds
tops_occs_list [] = refl
tops_occs_list (d ∷ ds) = ap (λ os. top_occs d ++ os) (tops_occs_list ds)

pub imports_occs_list : (is : List ImportDecl) → imports_occs (map import_of is) ≡ flat_map import_decl_occs is
imports_occs_list [] = refl
imports_occs_list (i ∷ is) = ap (λ os. import_decl_occs i ++ os) (imports_occs_list is)

-- what values that hold lists hold

pub signature_has : (s : Signature) → signature_occs (shape_signature s) ≡ params_occs (params_of (out-Params (out-Signature s).params).entries.items) ++ result_occs (shape_results (out-Signature s).results)
signature_has s = ap signature_occs (signature_parts s)

pub listed_has : (r : declared_results.Results) (p : Params) → r ≡ results.Listed p → result_occs (shape_results r) ≡ params_occs (params_of (out-Params p).entries.items)
listed_has r p is = ap (λ r. result_occs (shape_results r)) is ∙ ap result_occs (listed_parts p)

pub call_has : (p : Context) (t : Expr) (c : Box CallExpr) → t ≡ expr.Call c → expr_occs p (shape t) ≡ expr_occs context.Callee (shape (out-CallExpr c.value).callee) ++ (call_at (out-CallExpr c.value).«open» ∷ items_occs (items_of (out-CallExpr c.value).args.items))
call_has p t c same = ap (λ t. expr_occs p (shape t)) same ∙ ap (expr_occs p) (call_parts c.value)

pub literal_has : (p : Context) (t : Expr) (l : Box LiteralExpr) → t ≡ expr.Literal l → expr_occs p (shape t) ≡ type_name_occs (out-LiteralExpr l.value).type_name ++ items_occs (items_of (out-LiteralExpr l.value).elements.items)
literal_has p t l same = ap (λ t. expr_occs p (shape t)) same ∙ ap (expr_occs p) (literal_parts l.value)

pub struct_literal_has : (p : Context) (t : Expr) (l : Box StructLiteralExpr) → t ≡ expr.StructLiteral l → expr_occs p (shape t) ≡ type_occs (shape_type (out-StructLiteralExpr l.value).type_expr) ++ items_occs (items_of (out-StructLiteralExpr l.value).elements.items)
struct_literal_has p t l same = ap (λ t. expr_occs p (shape t)) same ∙ ap (expr_occs p) (struct_literal_parts l.value)

pub block_has : (s : Stmt) (first : Span) (ls : Vec declared_line.Line Global) (last : Span) → s ≡ stmt.Block first ls last → stmt_occs (shape_stmt s) ≡ lines_occs (lines_of ls.items)
block_has s first ls last same = ap (λ s. stmt_occs (shape_stmt s)) same ∙ ap stmt_occs (shape_block first ls last)

pub loop_has : (s : Stmt) (l : Box Loop) → s ≡ stmt.For l → stmt_occs (shape_stmt s) ≡ for_occs (shape_for (out-Loop l.value).head) ++ lines_occs (lines_of (out-Loop l.value).body.items)
loop_has s l same = ap (λ s. stmt_occs (shape_stmt s)) same ∙ ap stmt_occs (loop_parts l.value)

pub else_has : (o : Otherwise) (k first : Span) (ls : Vec declared_line.Line Global) (last : Span) → o ≡ otherwise.Block k first ls last → else_occs (shape_else o) ≡ lines_occs (lines_of ls.items)
else_has o k first ls last same = ap (λ o. else_occs (shape_else o)) same ∙ ap else_occs (shape_else_block k first ls last)

pub branch_has : (b : declared_branch.Branch) → branch_occs (shape_branch b) ≡ if_occs (shape_if (declared_branch.out-Branch b).head) ++ (lines_occs (lines_of (declared_branch.out-Branch b).«then».items) ++ else_occs (shape_else (declared_branch.out-Branch b).otherwise))
branch_has b = ap branch_occs (branch_parts b)
