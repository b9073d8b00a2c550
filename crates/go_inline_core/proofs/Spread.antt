-- The types of a function, and of the specifications of a file, begin one behind another.
use Rattle.std.proofs.Common.{ℕ, List, [], ◌∷◌, Option, Some, None, refl}
use Rattle.std.specs.List.{flat_map}
use Rattle.go_tree_nodes.specs.text_core.declared.span.Span.{Span}
use Rattle.go_tree_nodes.specs.token_core.declared.kind.Operator.TheVariants as operator
use Rattle.go_tree_nodes.specs.declared.types.TypeName.TheVariants as type_name
use Rattle.go_tree_nodes.specs.Terminals.{Terminal}
use Rattle.go_tree_nodes.specs.Trees as tree
use Rattle.go_tree_nodes.specs.Trees.{Separated, One, Then, TypeTree, NamedType, Pointer, ParenType, Struct, Interface, SignatureTree, ResultTree, ParamTrees, Signed, NoResult, OneResult, Results, NoParams, Param, ExprTree, ItemTrees, Integer, Text, Named, Paren, Unary, Binary, Select, Call, Literal, StructLiteral, NoItems, Item, ValueSpecTree, Specs, Single, Group, SimpleTree, Alone, Step, Assign, Update, Define, IfTree, ForTree, Forever, While, Clauses, StmtTree, BranchTree, ElseTree, Lines, Empty, Simple, Return, Break, Continue, Block, If, For, Branch, NoElse, ElseBlock, ElseIf, NoLines, Line, FuncTree, DeclTree, Value, Types, Func, TopTree, FileTree}
use Rattle.go_tree_nodes.specs.Spelling.{spell_idents, spell_some, spell_type_name, spell_names, spell_type, spell_result, spell_params, spell_signature, spell_key, spell, spell_items, spell_exprs, spell_some_type, spell_values, spell_value_spec, spell_specs_of, spell_specs, spell_simple, spell_some_simple, spell_some_expr, spell_some_exprs, spell_init, spell_if, spell_for, spell_stmt, spell_branch, spell_else, spell_lines, spell_receiver, spell_func, spell_decl, spell_tops, spell_imports, spell_file}
use Rattle.go_tree_nodes.specs.WrittenTypes.{expr_types, items_types, exprs_types, some_expr_types, some_exprs_types, params_types, result_types, signature_types, some_type, values_types, spec_types, specs_types, simple_types}
use Rattle.go_names_core.specs.block_core.Rising.{Gives, Rises, gives_none, gives_skip, gives_one, gives_both, gives_first, gives_second}
use Rattle.go_tree_nodes.specs.Starts.{type_start}
use Rattle.go_inline_core.specs.Trees.{some_simple_types, init_types, if_types, for_types, stmt_types, branch_types, else_types, lines_types, func_types, decl_types, file_types}

-- nothing is asked of a type but its place
abbrev pub Any : TypeTree → Type 0
Any t = Unit {0}

-- terminals that stand in order give types that begin one behind another
abbrev pub Begin : List Terminal → List TypeTree → Type 0
Begin = Gives Any type_start

abbrev pub AreSpread : ℕ → List TypeTree → ℕ → Type 0
AreSpread = Rises Any type_start

type_begins : (t : TypeTree) → Begin (spell_type t) (t ∷ [])
type_begins (NamedType (type_name.Plain x)) = gives_one tt refl refl gives_none
type_begins (NamedType (type_name.Qualified q dot x)) = gives_one tt refl refl gives_none
type_begins (Pointer star t) = gives_one tt refl refl gives_none
type_begins (ParenType first t last) = gives_one tt refl refl gives_none
type_begins (Struct k first ls last) = gives_one tt refl refl gives_none
type_begins (Interface k first ms last) = gives_one tt refl refl gives_none

params_begin : (ps : ParamTrees) → Begin (spell_params ps) (params_types ps)
params_begin NoParams = gives_none
params_begin (Param xs t comma rest) = gives_second (spell_names xs) (gives_both (type_begins t) (gives_second (spell_some operator.Comma comma) (params_begin rest)))

result_begins : (r : ResultTree) → Begin (spell_result r) (result_types r)
result_begins NoResult = gives_none
result_begins (OneResult t) = type_begins t
result_begins (Results first params last) = gives_skip (gives_first _ (params_begin params))

signature_begins : (s : SignatureTree) → Begin (spell_signature s) (signature_types s)
signature_begins (Signed first params last result) = gives_skip (gives_both (params_begin params) (gives_skip (result_begins result)))

mutual
  expr_begins : (t : ExprTree) → Begin (spell t) (expr_types t)
  expr_begins (Integer n span) = gives_none
  expr_begins (Text t) = gives_none
  expr_begins (Named x) = gives_none
  expr_begins (Paren first t last) = gives_skip (gives_first _ (expr_begins t))
  expr_begins (Unary op span t) = gives_skip (expr_begins t)
  expr_begins (Binary a op span b) = gives_both (expr_begins a) (gives_skip (expr_begins b))
  expr_begins (Select t dot x) = gives_first _ (expr_begins t)
  expr_begins (Call t first items last) = gives_both (expr_begins t) (gives_skip (gives_first _ (items_begin items)))
  expr_begins (Literal n first items last) = gives_second (spell_type_name n) (gives_skip (gives_first _ (items_begin items)))
  expr_begins (StructLiteral t first items last) = gives_both (type_begins t) (gives_skip (gives_first _ (items_begin items)))

  items_begin : (is : ItemTrees) → Begin (spell_items is) (items_types is)
  items_begin NoItems = gives_none
  items_begin (Item key t comma rest) = gives_second (spell_key key) (gives_both (expr_begins t) (gives_second (spell_some operator.Comma comma) (items_begin rest)))

exprs_begin : (es : Separated ExprTree) → Begin (spell_exprs es) (exprs_types es)
exprs_begin (One t) = expr_begins t
exprs_begin (Then t comma more) = gives_both (expr_begins t) (gives_skip (exprs_begin more))

some_expr_begins : (t : Option ExprTree) → Begin (spell_some_expr t) (some_expr_types t)
some_expr_begins None = gives_none
some_expr_begins (Some t) = expr_begins t

some_exprs_begin : (es : Option (Separated ExprTree)) → Begin (spell_some_exprs es) (some_exprs_types es)
some_exprs_begin None = gives_none
some_exprs_begin (Some es) = exprs_begin es

some_type_begins : (t : Option TypeTree) → Begin (spell_some_type t) (some_type t)
some_type_begins None = gives_none
some_type_begins (Some t) = type_begins t

values_begin : (v : Option (Span × Separated ExprTree)) → Begin (spell_values v) (values_types v)
values_begin None = gives_none
values_begin (Some v) = gives_skip (exprs_begin v.1)

spec_begins : (v : ValueSpecTree) → Begin (spell_value_spec v) (spec_types v)
spec_begins v = gives_second (spell_idents v.names) (gives_both (some_type_begins v.type_expr) (values_begin v.values))

group_begins : (vs : List (ValueSpecTree × Option Span)) → Begin (spell_specs_of spell_value_spec vs) (flat_map (λ v. spec_types v.0) vs)
group_begins [] = gives_none
group_begins (v ∷ vs) = gives_both (spec_begins v.0) (gives_second (spell_some operator.Semicolon v.1) (group_begins vs))

specs_begin : (s : Specs ValueSpecTree) → Begin (spell_specs spell_value_spec s) (specs_types s)
specs_begin (Single v) = spec_begins v
specs_begin (Group first vs last) = gives_skip (gives_first _ (group_begins vs))

simple_begins : (s : SimpleTree) → Begin (spell_simple s) (simple_types s)
simple_begins (Alone t) = expr_begins t
simple_begins (Step t op span) = gives_first _ (expr_begins t)
simple_begins (Assign ts span es) = gives_both (exprs_begin ts) (gives_skip (exprs_begin es))
simple_begins (Update t op span e) = gives_both (expr_begins t) (gives_skip (expr_begins e))
simple_begins (Define xs span es) = gives_second (spell_idents xs) (gives_skip (exprs_begin es))

some_simple_begins : (s : Option SimpleTree) → Begin (spell_some_simple s) (some_simple_types s)
some_simple_begins None = gives_none
some_simple_begins (Some s) = simple_begins s

init_begins : (i : Option (Option SimpleTree × Span)) → Begin (spell_init i) (init_types i)
init_begins None = gives_none
init_begins (Some i) = gives_first _ (some_simple_begins i.0)

if_begins : (h : IfTree) → Begin (spell_if h) (if_types h)
if_begins h = gives_both (init_begins h.init) (expr_begins h.condition)

for_begins : (h : ForTree) → Begin (spell_for h) (for_types h)
for_begins Forever = gives_none
for_begins (While t) = expr_begins t
for_begins (Clauses init a test b post) = gives_both (some_simple_begins init) (gives_skip (gives_both (some_expr_begins test) (gives_skip (some_simple_begins post))))

mutual
  stmt_begins : (s : StmtTree) → Begin (spell_stmt s) (stmt_types s)
  stmt_begins Empty = gives_none
  stmt_begins (tree.Declare v) = gives_skip (specs_begin v.specs)
  stmt_begins (Simple s) = simple_begins s
  stmt_begins (Return s es) = gives_skip (some_exprs_begin es)
  stmt_begins (Break s) = gives_none
  stmt_begins (Continue s) = gives_none
  stmt_begins (Block first ls last) = gives_skip (gives_first _ (lines_begin ls))
  stmt_begins (If b) = branch_begins b
  stmt_begins (For k head first ls last) = gives_skip (gives_both (for_begins head) (gives_skip (gives_first _ (lines_begin ls))))

  branch_begins : (b : BranchTree) → Begin (spell_branch b) (branch_types b)
  branch_begins (Branch k head first ls last otherwise) = gives_skip (gives_both (if_begins head) (gives_skip (gives_both (lines_begin ls) (gives_skip (else_begins otherwise)))))

  else_begins : (e : ElseTree) → Begin (spell_else e) (else_types e)
  else_begins NoElse = gives_none
  else_begins (ElseBlock k first ls last) = gives_skip (gives_skip (gives_first _ (lines_begin ls)))
  else_begins (ElseIf k b) = gives_skip (branch_begins b)

  lines_begin : (ls : Lines) → Begin (spell_lines ls) (lines_types ls)
  lines_begin NoLines = gives_none
  lines_begin (Line s semicolon more) = gives_both (stmt_begins s) (gives_second (spell_some operator.Semicolon semicolon) (lines_begin more))

pub func_begins : (f : FuncTree) → Begin (spell_func f) (func_types f)
func_begins f = gives_skip (gives_second (spell_receiver f.receiver) (gives_skip (gives_both (signature_begins f.signature) (gives_skip (gives_first _ (lines_begin f.body))))))

decl_begins : (d : DeclTree) → Begin (spell_decl d) (decl_types d)
decl_begins (Value v) = gives_skip (specs_begin v.specs)
decl_begins (Types t) = gives_none
decl_begins (Func f) = gives_none

tops_begin : (ds : List TopTree) → Begin (spell_tops ds) (flat_map (λ t. decl_types t.decl) ds)
tops_begin [] = gives_none
tops_begin (d ∷ ds) = gives_both (decl_begins d.decl) (gives_skip (tops_begin ds))

pub file_begins : (f : FileTree) → Begin (spell_file f) (file_types f)
file_begins f = gives_skip (gives_skip (gives_skip (gives_second (spell_imports f.imports) (tops_begin f.decls))))
