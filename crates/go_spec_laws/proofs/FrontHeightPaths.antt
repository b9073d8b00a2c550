-- The height of a tree is the largest number of nodes on one path down.
use Rattle.std.proofs.Common.{◌≡◌, ◌≢◌, ℕ, zero, suc, ◌+◌, ◌≤◌, max, inl, inr, List, [], ◌∷◌, ◌++◌, map, Option, Some, None, refl, sym, ap, ◌∙◌, subst, arith}
use Rattle.std.specs.List.{flat_map}
use Rattle.std.specs.Prelude.{Contains}
use Rattle.std.proofs.lemmas.Bool.{cases_lt}
use Rattle.go_denote_core.specs.text_core.declared.span.Span.{Span}
use Rattle.go_tree_nodes.specs.declared.files.Receiver.{Receiver}
use Rattle.go_tree_nodes.specs.Heights.{branch_height, decl_height, else_height, exprs_height, fields_height, file_height, for_height, group_height, height, init_height, items_height, lines_height, methods_height, params_height, receiver_height, result_height, signature_height, simple_height, some_expr_height, some_exprs_height, some_simple_height, some_type_height, specs_height, stmt_height, tops_height, type_height, type_spec_height, types_height, value_height, value_spec_height, values_height}
use Rattle.go_tree_nodes.specs.Trees.{Separated, One, Then, TypeTree, FieldTrees, MethodTrees, SignatureTree, ResultTree, ParamTrees, NamedType, Pointer, ParenType, Struct, Interface, NoFields, NamedFields, EmbeddedField, NoMethods, Method, Signed, NoResult, OneResult, Results, NoParams, Param, ExprTree, ItemTrees, Integer, Text, Named, Paren, Unary, Binary, Select, Call, Literal, StructLiteral, NoItems, Item, ValueSpecTree, Specs, Single, Group, ValueTree, TypeDeclTree, TypeSpecTree, SimpleTree, Alone, Step, Assign, Update, Define, ForTree, Forever, While, Clauses, StmtTree, BranchTree, ElseTree, Lines, Empty, Declare, Simple, Return, Break, Continue, Block, If, For, Branch, NoElse, ElseBlock, ElseIf, NoLines, Line, FuncTree, DeclTree, Value, Types, Func, TopTree, FileTree, of_specs}
use Rattle.go_spec_laws.specs.front.HeightLaws.{HeightsAreOfPaths, IsFilePath, IsLargest, IsTreePath, Ends, GoesOn}
use Rattle.go_spec_laws.specs.front.HeightNodes.{Node, BlockNode, ExprNode, ForNode, FuncNode, IfNode, LoneNode, ReturnNode, SimpleNode, TypeNode, TypesNode, ValueNode, nodes_below, decl_node, else_nodes, expr_below, exprs_nodes, fields_nodes, file_nodes, for_nodes, func_below, if_below, init_nodes, items_nodes, lines_nodes, methods_nodes, params_nodes, receiver_nodes, result_nodes, return_below, signature_nodes, simple_below, some_expr_nodes, some_simple_nodes, some_type_nodes, stmt_node, type_below, types_below, value_below, value_spec_nodes, values_nodes}

-- ---- the highest of some nodes

-- how high a node is
abbrev node_height : Node → ℕ
node_height (TypeNode t) = type_height t
node_height (ExprNode t) = height t
node_height (ValueNode v) = value_height v
node_height (TypesNode t) = types_height t
node_height (FuncNode f) = decl_height (Func f)
node_height (SimpleNode s) = simple_height s
node_height LoneNode = 1
node_height (ReturnNode es) = some_exprs_height es + 1
node_height (BlockNode ls) = lines_height ls + 1
node_height (IfNode b) = branch_height b
node_height (ForNode head ls) = max (for_height head) (lines_height ls + 1) + 1

-- the largest height of some nodes, 0 of none
abbrev highest : List Node → ℕ
highest [] = 0
highest (n ∷ ns) = max (node_height n) (highest ns)

highest_both : (ns ms : List Node) → highest (ns ++ ms) ≡ max (highest ns) (highest ms)
highest_both [] ms = omega arith
highest_both (n ∷ ns) ms = let rest = highest_both ns ms in omega (arith, rest)

at_most : (ns : List Node) (m : Node) → Contains ns m → node_height m ≤ highest ns
at_most [] m (k, lt, e) = absurd (omega (arith, lt))
at_most (n ∷ ns) m (zero, lt, e) = let same : node_height n ≡ node_height m = ap node_height e in omega (arith, same)
at_most (n ∷ ns) m (suc k, lt, e) = let rest = at_most ns m (k, omega (arith, lt), e) in omega (arith, rest)

-- one of them has it
reached : (n : Node) (ns : List Node) → (m : Node) × Contains (n ∷ ns) m × (node_height m ≡ highest (n ∷ ns))
reached n [] = (n, (0, omega arith, refl), omega arith)
reached n (o ∷ ns) =
    let rest = reached o ns in
    let there = rest.1 in
    let same = rest.2 in
    elim (cases_lt (node_height n) (highest (o ∷ ns))) [
      | inl less ↦ (rest.0, (suc there.0, omega (arith, there.1), there.2), omega (arith, less, same))
      | inr more ↦ (n, (0, omega arith, refl), omega (arith, more))
    ]

-- ---- what stands below a type

params_highest : (ps : ParamTrees) → highest (params_nodes ps) ≡ params_height ps
params_highest NoParams = refl
params_highest (Param xs t comma rest) = ap (max (type_height t)) (params_highest rest)

result_highest : (r : ResultTree) → highest (result_nodes r) ≡ result_height r
result_highest NoResult = refl
result_highest (OneResult t) = omega arith
result_highest (Results first params last) = params_highest params

signature_highest : (s : SignatureTree) → highest (signature_nodes s) ≡ signature_height s
signature_highest (Signed first params last result) =
    let both = highest_both (params_nodes params) (result_nodes result) in
    omega (arith, both, params_highest params, result_highest result)

methods_highest : (ms : MethodTrees) → highest (methods_nodes ms) ≡ methods_height ms
methods_highest NoMethods = refl
methods_highest (Method x signature s rest) =
    let both = highest_both (signature_nodes signature) (methods_nodes rest) in
    omega (arith, both, signature_highest signature, methods_highest rest)

fields_highest : (ls : FieldTrees) → highest (fields_nodes ls) ≡ fields_height ls
fields_highest NoFields = refl
fields_highest (NamedFields xs t tag s rest) = ap (max (type_height t)) (fields_highest rest)
fields_highest (EmbeddedField star n tag s rest) = ap (max 1) (fields_highest rest)

type_over : (t : TypeTree) → type_height t ≡ highest (type_below t) + 1
type_over (NamedType n) = refl
type_over (Pointer star t) = omega arith
type_over (ParenType first t last) = omega arith
type_over (Struct k first fields last) = ap (λ n. n + 1) (sym (fields_highest fields))
type_over (Interface k first methods last) = ap (λ n. n + 1) (sym (methods_highest methods))

-- ---- what stands below an expression

items_highest : (is : ItemTrees) → highest (items_nodes is) ≡ items_height is
items_highest NoItems = refl
items_highest (Item key t comma rest) = ap (max (height t)) (items_highest rest)

exprs_highest : (es : Separated ExprTree) → highest (exprs_nodes es) ≡ exprs_height es
exprs_highest (One t) = omega arith
exprs_highest (Then t comma more) = ap (max (height t)) (exprs_highest more)

expr_over : (t : ExprTree) → height t ≡ highest (expr_below t) + 1
expr_over (Integer n span) = refl
expr_over (Text t) = refl
expr_over (Named x) = refl
expr_over (Paren first t last) = omega arith
expr_over (Unary op span t) = omega arith
expr_over (Binary a op span b) = omega arith
expr_over (Select t dot x) = omega arith
expr_over (Call t first items last) = ap (λ n. max (height t) n + 1) (sym (items_highest items))
expr_over (Literal n first items last) = ap (λ k. max 1 k + 1) (sym (items_highest items))
expr_over (StructLiteral t first items last) = ap (λ n. max (type_height t) n + 1) (sym (items_highest items))

-- ---- what stands below a declaration

some_type_highest : (t : Option TypeTree) → highest (some_type_nodes t) ≡ some_type_height t
some_type_highest None = refl
some_type_highest (Some t) = omega arith

values_highest : (v : Option (Span × Separated ExprTree)) → highest (values_nodes v) ≡ values_height v
values_highest None = refl
values_highest (Some v) = exprs_highest v.1

value_spec_highest : (v : ValueSpecTree) → highest (value_spec_nodes v) ≡ value_spec_height v
value_spec_highest v =
    let both = highest_both (some_type_nodes v.type_expr) (values_nodes v.values) in
    omega (arith, both, some_type_highest v.type_expr, values_highest v.values)

group_highest : {A : Type 0} (f : A → List Node) (g : A → ℕ) → ((x : A) → highest (f x) ≡ g x) → (xs : List (A × Option Span)) → highest (flat_map (λ l. f l.0) xs) ≡ group_height g xs
group_highest f g each [] = refl
group_highest f g each (x ∷ xs) =
    let both = highest_both (f x.0) (flat_map (λ l. f l.0) xs) in
    omega (arith, both, each x.0, group_highest f g each xs)

specs_highest : {A : Type 0} (f : A → List Node) (g : A → ℕ) → ((x : A) → highest (f x) ≡ g x) → (s : Specs A) → highest (of_specs f s) ≡ specs_height g s
specs_highest f g each (Single x) = each x
specs_highest f g each (Group first xs last) = group_highest f g each xs

value_over : (v : ValueTree) → value_height v ≡ highest (value_below v) + 1
value_over v = ap (λ n. n + 1) (sym (specs_highest value_spec_nodes value_spec_height value_spec_highest v.specs))

types_over : (t : TypeDeclTree) → types_height t ≡ highest (types_below t) + 1
types_over t = ap (λ n. n + 1) (sym (specs_highest (λ (s : TypeSpecTree). TypeNode s.type_expr ∷ []) type_spec_height (λ s. omega arith) t.specs))

receiver_highest : (r : Option Receiver) → highest (receiver_nodes r) ≡ receiver_height r
receiver_highest None = refl
receiver_highest (Some r) = refl

func_over : (f : FuncTree) → decl_height (Func f) ≡ highest (func_below f) + 1
func_over f =
    let all = highest_both (receiver_nodes f.receiver) (signature_nodes f.signature ++ BlockNode f.body ∷ []) in
    let rest = highest_both (signature_nodes f.signature) (BlockNode f.body ∷ []) in
    omega (arith, all, rest, receiver_highest f.receiver, signature_highest f.signature)

-- ---- what stands below a statement

simple_over : (s : SimpleTree) → simple_height s ≡ highest (simple_below s) + 1
simple_over (Alone t) = omega arith
simple_over (Step t op span) = omega arith
simple_over (Assign ts span es) =
    let both = highest_both (exprs_nodes ts) (exprs_nodes es) in
    omega (arith, both, exprs_highest ts, exprs_highest es)
simple_over (Update t op span e) = omega arith
simple_over (Define xs span es) = ap (λ n. n + 1) (sym (exprs_highest es))

return_over : (es : Option (Separated ExprTree)) → some_exprs_height es + 1 ≡ highest (return_below es) + 1
return_over None = refl
return_over (Some es) = ap (λ n. n + 1) (sym (exprs_highest es))

some_simple_highest : (s : Option SimpleTree) → highest (some_simple_nodes s) ≡ some_simple_height s
some_simple_highest None = refl
some_simple_highest (Some s) = omega arith

some_expr_highest : (t : Option ExprTree) → highest (some_expr_nodes t) ≡ some_expr_height t
some_expr_highest None = refl
some_expr_highest (Some t) = omega arith

init_highest : (i : Option (Option SimpleTree × Span)) → highest (init_nodes i) ≡ init_height i
init_highest None = refl
init_highest (Some i) = some_simple_highest i.0

else_highest : (e : ElseTree) → highest (else_nodes e) ≡ else_height e
else_highest NoElse = refl
else_highest (ElseBlock k first ls last) = omega arith
else_highest (ElseIf k b) = omega arith

if_over : (b : BranchTree) → branch_height b ≡ highest (if_below b) + 1
if_over (Branch k head first ls last otherwise) =
    let all = highest_both (init_nodes head.init) (ExprNode head.condition ∷ (BlockNode ls ∷ else_nodes otherwise)) in
    omega (arith, all, init_highest head.init, else_highest otherwise)

for_highest : (head : ForTree) → highest (for_nodes head) ≡ for_height head
for_highest Forever = refl
for_highest (While t) = omega arith
for_highest (Clauses init a test b post) =
    let all = highest_both (some_simple_nodes init) (some_expr_nodes test ++ some_simple_nodes post) in
    let rest = highest_both (some_expr_nodes test) (some_simple_nodes post) in
    omega (arith, all, rest, some_simple_highest init, some_expr_highest test, some_simple_highest post)

stmt_same : (c : StmtTree) → node_height (stmt_node c) ≡ stmt_height c
stmt_same Empty = refl
stmt_same (Declare v) = refl
stmt_same (Simple s) = refl
stmt_same (Return s es) = refl
stmt_same (Break s) = refl
stmt_same (Continue s) = refl
stmt_same (Block first ls last) = refl
stmt_same (If b) = refl
stmt_same (For k head first ls last) = refl

lines_highest : (ls : Lines) → highest (lines_nodes ls) ≡ lines_height ls
lines_highest NoLines = refl
lines_highest (Line c s rest) = let here = stmt_same c in omega (arith, here, lines_highest rest)

for_over : (head : ForTree) (ls : Lines) → node_height (ForNode head ls) ≡ highest (for_nodes head ++ BlockNode ls ∷ []) + 1
for_over head ls =
    let both = highest_both (for_nodes head) (BlockNode ls ∷ []) in
    omega (arith, both, for_highest head)

-- ---- a node is one higher than the highest right below it

over : (n : Node) → node_height n ≡ highest (nodes_below n) + 1
over (TypeNode t) = type_over t
over (ExprNode t) = expr_over t
over (ValueNode v) = value_over v
over (TypesNode t) = types_over t
over (FuncNode f) = func_over f
over (SimpleNode s) = simple_over s
over LoneNode = refl
over (ReturnNode es) = return_over es
over (BlockNode ls) = ap (λ n. n + 1) (sym (lines_highest ls))
over (IfNode b) = if_over b
over (ForNode head ls) = for_over head ls

-- ---- paths

no_longer : (n : Node) (k : ℕ) → IsTreePath n k → k ≤ node_height n
no_longer n k Ends = omega (arith, over n)
no_longer n k (GoesOn {m = m} there path) =
    let rest = no_longer m _ path in
    let most = at_most (nodes_below n) m there in
    omega (arith, rest, most, over n)

long_enough : (limit : ℕ) (n : Node) → node_height n ≤ limit → IsTreePath n (node_height n)
long_enough zero n le = absurd (omega (arith, le, over n))
long_enough (suc limit) n le = by (nodes_below n) refl (long_enough limit)
  where
    by : (ms : List Node) → nodes_below n ≡ ms → ((m : Node) → node_height m ≤ limit → IsTreePath m (node_height m)) → IsTreePath n (node_height n)
    by [] e lower =
        let one : 1 ≡ node_height n = sym (over n ∙ ap (λ ns. highest ns + 1) e) in
        subst (λ k. IsTreePath n k) one Ends
    by (o ∷ os) e lower =
        let found = reached o os in
        let there : Contains (nodes_below n) found.0 = subst (λ ns. Contains ns found.0) (sym e) found.1 in
        let whole : node_height n ≡ highest (o ∷ os) + 1 = over n ∙ ap (λ ns. highest ns + 1) e in
        let same : suc (node_height found.0) ≡ node_height n = omega (arith, whole, found.2) in
        let path = lower found.0 (omega (arith, same, le)) in
        subst (λ k. IsTreePath n k) same (GoesOn there path)

node_paths : (n : Node) → IsLargest (IsTreePath n) (node_height n)
node_paths n = (long_enough (node_height n) n (omega arith), no_longer n)

stmt_paths : (s : StmtTree) → IsLargest (IsTreePath (stmt_node s)) (stmt_height s)
stmt_paths s = subst (λ k. IsLargest (IsTreePath (stmt_node s)) k) (stmt_same s) (node_paths (stmt_node s))

decl_same : (d : DeclTree) → node_height (decl_node d) ≡ decl_height d
decl_same (Value v) = refl
decl_same (Types t) = refl
decl_same (Func f) = refl

decl_paths : (d : DeclTree) → IsLargest (IsTreePath (decl_node d)) (decl_height d)
decl_paths d = subst (λ k. IsLargest (IsTreePath (decl_node d)) k) (decl_same d) (node_paths (decl_node d))

-- ---- files

abbrev tops_nodes : List TopTree → List Node
tops_nodes ds = map (λ d. decl_node d.decl) ds

tops_highest : (ds : List TopTree) → highest (tops_nodes ds) ≡ tops_height ds
tops_highest [] = refl
tops_highest (d ∷ ds) = let here = decl_same d.decl in omega (arith, here, tops_highest ds)

-- one declaration has the height of all
tops_reach : (ds : List TopTree) → ds ≢ [] → (n : Node) × Contains (tops_nodes ds) n × (node_height n ≡ highest (tops_nodes ds))
tops_reach [] some = absurd (some refl)
tops_reach (d ∷ ds) some = reached (decl_node d.decl) (tops_nodes ds)

file_paths : (f : FileTree) → f.decls ≢ [] → IsLargest (IsFilePath f) (file_height f)
file_paths f some =
    let found = tops_reach f.decls some in
    let whole = tops_highest f.decls in
    let path = subst (λ k. IsTreePath found.0 k) (found.2 ∙ whole) (node_paths found.0).0 in
    ((found.0, found.1, path), no_higher)
  where
    no_higher : (k : ℕ) → IsFilePath f k → k ≤ file_height f
    no_higher k (n, there, path) = (let most = at_most (file_nodes f) n there in omega (arith, no_longer n k path, most, tops_highest f.decls))

file_of_nothing : (f : FileTree) → f.decls ≡ [] → file_height f ≡ 0
file_of_nothing f none = ap tops_height none

pub heights_are_of_paths : HeightsAreOfPaths
heights_are_of_paths = record {
  types = λ t. node_paths (TypeNode t);
  exprs = λ t. node_paths (ExprNode t);
  simples = λ s. node_paths (SimpleNode s);
  stmts = stmt_paths;
  decls = decl_paths;
  files = file_paths;
  nothing = file_of_nothing;
}
