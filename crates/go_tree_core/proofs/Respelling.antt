-- What a file with another spelling of one identifier writes.
use Rattle.std.proofs.Common.{◌≡◌, ◌≤◌, ◌+◌, ℕ, List, [], ◌∷◌, ◌++◌, map, Option, Some, None, refl, sym, ap, ◌∙◌, subst}
use Rattle.std.proofs.lemmas.List.{map-append}
use Rattle.go_tree_nodes.specs.text_core.declared.span.Span.{Span}
use Rattle.go_tree_nodes.specs.token_core.declared.kind.Operator.{Operator}
use Rattle.go_tree_nodes.specs.token_core.declared.kind.Operator.TheVariants as operator
use Rattle.go_tree_nodes.specs.declared.names.Ident.{Ident}
use Rattle.go_tree_nodes.specs.declared.names.TextLiteral.{TextLiteral}
use Rattle.go_tree_nodes.specs.declared.types.TypeName.{TypeName}
use Rattle.go_tree_nodes.specs.declared.types.TypeName.TheVariants as type_name
use Rattle.go_tree_nodes.specs.declared.exprs.Key.{Key}
use Rattle.go_tree_nodes.specs.declared.files.ImportName.{ImportName}
use Rattle.go_tree_nodes.specs.declared.files.ImportName.TheVariants as import_name
use Rattle.go_tree_nodes.specs.declared.files.Receiver.{Receiver}
use Rattle.go_tree_nodes.specs.Terminals.{Terminal, TerminalKind, Spelled, Number, Quoted, Word, Mark, Stray, least_width, InOrder}
use Rattle.go_tree_nodes.specs.Trees.{Separated, One, Then, TypeTree, FieldTrees, MethodTrees, SignatureTree, ResultTree, ParamTrees, NamedType, Pointer, ParenType, Struct, Interface, NoFields, NamedFields, EmbeddedField, NoMethods, Method, Signed, NoResult, OneResult, Results, NoParams, Param, ExprTree, ItemTrees, Integer, Text, Named, Paren, Unary, Binary, Select, Call, Literal, StructLiteral, NoItems, Item, ValueSpecTree, Specs, Single, Group, ValueTree, TypeSpecTree, TypeDeclTree, SimpleTree, Alone, Step, Assign, Update, Define, IfTree, ForTree, Forever, While, Clauses, StmtTree, BranchTree, ElseTree, Lines, Empty, Declare, Simple, Return, Break, Continue, Block, If, For, Branch, NoElse, ElseBlock, ElseIf, NoLines, Line, FuncTree, DeclTree, Value, Types, Func, TopTree, ImportSpecTree, ImportTree, FileTree}
use Rattle.go_tree_nodes.specs.Spelling.{spell_some, spell_tag, spell_names, spell_import_name, spell_receiver_name, spell_idents, spell_type_name, spell_type, spell_fields, spell_methods, spell_signature, spell_result, spell_params, spell_key, spell, spell_items, spell_exprs, spell_some_type, spell_values, spell_value_spec, spell_specs_of, spell_specs, spell_value, spell_type_spec, spell_types, spell_simple, spell_some_simple, spell_some_expr, spell_init, spell_if, spell_for, spell_some_exprs, spell_stmt, spell_branch, spell_else, spell_lines, spell_receiver, spell_func, spell_decl, spell_tops, spell_import, spell_imports, spell_file, IsPlaced}
use Rattle.go_tree_core.specs.copies.Respelled.{respelled_ident, separated_with, some_with, names_with, type_name_with, type_with, fields_with, methods_with, signature_with, result_with, params_with, key_with, expr_with, items_with, exprs_with, values_with, value_spec_with, line_with, specs_with, value_with, type_spec_with, type_decl_with, simple_with, init_with, if_with, for_with, stmt_with, branch_with, else_with, lines_with, receiver_with, func_with, decl_with, top_with, import_name_with, import_spec_with, import_with, respelled_file}
use Rattle.go_tree_core.specs.Renaming.{respelled_kind, respelled_terminal, RespelledFilesWriteTheSame}

-- one terminal, and then others
next : {t : Terminal} {us vs : List Terminal} → us ≡ vs → t ∷ us ≡ t ∷ vs
next {t} e = ap (λ l. t ∷ l) e

module _ (start : ℕ) (name : List ℕ) where
  abbrev h : Ident → Ident
  h x = respelled_ident start name x

  abbrev anew : List Terminal → List Terminal
  anew ts = map (respelled_terminal start name) ts

  both : (us vs xs ys : List Terminal) → us ≡ anew xs → vs ≡ anew ys → us ++ vs ≡ anew (xs ++ ys)
  both us vs xs ys a b = ap (λ l. l ++ vs) a ∙ ap (λ l. anew xs ++ l) b ∙ sym (map-append (respelled_terminal start name) xs ys)

  -- pieces with no name

  some_anew : (o : Operator) (s : Option Span) → spell_some o s ≡ anew (spell_some o s)
  some_anew o None = refl
  some_anew o (Some s) = refl

  tag_anew : (t : Option TextLiteral) → spell_tag t ≡ anew (spell_tag t)
  tag_anew None = refl
  tag_anew (Some t) = refl

  -- names

  idents_anew : (xs : Separated Ident) → spell_idents (separated_with h xs) ≡ anew (spell_idents xs)
  idents_anew (One x) = refl
  idents_anew (Then x comma more) = next (next (idents_anew more))

  names_anew : (xs : Option (Separated Ident)) → spell_names (names_with h xs) ≡ anew (spell_names xs)
  names_anew None = refl
  names_anew (Some xs) = idents_anew xs

  type_name_anew : (n : TypeName) → spell_type_name (type_name_with h n) ≡ anew (spell_type_name n)
  type_name_anew (type_name.Plain x) = refl
  type_name_anew (type_name.Qualified p dot x) = refl

  -- types

  mutual
    type_anew : (t : TypeTree) → spell_type (type_with h t) ≡ anew (spell_type t)
    type_anew (NamedType n) = type_name_anew n
    type_anew (Pointer star t) = next (type_anew t)
    type_anew (ParenType first t last) = next (both _ _ (spell_type t) _ (type_anew t) refl)
    type_anew (Struct k first ls last) = next (next (both _ _ (spell_fields ls) _ (fields_anew ls) refl))
    type_anew (Interface k first ms last) = next (next (both _ _ (spell_methods ms) _ (methods_anew ms) refl))

    fields_anew : (ls : FieldTrees) → spell_fields (fields_with h ls) ≡ anew (spell_fields ls)
    fields_anew NoFields = refl
    fields_anew (NamedFields xs t tag s rest) =
        both _ _ (spell_idents xs) _ (idents_anew xs) (both _ _ (spell_type t) _ (type_anew t) (both _ _ (spell_tag tag) _ (tag_anew tag) (both _ _ (spell_some operator.Semicolon s) _ (some_anew operator.Semicolon s) (fields_anew rest))))
    fields_anew (EmbeddedField star n tag s rest) =
        both _ _ (spell_some operator.Star star) _ (some_anew operator.Star star) (both _ _ (spell_type_name n) _ (type_name_anew n) (both _ _ (spell_tag tag) _ (tag_anew tag) (both _ _ (spell_some operator.Semicolon s) _ (some_anew operator.Semicolon s) (fields_anew rest))))

    methods_anew : (ms : MethodTrees) → spell_methods (methods_with h ms) ≡ anew (spell_methods ms)
    methods_anew NoMethods = refl
    methods_anew (Method x signature s rest) = next (both _ _ (spell_signature signature) _ (signature_anew signature) (both _ _ (spell_some operator.Semicolon s) _ (some_anew operator.Semicolon s) (methods_anew rest)))

    signature_anew : (g : SignatureTree) → spell_signature (signature_with h g) ≡ anew (spell_signature g)
    signature_anew (Signed first params last result) = next (both _ _ (spell_params params) _ (params_anew params) (next (result_anew result)))

    result_anew : (r : ResultTree) → spell_result (result_with h r) ≡ anew (spell_result r)
    result_anew NoResult = refl
    result_anew (OneResult t) = type_anew t
    result_anew (Results first params last) = next (both _ _ (spell_params params) _ (params_anew params) refl)

    params_anew : (ps : ParamTrees) → spell_params (params_with h ps) ≡ anew (spell_params ps)
    params_anew NoParams = refl
    params_anew (Param xs t comma rest) =
        both _ _ (spell_names xs) _ (names_anew xs) (both _ _ (spell_type t) _ (type_anew t) (both _ _ (spell_some operator.Comma comma) _ (some_anew operator.Comma comma) (params_anew rest)))

  -- expressions

  key_anew : (k : Option Key) → spell_key (some_with (key_with h) k) ≡ anew (spell_key k)
  key_anew None = refl
  key_anew (Some k) = refl

  mutual
    expr_anew : (e : ExprTree) → spell (expr_with h e) ≡ anew (spell e)
    expr_anew (Integer n span) = refl
    expr_anew (Text t) = refl
    expr_anew (Named x) = refl
    expr_anew (Paren first t last) = next (both _ _ (spell t) _ (expr_anew t) refl)
    expr_anew (Unary op span t) = next (expr_anew t)
    expr_anew (Binary a op span b) = both _ _ (spell a) _ (expr_anew a) (next (expr_anew b))
    expr_anew (Select t dot x) = both _ _ (spell t) _ (expr_anew t) refl
    expr_anew (Call t first items last) = both _ _ (spell t) _ (expr_anew t) (next (both _ _ (spell_items items) _ (items_anew items) refl))
    expr_anew (Literal n first items last) = both _ _ (spell_type_name n) _ (type_name_anew n) (next (both _ _ (spell_items items) _ (items_anew items) refl))
    expr_anew (StructLiteral t first items last) = both _ _ (spell_type t) _ (type_anew t) (next (both _ _ (spell_items items) _ (items_anew items) refl))

    items_anew : (is : ItemTrees) → spell_items (items_with h is) ≡ anew (spell_items is)
    items_anew NoItems = refl
    items_anew (Item key t comma rest) = both _ _ (spell_key key) _ (key_anew key) (both _ _ (spell t) _ (expr_anew t) (both _ _ (spell_some operator.Comma comma) _ (some_anew operator.Comma comma) (items_anew rest)))

  exprs_anew : (es : Separated ExprTree) → spell_exprs (exprs_with h es) ≡ anew (spell_exprs es)
  exprs_anew (One t) = expr_anew t
  exprs_anew (Then t comma more) = both _ _ (spell t) _ (expr_anew t) (next (exprs_anew more))

  -- declarations

  some_type_anew : (t : Option TypeTree) → spell_some_type (some_with (type_with h) t) ≡ anew (spell_some_type t)
  some_type_anew None = refl
  some_type_anew (Some t) = type_anew t

  values_anew : (v : Option (Span × Separated ExprTree)) → spell_values (some_with (values_with h) v) ≡ anew (spell_values v)
  values_anew None = refl
  values_anew (Some v) = next (exprs_anew v.1)

  value_spec_anew : (v : ValueSpecTree) → spell_value_spec (value_spec_with h v) ≡ anew (spell_value_spec v)
  value_spec_anew v = both _ _ (spell_idents v.names) _ (idents_anew v.names) (both _ _ (spell_some_type v.type_expr) _ (some_type_anew v.type_expr) (values_anew v.values))

  specs_of_anew : {A : Type 0} (f : A → List Terminal) (w : A → A) → ((x : A) → f (w x) ≡ anew (f x)) → (ls : List (A × Option Span)) → spell_specs_of f (map (line_with w) ls) ≡ anew (spell_specs_of f ls)
  specs_of_anew f w each [] = refl
  specs_of_anew f w each (l ∷ ls) = both _ _ (f l.0) _ (each l.0) (both _ _ (spell_some operator.Semicolon l.1) _ (some_anew operator.Semicolon l.1) (specs_of_anew f w each ls))

  specs_anew : {A : Type 0} (f : A → List Terminal) (w : A → A) → ((x : A) → f (w x) ≡ anew (f x)) → (s : Specs A) → spell_specs f (specs_with w s) ≡ anew (spell_specs f s)
  specs_anew f w each (Single x) = each x
  specs_anew f w each (Group first ls last) = next (both _ _ (spell_specs_of f ls) _ (specs_of_anew f w each ls) refl)

  value_anew : (v : ValueTree) → spell_value (value_with h v) ≡ anew (spell_value v)
  value_anew v = next (specs_anew spell_value_spec (value_spec_with h) value_spec_anew v.specs)

  type_spec_anew : (t : TypeSpecTree) → spell_type_spec (type_spec_with h t) ≡ anew (spell_type_spec t)
  type_spec_anew t = next (both _ _ (spell_some operator.Assign t.alias) _ (some_anew operator.Assign t.alias) (type_anew t.type_expr))

  types_anew : (t : TypeDeclTree) → spell_types (type_decl_with h t) ≡ anew (spell_types t)
  types_anew t = next (specs_anew spell_type_spec (type_spec_with h) type_spec_anew t.specs)

  -- statements

  simple_anew : (s : SimpleTree) → spell_simple (simple_with h s) ≡ anew (spell_simple s)
  simple_anew (Alone t) = expr_anew t
  simple_anew (Step t op span) = both _ _ (spell t) _ (expr_anew t) refl
  simple_anew (Assign ts span es) = both _ _ (spell_exprs ts) _ (exprs_anew ts) (next (exprs_anew es))
  simple_anew (Update t op span e) = both _ _ (spell t) _ (expr_anew t) (next (expr_anew e))
  simple_anew (Define xs span es) = both _ _ (spell_idents xs) _ (idents_anew xs) (next (exprs_anew es))

  some_simple_anew : (s : Option SimpleTree) → spell_some_simple (some_with (simple_with h) s) ≡ anew (spell_some_simple s)
  some_simple_anew None = refl
  some_simple_anew (Some s) = simple_anew s

  some_expr_anew : (e : Option ExprTree) → spell_some_expr (some_with (expr_with h) e) ≡ anew (spell_some_expr e)
  some_expr_anew None = refl
  some_expr_anew (Some e) = expr_anew e

  init_anew : (i : Option (Option SimpleTree × Span)) → spell_init (some_with (init_with h) i) ≡ anew (spell_init i)
  init_anew None = refl
  init_anew (Some i) = both _ _ (spell_some_simple i.0) _ (some_simple_anew i.0) refl

  if_anew : (i : IfTree) → spell_if (if_with h i) ≡ anew (spell_if i)
  if_anew i = both _ _ (spell_init i.init) _ (init_anew i.init) (expr_anew i.condition)

  for_anew : (f : ForTree) → spell_for (for_with h f) ≡ anew (spell_for f)
  for_anew Forever = refl
  for_anew (While t) = expr_anew t
  for_anew (Clauses init a test b post) = both _ _ (spell_some_simple init) _ (some_simple_anew init) (next (both _ _ (spell_some_expr test) _ (some_expr_anew test) (next (some_simple_anew post))))

  some_exprs_anew : (es : Option (Separated ExprTree)) → spell_some_exprs (some_with (exprs_with h) es) ≡ anew (spell_some_exprs es)
  some_exprs_anew None = refl
  some_exprs_anew (Some es) = exprs_anew es

  mutual
    stmt_anew : (s : StmtTree) → spell_stmt (stmt_with h s) ≡ anew (spell_stmt s)
    stmt_anew Empty = refl
    stmt_anew (Declare v) = value_anew v
    stmt_anew (Simple s) = simple_anew s
    stmt_anew (Return s es) = next (some_exprs_anew es)
    stmt_anew (Break s) = refl
    stmt_anew (Continue s) = refl
    stmt_anew (Block first ls last) = next (both _ _ (spell_lines ls) _ (lines_anew ls) refl)
    stmt_anew (If b) = branch_anew b
    stmt_anew (For k head first ls last) = next (both _ _ (spell_for head) _ (for_anew head) (next (both _ _ (spell_lines ls) _ (lines_anew ls) refl)))

    branch_anew : (b : BranchTree) → spell_branch (branch_with h b) ≡ anew (spell_branch b)
    branch_anew (Branch k head first ls last otherwise) = next (both _ _ (spell_if head) _ (if_anew head) (next (both _ _ (spell_lines ls) _ (lines_anew ls) (next (else_anew otherwise)))))

    else_anew : (e : ElseTree) → spell_else (else_with h e) ≡ anew (spell_else e)
    else_anew NoElse = refl
    else_anew (ElseBlock k first ls last) = next (next (both _ _ (spell_lines ls) _ (lines_anew ls) refl))
    else_anew (ElseIf k b) = next (branch_anew b)

    lines_anew : (ls : Lines) → spell_lines (lines_with h ls) ≡ anew (spell_lines ls)
    lines_anew NoLines = refl
    lines_anew (Line c s rest) = both _ _ (spell_stmt c) _ (stmt_anew c) (both _ _ (spell_some operator.Semicolon s) _ (some_anew operator.Semicolon s) (lines_anew rest))

  -- functions, imports and files

  receiver_name_anew : (x : Option Ident) → spell_receiver_name (some_with h x) ≡ anew (spell_receiver_name x)
  receiver_name_anew None = refl
  receiver_name_anew (Some x) = refl

  receiver_anew : (r : Option Receiver) → spell_receiver (some_with (receiver_with h) r) ≡ anew (spell_receiver r)
  receiver_anew None = refl
  receiver_anew (Some r) =
      next (both _ _ (spell_receiver_name r.name) _ (receiver_name_anew r.name) (both _ _ (spell_some operator.Star r.star) _ (some_anew operator.Star r.star) (both _ _ (spell_type_name r.base) _ (type_name_anew r.base) (both _ _ (spell_some operator.Comma r.comma) _ (some_anew operator.Comma r.comma) refl))))

  func_anew : (f : FuncTree) → spell_func (func_with h f) ≡ anew (spell_func f)
  func_anew f =
      next (both _ _ (spell_receiver f.receiver) _ (receiver_anew f.receiver) (next (both _ _ (spell_signature f.signature) _ (signature_anew f.signature) (next (both _ _ (spell_lines f.body) _ (lines_anew f.body) refl)))))

  decl_anew : (d : DeclTree) → spell_decl (decl_with h d) ≡ anew (spell_decl d)
  decl_anew (Value v) = value_anew v
  decl_anew (Types t) = types_anew t
  decl_anew (Func f) = func_anew f

  tops_anew : (ds : List TopTree) → spell_tops (map (top_with h) ds) ≡ anew (spell_tops ds)
  tops_anew [] = refl
  tops_anew (d ∷ ds) = both _ _ (spell_decl d.decl) _ (decl_anew d.decl) (next (tops_anew ds))

  import_name_anew : (n : ImportName) → spell_import_name (import_name_with h n) ≡ anew (spell_import_name n)
  import_name_anew import_name.Own = refl
  import_name_anew (import_name.Named x) = refl
  import_name_anew (import_name.Dot s) = refl

  import_anew : (i : ImportSpecTree) → spell_import (import_spec_with h i) ≡ anew (spell_import i)
  import_anew i = both _ _ (spell_import_name i.name) _ (import_name_anew i.name) refl

  imports_anew : (is : List ImportTree) → spell_imports (map (import_with h) is) ≡ anew (spell_imports is)
  imports_anew [] = refl
  imports_anew (i ∷ is) = next (both _ _ (spell_specs spell_import i.specs) _ (specs_anew spell_import (import_spec_with h) import_anew i.specs) (next (imports_anew is)))

  file_anew : (f : FileTree) → spell_file (respelled_file start name f) ≡ anew (spell_file f)
  file_anew f = next (next (next (both _ _ (spell_imports f.imports) _ (imports_anew f.imports) (tops_anew f.decls))))

  -- what is written anew is as wide at least, and in the same order

  width_anew : (s : Span) (k : TerminalKind) → least_width (respelled_kind start name s k) ≡ least_width k
  width_anew s (Spelled old) = refl
  width_anew s (Number n) = refl
  width_anew s (Quoted text) = refl
  width_anew s (Word k) = refl
  width_anew s (Mark o) = refl
  width_anew s Stray = refl

  order_anew : (low high : ℕ) (ts : List Terminal) → InOrder low ts high → InOrder low (anew ts) high
  order_anew low high [] o = o
  order_anew low high (t ∷ ts) o = (o.0, subst (λ w. t.span.start + w ≤ t.span.end) (sym (width_anew t.span t.kind)) o.1, order_anew t.span.end high ts o.2)

  pub placed_anew : (f : FileTree) → IsPlaced f → IsPlaced (respelled_file start name f)
  placed_anew f p = (p.0, subst (λ ts. InOrder 0 ts p.0) (sym (file_anew f)) (order_anew 0 p.0 (spell_file f) p.1))

pub respelled_files_write_the_same : RespelledFilesWriteTheSame
respelled_files_write_the_same start name f = file_anew start name f
