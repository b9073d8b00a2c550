-- How trees are stored, so that a model may hold one: each tree gives a tree of labels, which gives it back.
use Rattle.std.specs.Prelude.{◌≡◌, refl, ℕ, zero, suc, List, [], ◌∷◌, Option, Some, None, ◌⊎◌}
use Rattle.std.specs.Coded.{Coded, code_by, coded×, coded⊎, coded_list, coded_option, coded_ℕ}
use Rattle.std.proofs.Common.{ap, inl, inr}
use Rattle.go_token_core.specs.text_core.declared.span.Span.{Span}
use Rattle.go_token_core.specs.text_core.contracts.span.Span as span
use Rattle.go_token_core.specs.declared.kind.Operator.{Operator}
use Rattle.go_token_core.specs.contracts.kind.Operator as operator
use Rattle.go_tree_nodes.specs.declared.names.Ident.{Ident}
use Rattle.go_tree_nodes.specs.contracts.names.Ident as ident
use Rattle.go_tree_nodes.specs.declared.names.TextLiteral.{TextLiteral}
use Rattle.go_tree_nodes.specs.contracts.names.TextLiteral as text_literal
use Rattle.go_tree_nodes.specs.declared.types.TypeName.{TypeName}
use Rattle.go_tree_nodes.specs.declared.types.TypeName.TheVariants.{Plain}
use Rattle.go_tree_nodes.specs.contracts.types.TypeName as type_name
use Rattle.go_tree_nodes.specs.declared.exprs.Key.{Key}
use Rattle.go_tree_nodes.specs.contracts.exprs.Key as key
use Rattle.go_tree_nodes.specs.contracts.decls.ValueKind as value_kind
use Rattle.go_tree_nodes.specs.declared.decls.ValueKind.{ValueKind}
use Rattle.go_tree_nodes.specs.declared.files.ImportName.{ImportName}
use Rattle.go_tree_nodes.specs.contracts.files.ImportName as import_name
use Rattle.go_tree_nodes.specs.declared.files.Receiver.{Receiver}
use Rattle.go_tree_nodes.specs.contracts.files.Receiver as receiver
use Rattle.go_tree_nodes.specs.Trees.{Separated, One, Then, TypeTree, NamedType, Pointer, ParenType, Struct, Interface, FieldTrees, NoFields, NamedFields, EmbeddedField, MethodTrees, NoMethods, Method, SignatureTree, Signed, ResultTree, NoResult, OneResult, Results, ParamTrees, NoParams, Param, ExprTree, Integer, Text, Named, Paren, Unary, Binary, Select, Call, Literal, StructLiteral, ItemTrees, NoItems, Item, ValueSpecTree, Specs, Single, Group, ValueTree, TypeSpecTree, TypeDeclTree, SimpleTree, Alone, Step, Assign, Update, Define, IfTree, ForTree, Forever, While, Clauses, StmtTree, Empty, Declare, Simple, Return, Break, Continue, Block, If, For, BranchTree, Branch, ElseTree, NoElse, ElseBlock, ElseIf, Lines, NoLines, Line, FuncTree, DeclTree, Value, Types, Func, TopTree, ImportSpecTree, ImportTree, FileTree}
use Rattle.go_tree_nodes.specs.codes.Labels.{Labels, End, Node, coded_labels}

-- leaves

abbrev no_span : Span
no_span = record { start = 0; end = 0 }

abbrev coded_places : Coded (List Span)
coded_places = coded_list span.the_row.coded

abbrev maybe_span : Coded (Option Span)
maybe_span = coded_option span.the_row.coded

abbrev maybe_text : Coded (Option TextLiteral)
maybe_text = coded_option text_literal.the_row.coded

-- separated lists

module _ {A : Type 0} where
  abbrev first_and_more : Separated A → A × List (Span × A)
  first_and_more (One a) = (a, [])
  first_and_more (Then a s r) = let p = first_and_more r in (a, (s, p.0) ∷ p.1)

  abbrev separated_by : A → List (Span × A) → Separated A
  separated_by a [] = One a
  separated_by a (p ∷ ps) = Then a p.0 (separated_by p.1 ps)

  pub separated_back : (r : Separated A) → (let p = first_and_more r in separated_by p.0 p.1) ≡ r
  separated_back (One a) = refl
  separated_back (Then a s r) = ap (Then a s) (separated_back r)

  abbrev pub coded_separated : Coded A → Coded (Separated A)
  coded_separated c = code_by (A × List (Span × A)) (coded× c (coded_list (coded× span.the_row.coded c))) first_and_more (λ p. separated_by p.0 p.1) separated_back

-- types

-- what a node of a type holds beside its parts: a number for its form, with places; or what its form has
abbrev TypeLabel : Type 0
TypeLabel = (ℕ × List Span) ⊎ (TypeName ⊎ ((Separated Ident × (Option TextLiteral × Option Span)) ⊎ ((Option Span × (TypeName × (Option TextLiteral × Option Span))) ⊎ ((Ident × Option Span) ⊎ (Option (Separated Ident) × Option Span)))))

abbrev coded_type_label : Coded TypeLabel
coded_type_label = coded⊎ (coded× coded_ℕ coded_places) (coded⊎ type_name.the_row.coded (coded⊎ (coded× (coded_separated ident.the_row.coded) (coded× maybe_text maybe_span)) (coded⊎ (coded× maybe_span (coded× type_name.the_row.coded (coded× maybe_text maybe_span))) (coded⊎ (coded× ident.the_row.coded maybe_span) (coded× (coded_option (coded_separated ident.the_row.coded)) maybe_span)))))

pattern abbrev form : ℕ → List Span → TypeLabel
form n places = inl (n, places)

pattern abbrev type_named : TypeName → TypeLabel
type_named n = inr (inl n)

pattern abbrev named_fields : Separated Ident → Option TextLiteral → Option Span → TypeLabel
named_fields names tag semicolon = inr (inr (inl (names, (tag, semicolon))))

pattern abbrev embedded : Option Span → TypeName → Option TextLiteral → Option Span → TypeLabel
embedded star n tag semicolon = inr (inr (inr (inl (star, (n, (tag, semicolon))))))

pattern abbrev method_line : Ident → Option Span → TypeLabel
method_line name semicolon = inr (inr (inr (inr (inl (name, semicolon)))))

pattern abbrev param_entry : Option (Separated Ident) → Option Span → TypeLabel
param_entry names comma = inr (inr (inr (inr (inr (names, comma)))))

abbrev mutual
  type_labels : TypeTree → Labels TypeLabel
  type_labels (NamedType n) = Node (type_named n) End End
  type_labels (Pointer s t) = Node (form 0 (s ∷ [])) (type_labels t) End
  type_labels (ParenType s t e) = Node (form 1 (s ∷ e ∷ [])) (type_labels t) End
  type_labels (Struct k s fs e) = Node (form 2 (k ∷ s ∷ e ∷ [])) (fields_labels fs) End
  type_labels (Interface k s ms e) = Node (form 3 (k ∷ s ∷ e ∷ [])) (methods_labels ms) End

  fields_labels : FieldTrees → Labels TypeLabel
  fields_labels NoFields = End
  fields_labels (NamedFields names t tag semicolon fs) = Node (named_fields names tag semicolon) (type_labels t) (fields_labels fs)
  fields_labels (EmbeddedField star n tag semicolon fs) = Node (embedded star n tag semicolon) End (fields_labels fs)

  methods_labels : MethodTrees → Labels TypeLabel
  methods_labels NoMethods = End
  methods_labels (Method name g semicolon ms) = Node (method_line name semicolon) (signature_labels g) (methods_labels ms)

  signature_labels : SignatureTree → Labels TypeLabel
  signature_labels (Signed s ps e r) = Node (form 0 (s ∷ e ∷ [])) (params_labels ps) (result_labels r)

  result_labels : ResultTree → Labels TypeLabel
  result_labels NoResult = End
  result_labels (OneResult t) = Node (form 0 []) (type_labels t) End
  result_labels (Results s ps e) = Node (form 1 (s ∷ e ∷ [])) (params_labels ps) End

  params_labels : ParamTrees → Labels TypeLabel
  params_labels NoParams = End
  params_labels (Param names t comma ps) = Node (param_entry names comma) (type_labels t) (params_labels ps)

abbrev no_type : TypeTree
no_type = NamedType (Plain (record { name = []; span = no_span }))

abbrev mutual
  type_in : Labels TypeLabel → TypeTree
  type_in (Node (type_named n) a b) = NamedType n
  type_in (Node (form zero (s ∷ [])) a b) = Pointer s (type_in a)
  type_in (Node (form (suc zero) (s ∷ e ∷ [])) a b) = ParenType s (type_in a) e
  type_in (Node (form (suc (suc zero)) (k ∷ s ∷ e ∷ [])) a b) = Struct k s (fields_in a) e
  type_in (Node (form (suc (suc (suc zero))) (k ∷ s ∷ e ∷ [])) a b) = Interface k s (methods_in a) e
  type_in _ = no_type

  fields_in : Labels TypeLabel → FieldTrees
  fields_in (Node (named_fields names tag semicolon) a b) = NamedFields names (type_in a) tag semicolon (fields_in b)
  fields_in (Node (embedded star n tag semicolon) a b) = EmbeddedField star n tag semicolon (fields_in b)
  fields_in _ = NoFields

  methods_in : Labels TypeLabel → MethodTrees
  methods_in (Node (method_line name semicolon) a b) = Method name (signature_in a) semicolon (methods_in b)
  methods_in _ = NoMethods

  signature_in : Labels TypeLabel → SignatureTree
  signature_in (Node (form zero (s ∷ e ∷ [])) a b) = Signed s (params_in a) e (result_in b)
  signature_in _ = Signed no_span NoParams no_span NoResult

  result_in : Labels TypeLabel → ResultTree
  result_in (Node (form zero []) a b) = OneResult (type_in a)
  result_in (Node (form (suc zero) (s ∷ e ∷ [])) a b) = Results s (params_in a) e
  result_in _ = NoResult

  params_in : Labels TypeLabel → ParamTrees
  params_in (Node (param_entry names comma) a b) = Param names (type_in a) comma (params_in b)
  params_in _ = NoParams

mutual
  pub type_back : (t : TypeTree) → type_in (type_labels t) ≡ t
  type_back (NamedType n) = refl
  type_back (Pointer s t) = λ i. Pointer s (type_back t i)
  type_back (ParenType s t e) = λ i. ParenType s (type_back t i) e
  type_back (Struct k s fs e) = λ i. Struct k s (fields_back fs i) e
  type_back (Interface k s ms e) = λ i. Interface k s (methods_back ms i) e

  pub fields_back : (fs : FieldTrees) → fields_in (fields_labels fs) ≡ fs
  fields_back NoFields = refl
  fields_back (NamedFields names t tag semicolon fs) = λ i. NamedFields names (type_back t i) tag semicolon (fields_back fs i)
  fields_back (EmbeddedField star n tag semicolon fs) = λ i. EmbeddedField star n tag semicolon (fields_back fs i)

  pub methods_back : (ms : MethodTrees) → methods_in (methods_labels ms) ≡ ms
  methods_back NoMethods = refl
  methods_back (Method name g semicolon ms) = λ i. Method name (signature_back g i) semicolon (methods_back ms i)

  pub signature_back : (g : SignatureTree) → signature_in (signature_labels g) ≡ g
  signature_back (Signed s ps e r) = λ i. Signed s (params_back ps i) e (result_back r i)

  pub result_back : (r : ResultTree) → result_in (result_labels r) ≡ r
  result_back NoResult = refl
  result_back (OneResult t) = λ i. OneResult (type_back t i)
  result_back (Results s ps e) = λ i. Results s (params_back ps i) e

  pub params_back : (ps : ParamTrees) → params_in (params_labels ps) ≡ ps
  params_back NoParams = refl
  params_back (Param names t comma ps) = λ i. Param names (type_back t i) comma (params_back ps i)

abbrev pub coded_type : Coded TypeTree
coded_type = code_by (Labels TypeLabel) (coded_labels coded_type_label) type_labels type_in type_back

abbrev pub coded_signature : Coded SignatureTree
coded_signature = code_by (Labels TypeLabel) (coded_labels coded_type_label) signature_labels signature_in signature_back

-- expressions

abbrev ExprLabel : Type 0
ExprLabel = (ℕ × List Span) ⊎ ((ℕ × Span) ⊎ (TextLiteral ⊎ (Ident ⊎ ((ℕ × (Operator × Span)) ⊎ ((Span × Ident) ⊎ ((TypeName × (Span × Span)) ⊎ ((TypeTree × (Span × Span)) ⊎ (Option Key × Option Span))))))))

abbrev coded_expr_label : Coded ExprLabel
coded_expr_label = coded⊎ (coded× coded_ℕ coded_places) (coded⊎ (coded× coded_ℕ span.the_row.coded) (coded⊎ text_literal.the_row.coded (coded⊎ ident.the_row.coded (coded⊎ (coded× coded_ℕ (coded× operator.the_row.coded span.the_row.coded)) (coded⊎ (coded× span.the_row.coded ident.the_row.coded) (coded⊎ (coded× type_name.the_row.coded (coded× span.the_row.coded span.the_row.coded)) (coded⊎ (coded× coded_type (coded× span.the_row.coded span.the_row.coded)) (coded× (coded_option key.the_row.coded) maybe_span))))))))

pattern abbrev expr_form : ℕ → List Span → ExprLabel
expr_form n places = inl (n, places)

pattern abbrev integer_of : ℕ → Span → ExprLabel
integer_of n s = inr (inl (n, s))

pattern abbrev text_of : TextLiteral → ExprLabel
text_of l = inr (inr (inl l))

pattern abbrev name_of : Ident → ExprLabel
name_of n = inr (inr (inr (inl n)))

pattern abbrev operator_of : ℕ → Operator → Span → ExprLabel
operator_of n o s = inr (inr (inr (inr (inl (n, (o, s))))))

pattern abbrev selector_of : Span → Ident → ExprLabel
selector_of s n = inr (inr (inr (inr (inr (inl (s, n))))))

pattern abbrev literal_of : TypeName → Span → Span → ExprLabel
literal_of n s e = inr (inr (inr (inr (inr (inr (inl (n, (s, e))))))))

pattern abbrev struct_literal_of : TypeTree → Span → Span → ExprLabel
struct_literal_of t s e = inr (inr (inr (inr (inr (inr (inr (inl (t, (s, e)))))))))

pattern abbrev item_of : Option Key → Option Span → ExprLabel
item_of k comma = inr (inr (inr (inr (inr (inr (inr (inr (k, comma))))))))

abbrev mutual
  expr_labels : ExprTree → Labels ExprLabel
  expr_labels (Integer n s) = Node (integer_of n s) End End
  expr_labels (Text l) = Node (text_of l) End End
  expr_labels (Named n) = Node (name_of n) End End
  expr_labels (Paren s x e) = Node (expr_form 0 (s ∷ e ∷ [])) (expr_labels x) End
  expr_labels (Unary o s x) = Node (operator_of 1 o s) (expr_labels x) End
  expr_labels (Binary x o s y) = Node (operator_of 2 o s) (expr_labels x) (expr_labels y)
  expr_labels (Select x s n) = Node (selector_of s n) (expr_labels x) End
  expr_labels (Call x s xs e) = Node (expr_form 1 (s ∷ e ∷ [])) (expr_labels x) (items_labels xs)
  expr_labels (Literal n s xs e) = Node (literal_of n s e) (items_labels xs) End
  expr_labels (StructLiteral t s xs e) = Node (struct_literal_of t s e) (items_labels xs) End

  items_labels : ItemTrees → Labels ExprLabel
  items_labels NoItems = End
  items_labels (Item k x comma xs) = Node (item_of k comma) (expr_labels x) (items_labels xs)

abbrev mutual
  expr_in : Labels ExprLabel → ExprTree
  expr_in (Node (integer_of n s) a b) = Integer n s
  expr_in (Node (text_of l) a b) = Text l
  expr_in (Node (name_of n) a b) = Named n
  expr_in (Node (expr_form zero (s ∷ e ∷ [])) a b) = Paren s (expr_in a) e
  expr_in (Node (expr_form (suc zero) (s ∷ e ∷ [])) a b) = Call (expr_in a) s (items_in b) e
  expr_in (Node (operator_of (suc zero) o s) a b) = Unary o s (expr_in a)
  expr_in (Node (operator_of (suc (suc zero)) o s) a b) = Binary (expr_in a) o s (expr_in b)
  expr_in (Node (selector_of s n) a b) = Select (expr_in a) s n
  expr_in (Node (literal_of n s e) a b) = Literal n s (items_in a) e
  expr_in (Node (struct_literal_of t s e) a b) = StructLiteral t s (items_in a) e
  expr_in _ = Integer 0 no_span

  items_in : Labels ExprLabel → ItemTrees
  items_in (Node (item_of k comma) a b) = Item k (expr_in a) comma (items_in b)
  items_in _ = NoItems

mutual
  pub expr_back : (x : ExprTree) → expr_in (expr_labels x) ≡ x
  expr_back (Integer n s) = refl
  expr_back (Text l) = refl
  expr_back (Named n) = refl
  expr_back (Paren s x e) = λ i. Paren s (expr_back x i) e
  expr_back (Unary o s x) = λ i. Unary o s (expr_back x i)
  expr_back (Binary x o s y) = λ i. Binary (expr_back x i) o s (expr_back y i)
  expr_back (Select x s n) = λ i. Select (expr_back x i) s n
  expr_back (Call x s xs e) = λ i. Call (expr_back x i) s (items_back xs i) e
  expr_back (Literal n s xs e) = λ i. Literal n s (items_back xs i) e
  expr_back (StructLiteral t s xs e) = λ i. StructLiteral t s (items_back xs i) e

  pub items_back : (xs : ItemTrees) → items_in (items_labels xs) ≡ xs
  items_back NoItems = refl
  items_back (Item k x comma xs) = λ i. Item k (expr_back x i) comma (items_back xs i)

abbrev pub coded_expr : Coded ExprTree
coded_expr = code_by (Labels ExprLabel) (coded_labels coded_expr_label) expr_labels expr_in expr_back

abbrev pub coded_exprs : Coded (Separated ExprTree)
coded_exprs = coded_separated coded_expr

-- declarations of constants, variables and types

module _ {A : Type 0} where
  abbrev specs_parts : Specs A → A ⊎ (Span × (List (A × Option Span) × Span))
  specs_parts (Single a) = inl a
  specs_parts (Group s ls e) = inr (s, (ls, e))

  abbrev specs_of_parts : A ⊎ (Span × (List (A × Option Span) × Span)) → Specs A
  specs_of_parts (inl a) = Single a
  specs_of_parts (inr p) = Group p.0 p.1.0 p.1.1

  pub specs_back : (x : Specs A) → specs_of_parts (specs_parts x) ≡ x
  specs_back (Single a) = refl
  specs_back (Group s ls e) = refl

  abbrev pub coded_specs : Coded A → Coded (Specs A)
  coded_specs c = code_by _ (coded⊎ c (coded× span.the_row.coded (coded× (coded_list (coded× c maybe_span)) span.the_row.coded))) specs_parts specs_of_parts specs_back

abbrev pub coded_value_spec : Coded ValueSpecTree
coded_value_spec = code_by (Separated Ident × (Option TypeTree × Option (Span × Separated ExprTree))) (coded× (coded_separated ident.the_row.coded) (coded× (coded_option coded_type) (coded_option (coded× span.the_row.coded coded_exprs)))) (λ v. (v.names, (v.type_expr, v.values))) (λ p. record { names = p.0; type_expr = p.1.0; values = p.1.1 }) (λ _. refl)

abbrev pub coded_value : Coded ValueTree
coded_value = code_by (ValueKind × (Span × Specs ValueSpecTree)) (coded× value_kind.the_row.coded (coded× span.the_row.coded (coded_specs coded_value_spec))) (λ v. (v.kind, (v.keyword, v.specs))) (λ p. record { kind = p.0; keyword = p.1.0; specs = p.1.1 }) (λ _. refl)

abbrev pub coded_type_spec : Coded TypeSpecTree
coded_type_spec = code_by (Ident × (Option Span × TypeTree)) (coded× ident.the_row.coded (coded× maybe_span coded_type)) (λ t. (t.name, (t.alias, t.type_expr))) (λ p. record { name = p.0; alias = p.1.0; type_expr = p.1.1 }) (λ _. refl)

abbrev pub coded_type_decl : Coded TypeDeclTree
coded_type_decl = code_by (Span × Specs TypeSpecTree) (coded× span.the_row.coded (coded_specs coded_type_spec)) (λ t. (t.keyword, t.specs)) (λ p. record { keyword = p.0; specs = p.1 }) (λ _. refl)

-- statements

abbrev SimpleParts : Type 0
SimpleParts = ExprTree ⊎ ((ExprTree × (Operator × Span)) ⊎ ((Separated ExprTree × (Span × Separated ExprTree)) ⊎ ((ExprTree × (Operator × (Span × ExprTree))) ⊎ (Separated Ident × (Span × Separated ExprTree)))))

abbrev simple_parts : SimpleTree → SimpleParts
simple_parts (Alone x) = inl x
simple_parts (Step x o s) = inr (inl (x, (o, s)))
simple_parts (Assign xs s ys) = inr (inr (inl (xs, (s, ys))))
simple_parts (Update x o s y) = inr (inr (inr (inl (x, (o, (s, y))))))
simple_parts (Define ns s ys) = inr (inr (inr (inr (ns, (s, ys)))))

abbrev simple_of_parts : SimpleParts → SimpleTree
simple_of_parts (inl x) = Alone x
simple_of_parts (inr (inl (x, (o, s)))) = Step x o s
simple_of_parts (inr (inr (inl (xs, (s, ys))))) = Assign xs s ys
simple_of_parts (inr (inr (inr (inl (x, (o, (s, y))))))) = Update x o s y
simple_of_parts (inr (inr (inr (inr (ns, (s, ys)))))) = Define ns s ys

pub simple_back : (s : SimpleTree) → simple_of_parts (simple_parts s) ≡ s
simple_back (Alone x) = refl
simple_back (Step x o s) = refl
simple_back (Assign xs s ys) = refl
simple_back (Update x o s y) = refl
simple_back (Define ns s ys) = refl

abbrev pub coded_simple : Coded SimpleTree
coded_simple = code_by SimpleParts (coded⊎ coded_expr (coded⊎ (coded× coded_expr (coded× operator.the_row.coded span.the_row.coded)) (coded⊎ (coded× coded_exprs (coded× span.the_row.coded coded_exprs)) (coded⊎ (coded× coded_expr (coded× operator.the_row.coded (coded× span.the_row.coded coded_expr))) (coded× (coded_separated ident.the_row.coded) (coded× span.the_row.coded coded_exprs)))))) simple_parts simple_of_parts simple_back

abbrev pub coded_if : Coded IfTree
coded_if = code_by (Option (Option SimpleTree × Span) × ExprTree) (coded× (coded_option (coded× (coded_option coded_simple) span.the_row.coded)) coded_expr) (λ h. (h.init, h.condition)) (λ p. record { init = p.0; condition = p.1 }) (λ _. refl)

abbrev ForParts : Type 0
ForParts = Option (ExprTree ⊎ (Option SimpleTree × (Span × (Option ExprTree × (Span × Option SimpleTree)))))

abbrev for_parts : ForTree → ForParts
for_parts Forever = None
for_parts (While x) = Some (inl x)
for_parts (Clauses a s x e b) = Some (inr (a, (s, (x, (e, b)))))

abbrev for_of_parts : ForParts → ForTree
for_of_parts None = Forever
for_of_parts (Some (inl x)) = While x
for_of_parts (Some (inr (a, (s, (x, (e, b)))))) = Clauses a s x e b

pub for_back : (h : ForTree) → for_of_parts (for_parts h) ≡ h
for_back Forever = refl
for_back (While x) = refl
for_back (Clauses a s x e b) = refl

abbrev pub coded_for : Coded ForTree
coded_for = code_by ForParts (coded_option (coded⊎ coded_expr (coded× (coded_option coded_simple) (coded× span.the_row.coded (coded× (coded_option coded_expr) (coded× span.the_row.coded (coded_option coded_simple))))))) for_parts for_of_parts for_back

abbrev StmtLabel : Type 0
StmtLabel = (ℕ × List Span) ⊎ (ValueTree ⊎ (SimpleTree ⊎ ((Span × Option (Separated ExprTree)) ⊎ ((ForTree × List Span) ⊎ ((IfTree × List Span) ⊎ Option Span)))))

abbrev coded_stmt_label : Coded StmtLabel
coded_stmt_label = coded⊎ (coded× coded_ℕ coded_places) (coded⊎ coded_value (coded⊎ coded_simple (coded⊎ (coded× span.the_row.coded (coded_option coded_exprs)) (coded⊎ (coded× coded_for coded_places) (coded⊎ (coded× coded_if coded_places) maybe_span)))))

pattern abbrev stmt_form : ℕ → List Span → StmtLabel
stmt_form n places = inl (n, places)

pattern abbrev value_of : ValueTree → StmtLabel
value_of v = inr (inl v)

pattern abbrev simple_of : SimpleTree → StmtLabel
simple_of s = inr (inr (inl s))

pattern abbrev return_of : Span → Option (Separated ExprTree) → StmtLabel
return_of s xs = inr (inr (inr (inl (s, xs))))

pattern abbrev for_of : ForTree → List Span → StmtLabel
for_of h places = inr (inr (inr (inr (inl (h, places)))))

pattern abbrev if_of : IfTree → List Span → StmtLabel
if_of h places = inr (inr (inr (inr (inr (inl (h, places))))))

pattern abbrev line_of : Option Span → StmtLabel
line_of semicolon = inr (inr (inr (inr (inr (inr semicolon)))))

abbrev mutual
  stmt_labels : StmtTree → Labels StmtLabel
  stmt_labels Empty = End
  stmt_labels (Declare v) = Node (value_of v) End End
  stmt_labels (Simple s) = Node (simple_of s) End End
  stmt_labels (Return s xs) = Node (return_of s xs) End End
  stmt_labels (Break s) = Node (stmt_form 0 (s ∷ [])) End End
  stmt_labels (Continue s) = Node (stmt_form 1 (s ∷ [])) End End
  stmt_labels (Block s ls e) = Node (stmt_form 2 (s ∷ e ∷ [])) (lines_labels ls) End
  stmt_labels (If b) = Node (stmt_form 3 []) (branch_labels b) End
  stmt_labels (For k h s ls e) = Node (for_of h (k ∷ s ∷ e ∷ [])) (lines_labels ls) End

  branch_labels : BranchTree → Labels StmtLabel
  branch_labels (Branch k h s ls e o) = Node (if_of h (k ∷ s ∷ e ∷ [])) (lines_labels ls) (else_labels o)

  else_labels : ElseTree → Labels StmtLabel
  else_labels NoElse = End
  else_labels (ElseBlock k s ls e) = Node (stmt_form 0 (k ∷ s ∷ e ∷ [])) (lines_labels ls) End
  else_labels (ElseIf k b) = Node (stmt_form 1 (k ∷ [])) (branch_labels b) End

  lines_labels : Lines → Labels StmtLabel
  lines_labels NoLines = End
  lines_labels (Line s semicolon ls) = Node (line_of semicolon) (stmt_labels s) (lines_labels ls)

abbrev no_if : IfTree
no_if = record { init = None; condition = Integer 0 no_span }

abbrev mutual
  stmt_in : Labels StmtLabel → StmtTree
  stmt_in (Node (value_of v) a b) = Declare v
  stmt_in (Node (simple_of s) a b) = Simple s
  stmt_in (Node (return_of s xs) a b) = Return s xs
  stmt_in (Node (stmt_form zero (s ∷ [])) a b) = Break s
  stmt_in (Node (stmt_form (suc zero) (s ∷ [])) a b) = Continue s
  stmt_in (Node (stmt_form (suc (suc zero)) (s ∷ e ∷ [])) a b) = Block s (lines_in a) e
  stmt_in (Node (stmt_form (suc (suc (suc zero))) []) a b) = If (branch_in a)
  stmt_in (Node (for_of h (k ∷ s ∷ e ∷ [])) a b) = For k h s (lines_in a) e
  stmt_in _ = Empty

  branch_in : Labels StmtLabel → BranchTree
  branch_in (Node (if_of h (k ∷ s ∷ e ∷ [])) a b) = Branch k h s (lines_in a) e (else_in b)
  branch_in _ = Branch no_span no_if no_span NoLines no_span NoElse

  else_in : Labels StmtLabel → ElseTree
  else_in (Node (stmt_form zero (k ∷ s ∷ e ∷ [])) a b) = ElseBlock k s (lines_in a) e
  else_in (Node (stmt_form (suc zero) (k ∷ [])) a b) = ElseIf k (branch_in a)
  else_in _ = NoElse

  lines_in : Labels StmtLabel → Lines
  lines_in (Node (line_of semicolon) a b) = Line (stmt_in a) semicolon (lines_in b)
  lines_in _ = NoLines

mutual
  pub stmt_back : (s : StmtTree) → stmt_in (stmt_labels s) ≡ s
  stmt_back Empty = refl
  stmt_back (Declare v) = refl
  stmt_back (Simple s) = refl
  stmt_back (Return s xs) = refl
  stmt_back (Break s) = refl
  stmt_back (Continue s) = refl
  stmt_back (Block s ls e) = λ i. Block s (lines_back ls i) e
  stmt_back (If b) = λ i. If (branch_back b i)
  stmt_back (For k h s ls e) = λ i. For k h s (lines_back ls i) e

  pub branch_back : (b : BranchTree) → branch_in (branch_labels b) ≡ b
  branch_back (Branch k h s ls e o) = λ i. Branch k h s (lines_back ls i) e (else_back o i)

  pub else_back : (o : ElseTree) → else_in (else_labels o) ≡ o
  else_back NoElse = refl
  else_back (ElseBlock k s ls e) = λ i. ElseBlock k s (lines_back ls i) e
  else_back (ElseIf k b) = λ i. ElseIf k (branch_back b i)

  pub lines_back : (ls : Lines) → lines_in (lines_labels ls) ≡ ls
  lines_back NoLines = refl
  lines_back (Line s semicolon ls) = λ i. Line (stmt_back s i) semicolon (lines_back ls i)

abbrev pub coded_lines : Coded Lines
coded_lines = code_by (Labels StmtLabel) (coded_labels coded_stmt_label) lines_labels lines_in lines_back

-- functions, imports and files

abbrev pub coded_func : Coded FuncTree
coded_func = code_by (Span × (Option Receiver × (Ident × (SignatureTree × (Span × (Lines × Span)))))) (coded× span.the_row.coded (coded× (coded_option receiver.the_row.coded) (coded× ident.the_row.coded (coded× coded_signature (coded× span.the_row.coded (coded× coded_lines span.the_row.coded)))))) (λ f. (f.func, (f.receiver, (f.name, (f.signature, (f.open_brace, (f.body, f.close_brace))))))) (λ p. record { func = p.0; receiver = p.1.0; name = p.1.1.0; signature = p.1.1.1.0; open_brace = p.1.1.1.1.0; body = p.1.1.1.1.1.0; close_brace = p.1.1.1.1.1.1 }) (λ _. refl)

abbrev decl_parts : DeclTree → ValueTree ⊎ (TypeDeclTree ⊎ FuncTree)
decl_parts (Value v) = inl v
decl_parts (Types t) = inr (inl t)
decl_parts (Func f) = inr (inr f)

abbrev decl_of_parts : ValueTree ⊎ (TypeDeclTree ⊎ FuncTree) → DeclTree
decl_of_parts (inl v) = Value v
decl_of_parts (inr (inl t)) = Types t
decl_of_parts (inr (inr f)) = Func f

pub decl_back : (d : DeclTree) → decl_of_parts (decl_parts d) ≡ d
decl_back (Value v) = refl
decl_back (Types t) = refl
decl_back (Func f) = refl

abbrev pub coded_decl : Coded DeclTree
coded_decl = code_by _ (coded⊎ coded_value (coded⊎ coded_type_decl coded_func)) decl_parts decl_of_parts decl_back

abbrev pub coded_top : Coded TopTree
coded_top = code_by (DeclTree × Span) (coded× coded_decl span.the_row.coded) (λ d. (d.decl, d.semicolon)) (λ p. record { decl = p.0; semicolon = p.1 }) (λ _. refl)

abbrev pub coded_import_spec : Coded ImportSpecTree
coded_import_spec = code_by (ImportName × TextLiteral) (coded× import_name.the_row.coded text_literal.the_row.coded) (λ s. (s.name, s.path)) (λ p. record { name = p.0; path = p.1 }) (λ _. refl)

abbrev pub coded_import : Coded ImportTree
coded_import = code_by (Span × (Specs ImportSpecTree × Span)) (coded× span.the_row.coded (coded× (coded_specs coded_import_spec) span.the_row.coded)) (λ m. (m.keyword, (m.specs, m.semicolon))) (λ p. record { keyword = p.0; specs = p.1.0; semicolon = p.1.1 }) (λ _. refl)

abbrev pub coded_file : Coded FileTree
coded_file = code_by (Span × (Ident × (Span × (List ImportTree × List TopTree)))) (coded× span.the_row.coded (coded× ident.the_row.coded (coded× span.the_row.coded (coded× (coded_list coded_import) (coded_list coded_top))))) (λ f. (f.clause, (f.name, (f.semicolon, (f.imports, f.decls))))) (λ p. record { clause = p.0; name = p.1.0; semicolon = p.1.1.0; imports = p.1.1.1.0; decls = p.1.1.1.1 }) (λ _. refl)
