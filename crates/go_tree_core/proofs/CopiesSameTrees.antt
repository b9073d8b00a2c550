-- Lists whose elements have the trees of other elements, with other identifiers, have the tree of that list with these.
use Rattle.std.proofs.Common.{◌≡◌, ℕ, ◌+◌, ◌<◌, ◌≤◌, List, [], ◌∷◌, ◌++◌, length, get_or, take, map, Ok, Err, refl, ap, sym, ◌∙◌, subst}
use Rattle.std.specs.Prelude.{IfOk}
use Rattle.std.specs.Global.{Box}
use Rattle.std.specs.declared.result.Result.{Result}
use Rattle.std.proofs.lemmas.List.{take_all, map_more, map-append}
use Rattle.go_tree_nodes.specs.text_core.declared.span.Span.{Span}
use Rattle.go_tree_nodes.specs.declared.names.Ident.{Ident}
use Rattle.go_tree_nodes.specs.declared.names.NextIdent.{NextIdent}
use Rattle.go_tree_nodes.specs.declared.types.FieldLine.{FieldLine}
use Rattle.go_tree_nodes.specs.declared.types.Fields.{Fields}
use Rattle.go_tree_nodes.specs.declared.types.Fields.TheVariants as fields
use Rattle.go_tree_nodes.specs.declared.types.MethodLine.{MethodLine, MethodLine'}
use Rattle.go_tree_nodes.specs.declared.types.«Param» as declared_param
use Rattle.go_tree_nodes.specs.declared.exprs.Expr.{Expr}
use Rattle.go_tree_nodes.specs.declared.exprs.«Item» as declared_item
use Rattle.go_tree_nodes.specs.declared.exprs.NextExpr.{NextExpr}
use Rattle.go_tree_nodes.specs.declared.stmts.«Line» as declared_line
use Rattle.go_tree_nodes.specs.Trees.{Separated, One, Then, FieldTrees, NoFields, NamedFields, EmbeddedField, MethodTrees, NoMethods, Method, ParamTrees, NoParams, Param, ExprTree, ItemTrees, NoItems, Item, Lines, NoLines, Line, DeclTree, TopTree}
use Rattle.go_tree_nodes.specs.TypeShapes.{idents_from, shape_names, shape_type, fields_before, fields_of, method_before, methods_of, params_of}
use Rattle.go_tree_nodes.specs.Shapes.{shape_key, shape, items_of, exprs_from, shape_stmt, lines_of}
use Rattle.go_tree_core.specs.copies.Respelled.{separated_with, fields_with, methods_with, params_with, expr_with, items_with, exprs_with, lines_with}

-- a loop that adds what an element becomes
module _ {X : Type 0} (other : X → X) where
  pub one_kept : (copies more xs : List X) (i : ℕ) (x y : X) → i < length xs → x ≡ get_or xs i x → more ≡ copies ++ y ∷ [] → y ≡ other x → copies ≡ map other (take i xs) → more ≡ map other (take (i + 1) xs)
  one_kept copies more xs i x y lt is pushed same before =
      pushed ∙ ap (λ l. l ++ y ∷ []) before ∙ ap (λ z. map other (take i xs) ++ z ∷ []) (same ∙ ap other is) ∙ sym (map_more other xs i x lt)

  pub all_kept : (copies items xs : List X) (i : ℕ) → items ≡ xs → length items ≤ i → copies ≡ map other (take i items) → copies ≡ map other xs
  all_kept copies items xs i is h before = before ∙ ap (map other) (take_all i items h ∙ is)

fused : {X T : Type 0} (w : T → T) (tree : X → T) (xs : List X) → map (λ x. w (tree x)) xs ≡ map w (map tree xs)
fused w tree [] = refl
fused w tree (x ∷ xs) = ap (λ l. w (tree x) ∷ l) (fused w tree xs)

-- a loop that adds an element with the tree that another's becomes
module _ {X T : Type 0} (w : T → T) (tree : X → T) where
  pub one_copied : (copies more xs : List X) (i : ℕ) (x y : X) → i < length xs → x ≡ get_or xs i x → more ≡ copies ++ y ∷ [] → tree y ≡ w (tree x) → map tree copies ≡ map (λ x. w (tree x)) (take i xs) → map tree more ≡ map (λ x. w (tree x)) (take (i + 1) xs)
  one_copied copies more xs i x y lt is pushed same before =
      ap (map tree) pushed ∙ map-append tree copies (y ∷ []) ∙ ap (λ l. l ++ tree y ∷ []) before ∙ ap (λ t. map (λ x. w (tree x)) (take i xs) ++ t ∷ []) (same ∙ ap (λ x. w (tree x)) is) ∙ sym (map_more (λ x. w (tree x)) xs i x lt)

  pub all_copied : (copies items xs : List X) (i : ℕ) → items ≡ xs → length items ≤ i → map tree copies ≡ map (λ x. w (tree x)) (take i items) → map tree copies ≡ map w (map tree xs)
  all_copied copies items xs i is h before = before ∙ ap (map (λ x. w (tree x))) (take_all i items h ∙ is) ∙ fused w tree xs

-- what holds of a copy where one was made
pub of_made : {X E : Type 0} (P : X → Type 0) (r : Result X E) (x : X) → r ≡ Ok x → IfOk r P → P x
of_made P r x e h = subst (λ r. IfOk r P) e h

-- what is put into a box, where there was memory for one
pub of_boxed : {X E T : Type 0} (tree : X → T) (t : T) (x : X) (r : Result (Box X) E) → IfOk r (λ b. b.value ≡ x) → tree x ≡ t → IfOk r (λ b. tree b.value ≡ t)
of_boxed tree t x (Ok b) same e = ap tree same ∙ e
of_boxed tree t x (Err error) same e = same

-- the tree of a list from the trees of its elements
module _ {X T : Type 0} (whole : List X → T) (before : T → T → T) (w : T → T) (step : (x : X) (xs : List X) → whole (x ∷ xs) ≡ before (whole (x ∷ [])) (whole xs)) (none : w (whole []) ≡ whole []) (more : (t rest : T) → w (before t rest) ≡ before (w t) (w rest)) where
  abbrev joined : List T → T
  joined [] = whole []
  joined (t ∷ ts) = before t (joined ts)

  joined_is : (xs : List X) → whole xs ≡ joined (map (λ x. whole (x ∷ [])) xs)
  joined_is [] = refl
  joined_is (x ∷ xs) = step x xs ∙ ap (before (whole (x ∷ []))) (joined_is xs)

  joined_with : (ts : List T) → w (joined ts) ≡ joined (map w ts)
  joined_with [] = none
  joined_with (t ∷ ts) = more t (joined ts) ∙ ap (before (w t)) (joined_with ts)

  same_whole : (xs ys : List X) → map (λ x. whole (x ∷ [])) xs ≡ map w (map (λ x. whole (x ∷ [])) ys) → whole xs ≡ w (whole ys)
  same_whole xs ys e = joined_is xs ∙ ap joined e ∙ sym (joined_with (map (λ x. whole (x ∷ [])) ys)) ∙ sym (ap w (joined_is ys))

-- names

abbrev pub next_ident : Span → Ident → NextIdent
next_ident comma x = record { comma = comma; ident = x }

-- the next name, as it is written in the copy
abbrev pub other_next : (Ident → Ident) → NextIdent → NextIdent
other_next h n = next_ident n.comma (h n.ident)

pub same_idents : (h : Ident → Ident) (x : Ident) (ns : List NextIdent) → idents_from (h x) (map (other_next h) ns) ≡ separated_with h (idents_from x ns)
same_idents h x [] = refl
same_idents h x (n ∷ ns) = ap (Then (h x) n.comma) (same_idents h n.ident ns)

-- the lines of a struct type

abbrev pub field_tree : FieldLine → FieldTrees
field_tree l = fields_before l.fields l.tag l.semicolon NoFields

abbrev fields_first : FieldTrees → FieldTrees → FieldTrees
fields_first NoFields rest = rest
fields_first (NamedFields xs t tag s _) rest = NamedFields xs t tag s rest
fields_first (EmbeddedField star n tag s _) rest = EmbeddedField star n tag s rest

fields_step : (f : Fields) (tag : _) (s : _) (rest : FieldTrees) → fields_before f tag s rest ≡ fields_first (fields_before f tag s NoFields) rest
fields_step (fields.Named xs t) tag s rest = refl
fields_step (fields.Embedded star n) tag s rest = refl

fields_more : (h : Ident → Ident) (t rest : FieldTrees) → fields_with h (fields_first t rest) ≡ fields_first (fields_with h t) (fields_with h rest)
fields_more h NoFields rest = refl
fields_more h (NamedFields xs t tag s _) rest = refl
fields_more h (EmbeddedField star n tag s _) rest = refl

pub same_fields : (h : Ident → Ident) (ls ms : List FieldLine) → map field_tree ls ≡ map (fields_with h) (map field_tree ms) → fields_of ls ≡ fields_with h (fields_of ms)
same_fields h = same_whole fields_of fields_first (fields_with h) (λ l ls. fields_step l.fields l.tag l.semicolon (fields_of ls)) refl (fields_more h)

-- the methods of an interface type

abbrev pub method_tree : MethodLine → MethodTrees
method_tree m = method_before m NoMethods

abbrev methods_first : MethodTrees → MethodTrees → MethodTrees
methods_first NoMethods rest = rest
methods_first (Method x signature s _) rest = Method x signature s rest

methods_step : (m : MethodLine) (rest : MethodTrees) → method_before m rest ≡ methods_first (method_tree m) rest
methods_step (MethodLine' x signature s) rest = refl

methods_more : (h : Ident → Ident) (t rest : MethodTrees) → methods_with h (methods_first t rest) ≡ methods_first (methods_with h t) (methods_with h rest)
methods_more h NoMethods rest = refl
methods_more h (Method x signature s _) rest = refl

pub same_methods : (h : Ident → Ident) (ls ms : List MethodLine) → map method_tree ls ≡ map (methods_with h) (map method_tree ms) → methods_of ls ≡ methods_with h (methods_of ms)
same_methods h = same_whole methods_of methods_first (methods_with h) (λ m ms. methods_step m (methods_of ms)) refl (methods_more h)

-- the entries of a parameter list

abbrev pub param_tree : declared_param.Param → ParamTrees
param_tree p = Param (shape_names p.names) (shape_type p.type_expr) p.comma NoParams

abbrev params_first : ParamTrees → ParamTrees → ParamTrees
params_first NoParams rest = rest
params_first (Param xs t comma _) rest = Param xs t comma rest

params_more : (h : Ident → Ident) (t rest : ParamTrees) → params_with h (params_first t rest) ≡ params_first (params_with h t) (params_with h rest)
params_more h NoParams rest = refl
params_more h (Param xs t comma _) rest = refl

pub same_params : (h : Ident → Ident) (ps qs : List declared_param.Param) → map param_tree ps ≡ map (params_with h) (map param_tree qs) → params_of ps ≡ params_with h (params_of qs)
same_params h = same_whole params_of params_first (params_with h) (λ p ps. refl) refl (params_more h)

-- arguments and elements

abbrev pub item_tree : declared_item.Item → ItemTrees
item_tree i = Item (shape_key i.key) (shape i.value) i.comma NoItems

abbrev items_first : ItemTrees → ItemTrees → ItemTrees
items_first NoItems rest = rest
items_first (Item key t comma _) rest = Item key t comma rest

items_more : (h : Ident → Ident) (t rest : ItemTrees) → items_with h (items_first t rest) ≡ items_first (items_with h t) (items_with h rest)
items_more h NoItems rest = refl
items_more h (Item key t comma _) rest = refl

pub same_items : (h : Ident → Ident) (is js : List declared_item.Item) → map item_tree is ≡ map (items_with h) (map item_tree js) → items_of is ≡ items_with h (items_of js)
same_items h = same_whole items_of items_first (items_with h) (λ i is. refl) refl (items_more h)

-- expressions with commas between them

abbrev pub next_expr : NextExpr → Span × ExprTree
next_expr n = (n.comma, shape n.expr)

abbrev with_next : ExprTree → List (Span × ExprTree) → Separated ExprTree
with_next t [] = One t
with_next t (n ∷ ns) = Then t n.0 (with_next n.1 ns)

with_next_is : (e : Expr) (ns : List NextExpr) → exprs_from e ns ≡ with_next (shape e) (map next_expr ns)
with_next_is e [] = refl
with_next_is e (n ∷ ns) = ap (Then (shape e) n.comma) (with_next_is n.expr ns)

-- an expression behind a comma, as it is written in the copy
abbrev pub other_expr : (Ident → Ident) → Span × ExprTree → Span × ExprTree
other_expr h n = (n.0, expr_with h n.1)

with_next_more : (h : Ident → Ident) (t : ExprTree) (ns : List (Span × ExprTree)) → exprs_with h (with_next t ns) ≡ with_next (expr_with h t) (map (other_expr h) ns)
with_next_more h t [] = refl
with_next_more h t (n ∷ ns) = ap (Then (expr_with h t) n.0) (with_next_more h n.1 ns)

pub same_exprs : (h : Ident → Ident) (e f : Expr) (ns ms : List NextExpr) → shape e ≡ expr_with h (shape f) → map next_expr ns ≡ map (other_expr h) (map next_expr ms) → exprs_from e ns ≡ exprs_with h (exprs_from f ms)
same_exprs h e f ns ms first more =
    with_next_is e ns ∙ ap (λ t. with_next t (map next_expr ns)) first ∙ ap (with_next (expr_with h (shape f))) more ∙ sym (with_next_more h (shape f) (map next_expr ms)) ∙ sym (ap (exprs_with h) (with_next_is f ms))

-- the lines of a block

abbrev pub line_tree : declared_line.Line → Lines
line_tree l = Line (shape_stmt l.stmt) l.semicolon NoLines

abbrev lines_first : Lines → Lines → Lines
lines_first NoLines rest = rest
lines_first (Line c s _) rest = Line c s rest

lines_more : (h : Ident → Ident) (t rest : Lines) → lines_with h (lines_first t rest) ≡ lines_first (lines_with h t) (lines_with h rest)
lines_more h NoLines rest = refl
lines_more h (Line c s _) rest = refl

pub same_lines : (h : Ident → Ident) (ls ms : List declared_line.Line) → map line_tree ls ≡ map (lines_with h) (map line_tree ms) → lines_of ls ≡ lines_with h (lines_of ms)
same_lines h = same_whole lines_of lines_first (lines_with h) (λ l ls. refl) refl (lines_more h)

-- declarations of the package block

abbrev pub top_tree : Span → DeclTree → TopTree
top_tree semicolon d = record { decl = d; semicolon = semicolon }
