-- The identifiers that are used in what the program keeps in lists.
use Rattle.std.proofs.Common.{◌≡◌, ℕ, ◌+◌, List, [], ◌∷◌, ◌++◌, map, refl, sym, ap, append-nil, append_assoc}
use Rattle.std.specs.List.{flat_map}
use Rattle.go_tree_nodes.specs.declared.types.FieldLine.{FieldLine}
use Rattle.go_tree_nodes.specs.declared.types.Fields.{Fields}
use Rattle.go_tree_nodes.specs.declared.types.Fields.TheVariants as fields
use Rattle.go_tree_nodes.specs.declared.types.MethodLine.{MethodLine, out-MethodLine, is-MethodLine'}
use Rattle.go_tree_nodes.specs.declared.types.«Param» as declared_param
use Rattle.go_tree_nodes.specs.declared.exprs.Expr.{Expr}
use Rattle.go_tree_nodes.specs.declared.exprs.«Item» as declared_item
use Rattle.go_tree_nodes.specs.declared.exprs.NextExpr.{NextExpr}
use Rattle.go_tree_nodes.specs.declared.decls.ValueLine.{ValueLine}
use Rattle.go_tree_nodes.specs.declared.decls.TypeLine.{TypeLine}
use Rattle.go_tree_nodes.specs.TypeShapes.{shape_type, shape_signature, fields_before, fields_of, method_before, methods_of, params_of}
use Rattle.go_tree_nodes.specs.Shapes.{shape, shape_key, items_of, exprs_from, shape_value_line, shape_type_line, shape_value_spec}
use Rattle.go_expr_core.specs.denote_core.declared.things.Stand.TheVariants as stands
use Rattle.go_cursor_core.specs.Used.{Used, LiteralType, fields_used, methods_used, signature_used, params_used, type_used, key_used, expr_used, args_used, elements_used, exprs_used, target_used, targets_used, spec_used}
use Rattle.go_cursor_core.specs.mirrors.Lines.{line_used}

-- of types

abbrev pub lines_used : ℕ → List FieldLine → List Used
lines_used n ls = fields_used (fields_of ls)

abbrev pub one_line : ℕ → FieldLine → List Used
one_line n l = line_used l.fields

pub lines_first : (n : ℕ) (l : FieldLine) (ls : List FieldLine) → lines_used n (l ∷ ls) ≡ one_line n l ++ lines_used (n + 1) ls
lines_first n l ls = before l.fields
  where
    before : (f : Fields) → fields_used (fields_before f l.tag l.semicolon (fields_of ls)) ≡ line_used f ++ fields_used (fields_of ls)
    before (fields.Named xs t) = refl
    before (fields.Embedded star n) = refl

abbrev pub listed_methods : ℕ → List MethodLine → List Used
listed_methods n ms = methods_used (methods_of ms)

abbrev pub one_method : ℕ → MethodLine → List Used
one_method n m = signature_used (shape_signature (out-MethodLine m).signature)

pub methods_first : (n : ℕ) (m : MethodLine) (ms : List MethodLine) → listed_methods n (m ∷ ms) ≡ one_method n m ++ listed_methods (n + 1) ms
methods_first n m ms = ap (λ m. methods_used (method_before m (methods_of ms))) (is-MethodLine' m)

abbrev pub listed_params : ℕ → List declared_param.Param → List Used
listed_params n ps = params_used (params_of ps)

abbrev pub one_param : ℕ → declared_param.Param → List Used
one_param n p = type_used (shape_type p.type_expr)

pub params_first : (n : ℕ) (p : declared_param.Param) (ps : List declared_param.Param) → listed_params n (p ∷ ps) ≡ one_param n p ++ listed_params (n + 1) ps
params_first n p ps = refl

-- of expressions

abbrev pub listed_args : ℕ → List declared_item.Item → List Used
listed_args n is = args_used (items_of is)

abbrev pub one_arg : ℕ → declared_item.Item → List Used
one_arg n i = expr_used stands.«Value» (shape i.value)

pub args_first : (n : ℕ) (i : declared_item.Item) (is : List declared_item.Item) → listed_args n (i ∷ is) ≡ one_arg n i ++ listed_args (n + 1) is
args_first n i is = refl

module _ (of_type : LiteralType) (all : List declared_item.Item) where
  abbrev pub listed_elements : ℕ → List declared_item.Item → List Used
  listed_elements n is = elements_used of_type (items_of all) n (items_of is)

  abbrev pub one_element : ℕ → declared_item.Item → List Used
  one_element n i = key_used of_type (items_of all) n (shape_key i.key) ++ expr_used stands.«Value» (shape i.value)

  pub elements_first : (n : ℕ) (i : declared_item.Item) (is : List declared_item.Item) → listed_elements n (i ∷ is) ≡ one_element n i ++ listed_elements (n + 1) is
  elements_first n i is = sym (append_assoc (key_used of_type (items_of all) n (shape_key i.key)) (expr_used stands.«Value» (shape i.value)) (listed_elements (n + 1) is))

abbrev pub one_next : ℕ → NextExpr → List Used
one_next n x = expr_used stands.«Value» (shape x.expr)

abbrev pub listed_next : ℕ → List NextExpr → List Used
listed_next n xs = flat_map (one_next 0) xs

pub exprs_list : (e : Expr) (ns : List NextExpr) → exprs_used (exprs_from e ns) ≡ expr_used stands.«Value» (shape e) ++ listed_next 0 ns
exprs_list e [] = simp append-nil
exprs_list e (n ∷ ns) = ap (λ l. expr_used stands.«Value» (shape e) ++ l) (exprs_list n.expr ns)

abbrev pub one_target : ℕ → NextExpr → List Used
one_target n x = target_used (shape x.expr)

abbrev pub listed_targets : ℕ → List NextExpr → List Used
listed_targets n xs = flat_map (one_target 0) xs

pub targets_list : (e : Expr) (ns : List NextExpr) → targets_used (exprs_from e ns) ≡ target_used (shape e) ++ listed_targets 0 ns
targets_list e [] = simp append-nil
targets_list e (n ∷ ns) = ap (λ l. target_used (shape e) ++ l) (targets_list n.expr ns)

-- of specifications in parentheses

abbrev pub listed_specs : ℕ → List ValueLine → List Used
listed_specs n ls = flat_map (λ l. spec_used l.0) (map shape_value_line ls)

abbrev pub one_spec : ℕ → ValueLine → List Used
one_spec n l = spec_used (shape_value_spec l.spec)

abbrev pub listed_types : ℕ → List TypeLine → List Used
listed_types n ls = flat_map (λ l. type_used l.0.type_expr) (map shape_type_line ls)

abbrev pub one_type : ℕ → TypeLine → List Used
one_type n l = type_used (shape_type l.spec.type_expr)
