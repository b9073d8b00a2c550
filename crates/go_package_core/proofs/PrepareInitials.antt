-- What a name of a specification stands for takes of the rules of types what they make of those that the specification writes.
use Rattle.std.proofs.Common.{◌≡◌, ℕ, List, [], ◌∷◌, ◌++◌, refl, ap, ◌∙◌}
use Rattle.std.specs.Prelude.{Option, Some, None, slice_index_or}
use Rattle.go_path_core.specs.text_core.declared.span.Span.{Span}
use Rattle.go_tree_nodes.specs.declared.names.Ident.{Ident}
use Rattle.go_tree_nodes.specs.declared.decls.ValueKind.{ValueKind}
use Rattle.go_tree_nodes.specs.Trees.{Separated, One, Then, TypeTree, ExprTree, ValueSpecTree}
use Rattle.go_tree_nodes.specs.WrittenTypes.{expr_types, exprs_types, values_types, spec_types, some_type}
use Rattle.go_report_core.specs.denote_core.declared.things.Stand.TheVariants as stands
use Rattle.go_report_core.specs.denote_core.Arguments.{arguments_of}
use Rattle.go_report_core.specs.expr_core.Looks.{Looks, WrittenRules, look_of_place}
use Rattle.go_report_core.specs.expr_core.Denoting.{denoted}
use Rattle.go_report_core.specs.expr_core.Lists.{denoted_exprs}
use Rattle.go_report_core.specs.expr_core.Laws.{AgreeOnIdents}
use Rattle.go_report_core.specs.expr_core.Locality.{SameWritten, seeing}
use Rattle.go_report_core.specs.expr_core.Alike.{expressions_seen}
use Rattle.go_value_core.specs.Initial.{spec_name_count, initial, list_start, some_written_type, values_given, values_of}
use Rattle.go_tree_nodes.specs.Idents.{expr_idents}

module _ {T S D P : Type 0} (looks : Looks T S D P) (written : WrittenRules T) where
  abbrev other : Looks T S D P
  other = seeing looks.find written looks

  abbrev Makes : List TypeTree → Type 0
  Makes ts = SameWritten looks other ts

  pub makes_left : (ts us : List TypeTree) → Makes (ts ++ us) → Makes ts
  makes_left [] us h = tt
  makes_left (t ∷ ts) us h = (h.0, makes_left ts us h.1)

  pub makes_right : (ts us : List TypeTree) → Makes (ts ++ us) → Makes us
  makes_right [] us h = h
  makes_right (t ∷ ts) us h = makes_right ts us h.1

  agrees : (xs : List Ident) → AgreeOnIdents looks.find looks.find xs
  agrees [] = tt
  agrees (x ∷ xs) = (refl, agrees xs)

  expr_same : (e : ExprTree) → Makes (expr_types e) → denoted looks stands.«Value» e ≡ denoted other stands.«Value» e
  expr_same e h = ((expressions_seen T S D P).whole looks looks.find written stands.«Value» e (agrees (expr_idents e)) h).denoted

  exprs_same : (es : Separated ExprTree) → Makes (exprs_types es) → denoted_exprs looks es ≡ denoted_exprs other es
  exprs_same (One e) h = ap (λ d. d ∷ []) (expr_same e h)
  exprs_same (Then e comma more) h =
      ap (λ d. d ∷ denoted_exprs looks more) (expr_same e (makes_left (expr_types e) (exprs_types more) h))
      ∙ ap (λ l. denoted other stands.«Value» e ∷ l) (exprs_same more (makes_right (expr_types e) (exprs_types more) h))

  values_same : (vs : Option (Span × Separated ExprTree)) → Makes (values_types vs) → values_given looks vs ≡ values_given other vs
  values_same None h = refl
  values_same (Some v) h = ap (arguments_of (look_of_place looks (list_start v.1))) (exprs_same v.1 h)

  type_same : (t : Option TypeTree) → Makes (some_type t) → some_written_type looks t ≡ some_written_type other t
  type_same None h = refl
  type_same (Some t) h = ap Some h.0.type_of

  pub initial_seen : (k : ValueKind) (v : ValueSpecTree) (i : ℕ) → Makes (spec_types v) → initial looks k v i ≡ initial other k v i
  initial_seen k v i h =
      ap (λ w. slice_index_or (values_of looks.types k w (spec_name_count v) (values_given looks v.values)) i None) (type_same v.type_expr (makes_left (some_type v.type_expr) (values_types v.values) h))
      ∙ ap (λ g. slice_index_or (values_of looks.types k (some_written_type other v.type_expr) (spec_name_count v) g) i None) (values_same v.values (makes_right (some_type v.type_expr) (values_types v.values) h))
