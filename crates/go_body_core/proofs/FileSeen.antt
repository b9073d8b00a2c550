-- What the declarations of constants and variables have and break by a table of the types that they write is what they have and break with each
-- type as it is written.
use Rattle.std.proofs.Common.{◌≡◌, ℕ, List, [], ◌∷◌, ◌++◌, length, false, ◌<◌, Option, Some, None, refl, sym, ap, subst, arith}
use Rattle.std.specs.List.{flat_map}
use Rattle.std.proofs.lemmas.List.Elements.{Contains-append_left, Contains-append_right}
use Rattle.go_text_core.specs.declared.span.Span.{Span}
use Rattle.go_tree_nodes.specs.declared.names.Ident.{Ident}
use Rattle.go_tree_nodes.specs.declared.decls.ValueKind.{ValueKind}
use Rattle.go_tree_nodes.specs.declared.decls.ValueKind.TheVariants as kinds
use Rattle.go_tree_nodes.specs.Trees.{Separated, One, Then, TypeTree, ExprTree, ValueSpecTree, TypeSpecTree, Specs, Single, Group, ValueTree, TypeDeclTree, of_specs}
use Rattle.go_tree_nodes.specs.WrittenTypes.{expr_types, exprs_types, values_types, some_type, spec_types, specs_types}
use Rattle.go_term_core.specs.Terms.{Term, Sign}
use Rattle.go_handle_core.specs.Declarations.{Declaration}
use Rattle.go_local_core.specs.Steps.{Spec, Condition}
use Rattle.go_denote_core.specs.declared.things.Stand.TheVariants as stands
use Rattle.go_expr_core.specs.Places.{start}
use Rattle.go_expr_core.specs.Faults.{fault_at}
use Rattle.go_expr_core.specs.Denoting.{named_type}
use Rattle.go_expr_core.specs.Laws.{AgreeOnIdents}
use Rattle.go_expr_core.specs.Locality.{SameWritten}
use Rattle.go_expr_core.proofs.Alike.{pieces, expressions_seen}
use Rattle.go_inline_core.specs.Types.{InlineOf}
use Rattle.go_stmt_core.specs.piece.Laws.{SamePiece, SameOuter, piece_idents}
use Rattle.go_local_core.specs.Pieces.{piece_types}
use Rattle.go_stmt_core.specs.piece.Specifications.{spec_uses}
use Rattle.go_stmt_core.proofs.PieceLocal.{pieces_local, outer_local}
use Rattle.go_env_core.specs.Looks.{TheLooks, inline_rules}
use Rattle.go_stmt_core.specs.toplevel.Initial.{initial_rule, expr_initial_faults, list_initial_faults, values_initial_faults, initial_faults}
use Rattle.go_stmt_core.specs.toplevel.Tops.{top_spec_faults, value_decl_uses, value_decl_faults, type_spec_uses, type_decl_uses}
use Rattle.go_body_core.specs.Rules.{outside_looks}
use Rattle.go_body_core.specs.function.Stands.{FileStand, outer_looks}
use Rattle.go_body_core.specs.file.mirrors.Steps.{AreSeen}
use Rattle.go_body_core.proofs.FileTyped.{type_used}
use Rattle.go_tree_nodes.specs.Idents.{expr_idents}

module _ (st : FileStand) (types : List (ℕ × InlineOf)) where
  -- by the table, and by what names mean
  abbrev pub by_table : TheLooks
  by_table = outside_looks st.scene st.file.file st.known (inline_rules st.scene types)

  abbrev by_names : TheLooks
  by_names = outer_looks st

  abbrev Seen : List TypeTree → Type 0
  Seen ts = AreSeen st types ts

  seen_left : (ts us : List TypeTree) → Seen (ts ++ us) → Seen ts
  seen_left ts us h t there = h t (Contains-append_left ts us t there)

  seen_right : (ts us : List TypeTree) → Seen (ts ++ us) → Seen us
  seen_right ts us h t there = h t (Contains-append_right ts us t there)

  made : (ts : List TypeTree) → Seen ts → SameWritten by_table by_names ts
  made [] h = tt
  made (t ∷ ts) h =
      let same = h t (0, (let below : 0 < length (t ∷ ts) = omega arith in below), refl) (named_type by_table) in
      (record { type_of = sym same.0; faults_of = sym same.1 }, made ts (seen_right (t ∷ []) ts h))

  agree : (xs : List Ident) → AgreeOnIdents by_table.find by_names.find xs
  agree [] = tt
  agree (x ∷ xs) = (refl, agree xs)

  spec_same : (k : ValueKind) (v : ValueSpecTree) → Seen (spec_types v) → SamePiece Term Sign Declaration (List ℕ) by_table by_names (Spec k v)
  spec_same k v h =
      pieces_local Term Sign Declaration (List ℕ) by_table by_names.find by_names.written (Spec k v) (agree (piece_idents (Spec k v)))
      (made (piece_types (Spec k v)) h)

  outer_same : (k : ValueKind) (v : ValueSpecTree) → Seen (spec_types v) → SameOuter Term Sign Declaration (List ℕ) by_table by_names k v
  outer_same k v h =
      outer_local Term Sign Declaration (List ℕ) by_table by_names.find by_names.written k v (agree (piece_idents (Spec k v)))
      (made (piece_types (Spec k v)) h)

  -- initialisers

  expr_same : (e : ExprTree) → Seen (expr_types e) → expr_initial_faults by_table e ≡ expr_initial_faults by_names e
  expr_same e h =
      ap (λ d. fault_at (start e) (initial_rule d))
      ((expressions_seen Term Sign Declaration (List ℕ)).whole by_table by_names.find by_names.written stands.«Value» e (agree (expr_idents e))
      (made (expr_types e) h)).denoted

  list_same : (es : Separated ExprTree) → Seen (exprs_types es) → list_initial_faults by_table es ≡ list_initial_faults by_names es
  list_same (One e) h = expr_same e h
  list_same (Then e comma more) h = pieces _ _ _ _ (expr_same e (seen_left (expr_types e) (exprs_types more) h)) (list_same more (seen_right (expr_types e) (exprs_types more) h))

  values_same : (v : Option (Span × Separated ExprTree)) → Seen (values_types v) → values_initial_faults by_table v ≡ values_initial_faults by_names v
  values_same None h = refl
  values_same (Some v) h = list_same v.1 h

  initial_same : (k : ValueKind) (v : ValueSpecTree) → Seen (spec_types v) → initial_faults by_table k v ≡ initial_faults by_names k v
  initial_same kinds.Const v h = refl
  initial_same kinds.Var v h = values_same v.values (seen_right (some_type v.type_expr) (values_types v.values) h)

  -- declarations

  abbrev UsesSame : ValueSpecTree → Type 0
  UsesSame v = spec_uses by_table v ≡ spec_uses by_names v

  uses_same : (v : ValueSpecTree) → Seen (spec_types v) → UsesSame v
  uses_same v h = (spec_same kinds.Var v h).uses

  faults_same : (k : ValueKind) (v : ValueSpecTree) → Seen (spec_types v) → top_spec_faults by_table k v ≡ top_spec_faults by_names k v
  faults_same k v h = pieces _ _ _ _ (outer_same k v h).faults (initial_same k v h)

  lines_same : {B : Type 0} (f g : ValueSpecTree → List B) → ((v : ValueSpecTree) → Seen (spec_types v) → f v ≡ g v) → (ls : List (ValueSpecTree × Option Span))
      → Seen (flat_map (λ (l : ValueSpecTree × Option Span). spec_types l.0) ls) → flat_map (λ (l : ValueSpecTree × Option Span). f l.0) ls ≡ flat_map (λ (l : ValueSpecTree × Option Span). g l.0) ls
  lines_same f g each [] h = refl
  lines_same f g each (l ∷ ls) h =
      let rest = flat_map (λ (x : ValueSpecTree × Option Span). spec_types x.0) ls in
      pieces _ _ _ _ (each l.0 (seen_left (spec_types l.0) rest h)) (lines_same f g each ls (seen_right (spec_types l.0) rest h))

  specs_same : {B : Type 0} (f g : ValueSpecTree → List B) → ((v : ValueSpecTree) → Seen (spec_types v) → f v ≡ g v) → (s : Specs ValueSpecTree) → Seen (specs_types s) → of_specs f s ≡ of_specs g s
  specs_same f g each (Single v) h = each v h
  specs_same f g each (Group first ls last) h = lines_same f g each ls h

  pub decl_used : (v : ValueTree) → Seen (specs_types v.specs) → value_decl_uses by_table v ≡ value_decl_uses by_names v
  decl_used v h = specs_same (spec_uses by_table) (spec_uses by_names) uses_same v.specs h

  pub decl_broken : (v : ValueTree) → Seen (specs_types v.specs) → value_decl_faults by_table v ≡ value_decl_faults by_names v
  decl_broken v h = specs_same (top_spec_faults by_table v.kind) (top_spec_faults by_names v.kind) (faults_same v.kind) v.specs h

  -- types: what their names have rests on no type that is written out

  spec_typed : (t : TypeSpecTree) → type_spec_uses by_table t ≡ type_spec_uses by_names t
  spec_typed t = type_used by_table by_names.written t.type_expr

  lines_typed : (ls : List (TypeSpecTree × Option Span)) → flat_map (λ (l : TypeSpecTree × Option Span). type_spec_uses by_table l.0) ls ≡ flat_map (λ (l : TypeSpecTree × Option Span). type_spec_uses by_names l.0) ls
  lines_typed [] = refl
  lines_typed (l ∷ ls) = pieces _ _ _ _ (spec_typed l.0) (lines_typed ls)

  specs_typed : (s : Specs TypeSpecTree) → of_specs (type_spec_uses by_table) s ≡ of_specs (type_spec_uses by_names) s
  specs_typed (Single t) = spec_typed t
  specs_typed (Group first ls last) = lines_typed ls

  pub types_used : (t : TypeDeclTree) → type_decl_uses by_table t ≡ type_decl_uses by_names t
  types_used t = specs_typed t.specs
