-- What a name of a specification stands for follows from its own expression.
use Rattle.std.proofs.Common.{◌≡◌, ℕ, zero, suc, ◌+◌, ◌-◌, ◌<◌, ◌≤◌, Bool, true, false, ◌&&◌, inl, inr, List, [], ◌∷◌, ◌==◌, map, replicate, length, get_or, slice_get, refl, sym, ap, subst, ◌∙◌, arith, if◌then◌else◌}
use Rattle.std.specs.Prelude.{Option, Some, None, IsSome, is_some, Result, IfOk, slice_index_or, nat_lt}
use Rattle.std.specs.List.{list_all}
use Rattle.std.specs.Option.{option_map}
use Rattle.std.proofs.lemmas.Bool.{cases_lt, eqb-true, eq-eqb}
use Rattle.std.proofs.lemmas.Bool.Decides.{eqb_tells}
use Rattle.std.proofs.lemmas.List.{get_or-map, get_or-replicate, get_or_past, length-map, length-replicate}
use Rattle.go_constant_core.specs.text_core.declared.span.Span.{Span}
use Rattle.go_tree_nodes.specs.declared.names.Ident.{Ident}
use Rattle.go_tree_nodes.specs.declared.names.NextIdent.{NextIdent}
use Rattle.go_tree_nodes.specs.declared.exprs.Expr.{Expr}
use Rattle.go_tree_nodes.specs.declared.exprs.NextExpr.{NextExpr}
use Rattle.go_tree_nodes.specs.declared.decls.ValueKind.{ValueKind}
use Rattle.go_tree_nodes.specs.declared.decls.ValueKind.TheVariants as kinds
use Rattle.go_tree_nodes.specs.TypeShapes.{idents_from}
use Rattle.go_tree_nodes.specs.Shapes.{shape, exprs_from}
use Rattle.go_tree_nodes.specs.Trees.{Separated, One, Then, TypeTree, ExprTree, ValueSpecTree}
use Rattle.go_names_core.specs.local_core.Outline.{idents}
use Rattle.go_constant_core.specs.declared.values.Constant.{Constant}
use Rattle.go_stmt_core.specs.operand_core.declared.types.Operand.{Operand}
use Rattle.go_stmt_core.specs.operand_core.TypeRules.{TypeRules}
use Rattle.go_stmt_core.specs.denote_core.declared.things.Found.{Found}
use Rattle.go_stmt_core.specs.denote_core.declared.things.Stand.TheVariants as stands
use Rattle.go_stmt_core.specs.denote_core.declared.things.Denoted as declared_denoted
use Rattle.go_stmt_core.specs.denote_core.declared.things.Denoted.TheVariants as denotes
use Rattle.go_stmt_core.specs.denote_core.declared.things.Argument.{Argument}
use Rattle.go_stmt_core.specs.denote_core.declared.things.Argument.TheVariants as arguments
use Rattle.go_stmt_core.specs.denote_core.Arguments.{argument_of, arguments_of}
use Rattle.go_stmt_core.specs.denote_core.Look.{Look}
use Rattle.go_stmt_core.specs.statement.Declarations.{given_type, declared_types, is_initial, initial_argument, initial_types}
use Rattle.go_stmt_core.specs.expr_core.Looks.{Looks, look_of_place}
use Rattle.go_stmt_core.specs.expr_core.Places.{start}
use Rattle.go_stmt_core.specs.expr_core.Denoting.{denoted}
use Rattle.go_stmt_core.specs.expr_core.Lists.{denoted_exprs}
use Rattle.go_stmt_core.specs.expr_core.Laws.{AgreeOnIdents, LooksAtNames, finding}
use Rattle.go_stmt_core.specs.expr_core.Alike.{needed_names}
use Rattle.go_value_core.specs.Initial.{spec_name_count, some_written_type, values_given, variable, constant_value, constant_values, values_of, initialiser_values, initial, exprs, expr_in, expr_behind, expr_of, some_needed, initial_idents}
use Rattle.go_stmt_core.specs.piece.Specifications as pieces
use Rattle.go_value_core.specs.Laws.{SpecificationsAreAlike}
use Rattle.go_value_core.specs.mirrors.Own.{one_of, is_one, is_alone, given_by, own_argument, type_from, value_from}

-- counts

pub names_counted : (x : Ident) (ns : List NextIdent) → length (idents (idents_from x ns)) ≡ suc (length ns)
names_counted x [] = refl
names_counted x (n ∷ ns) = ap suc (names_counted n.ident ns)

pub exprs_counted : (e : Expr) (ns : List NextExpr) → length (exprs (exprs_from e ns)) ≡ suc (length ns)
exprs_counted e [] = refl
exprs_counted e (n ∷ ns) = ap suc (exprs_counted n.expr ns)

-- the expressions of a list

first_expr : (e : Expr) (ns : List NextExpr) → slice_get (exprs (exprs_from e ns)) 0 ≡ Some (shape e)
first_expr e [] = refl
first_expr e (n ∷ ns) = refl

next_expr : (e : Expr) (ns : List NextExpr) (j : ℕ) → slice_get (exprs (exprs_from e ns)) (suc j) ≡ option_map (λ (m : NextExpr). shape m.expr) (slice_get ns j)
next_expr e [] j = refl
next_expr e (n ∷ ns) zero = first_expr n.expr ns
next_expr e (n ∷ ns) (suc j) = next_expr n.expr ns j

pub at_first : (e : Expr) (ns : List NextExpr) (i : ℕ) → i ≡ 0 → Some (shape e) ≡ slice_get (exprs (exprs_from e ns)) i
at_first e ns i h = sym (ap (slice_get (exprs (exprs_from e ns))) h ∙ first_expr e ns)

pub at_next : (e : Expr) (ns : List NextExpr) (i : ℕ) (o : Option NextExpr) → (i ≡ 0 → ⊥) → slice_get ns (i - 1) ≡ o → option_map (λ (m : NextExpr). shape m.expr) o ≡ slice_get (exprs (exprs_from e ns)) i
at_next e ns i o h is =
    let q : i ≡ suc (i - 1) = omega (arith, h) in
    sym (ap (slice_get (exprs (exprs_from e ns))) q ∙ (next_expr e ns (i - 1) ∙ ap (option_map (λ (m : NextExpr). shape m.expr)) is))

pub in_single : (n i : ℕ) (e : Expr) (ns : List NextExpr) → length ns ≡ 0 → Some (shape e) ≡ expr_in n i (exprs_from e ns)
in_single n i e [] h = refl
in_single n i e (m ∷ ms) h = absurd (omega (arith, h))

among : (n i : ℕ) (e : Expr) (ns : List NextExpr) → (length ns ≡ 0 → ⊥) → expr_in n i (exprs_from e ns) ≡ (if n == suc (length ns) then slice_get (exprs (exprs_from e ns)) i else None)
among n i e [] h = absurd (h refl)
among n i e (m ∷ ms) h = ap (λ k. if n == k then slice_get (exprs (exprs_from e (m ∷ ms))) i else None) (exprs_counted e (m ∷ ms))

pub in_several : (n i : ℕ) (e : Expr) (ns : List NextExpr) → (length ns ≡ 0 → ⊥) → suc (length ns) ≡ n → slice_get (exprs (exprs_from e ns)) i ≡ expr_in n i (exprs_from e ns)
in_several n i e ns h q = sym (among n i e ns h ∙ ap (λ b. if b then slice_get (exprs (exprs_from e ns)) i else None) (eq-eqb n (suc (length ns)) (sym q)))

pub in_none : (n i : ℕ) (e : Expr) (ns : List NextExpr) → (length ns ≡ 0 → ⊥) → (suc (length ns) ≡ n → ⊥) → None ≡ expr_in n i (exprs_from e ns)
in_none n i e ns h ne = elim (eqb_tells n (suc (length ns))) [
  | inl same ↦ absurd (ne (sym same.1))
  | inr other ↦ sym (among n i e ns h ∙ ap (λ b. if b then slice_get (exprs (exprs_from e ns)) i else None) other.0)
]

pub is_single : (n : ℕ) (e : Expr) (ns : List NextExpr) → n ≡ length ns → (n == 0) ≡ is_one (exprs_from e ns)
is_single n e [] h = ap (λ k. k == 0) h
is_single n e (m ∷ ms) h = elim (eqb_tells n 0) [
  | inl same ↦ absurd (omega (arith, h, same.1))
  | inr other ↦ other.0
]

-- one of several

one_way : {A : Type 0} (b : Bool) (x : A) → (if b then x else x) ≡ x
one_way true x = refl
one_way false x = refl

module _ {T S D P : Type 0} (looks : Looks T S D P) where
  abbrev each : ExprTree → Argument T
  each e = argument_of (denoted looks stands.«Value» e)

  each_of : (es : Separated ExprTree) → map argument_of (denoted_exprs looks es) ≡ map each (exprs es)
  each_of (One e) = refl
  each_of (Then e c more) = ap (λ l. each e ∷ l) (each_of more)

  several : (o : ℕ) (e : ExprTree) (c : Span) (more : Separated ExprTree) → arguments_of (look_of_place looks o) (denoted_exprs looks (Then e c more)) ≡ map each (exprs (Then e c more))
  several o e c (One f) = refl
  several o e c (Then f c2 more) = ap (λ l. each e ∷ each f ∷ l) (each_of more)

  nth : (n : ℕ) (es : List ExprTree) (i : ℕ) → get_or (map each es) i arguments.Refused ≡ given_by looks n i false (slice_get es i)
  nth n [] i = refl
  nth n (e ∷ es) zero = refl
  nth n (e ∷ es) (suc i) = nth n es i ∙ again (slice_get es i)
    where
      again : (o : Option ExprTree) → given_by looks n i false o ≡ given_by looks n (suc i) false o
      again None = refl
      again (Some x) = refl

  chosen : (n i : ℕ) (es : List ExprTree) (b : Bool) → (if b then get_or (map each es) i arguments.Refused else arguments.Refused) ≡ given_by looks n i false (if b then slice_get es i else None)
  chosen n i es true = nth n es i
  chosen n i es false = refl

  -- one of the values is what its expression gives
  pub given_is : (n i : ℕ) (values : Option (Span × Separated ExprTree)) → one_of n i (values_given looks values) ≡ given_by looks n i (is_alone values) (expr_behind n i values)
  given_is n i None = one_way (n == 0) arguments.Refused
  given_is n i (Some (s, One e)) = refl
  given_is n i (Some (s, Then e c more)) =
      let es : List ExprTree = exprs (Then e c more) in
      ap (one_of n i) (several (start e) e c more)
      ∙ (ap (λ m. if n == m then get_or (map each es) i arguments.Refused else arguments.Refused) (length-map es each)
      ∙ chosen n i es (n == length es))

-- from the list of all to one

module _ {T : Type 0} (rules : TypeRules T) where
  constant_at : (w : Option (Option T)) (n i : ℕ) (given : List (Argument T)) → i < n → (b : Bool) → (n == length given) ≡ b
      → get_or (if b then map (constant_value rules w) given else replicate n (constant_value rules w arguments.Refused)) i None ≡ constant_value rules w (if b then get_or given i arguments.Refused else arguments.Refused)
  constant_at w n i given lt true h =
      let inside : i < length given = omega (arith, lt, eqb-true n (length given) h) in
      get_or-map (constant_value rules w) given i arguments.Refused None inside
  constant_at w n i given lt false h = get_or-replicate n i (constant_value rules w arguments.Refused) None lt

  variable_at : (n i : ℕ) (given : List (Argument T)) → i < n → (b : Bool) → (n == length given) ≡ b
      → get_or (map variable (if b then map (given_type rules) given else replicate n None)) i None ≡ variable (given_type rules (if b then get_or given i arguments.Refused else arguments.Refused))
  variable_at n i given lt true h =
      let inside : i < length given = omega (arith, lt, eqb-true n (length given) h) in
      let within : i < length (map (given_type rules) given) = omega (arith, inside, length-map given (given_type rules)) in
      get_or-map variable (map (given_type rules) given) i None None within ∙ ap variable (get_or-map (given_type rules) given i arguments.Refused None inside)
  variable_at n i given lt false h =
      let within : i < length (replicate {A = Option T} n None) = omega (arith, lt, length-replicate {A = Option T} n None) in
      get_or-map variable (replicate n None) i None None within ∙ ap variable (get_or-replicate {A = Option T} n i None None lt)

  -- one of the values, of which each is a constant or refused
  chosen_initial : (n i : ℕ) (given : List (Argument T)) → i < n → (b : Bool) → (n == length given) ≡ b
      → (if b then get_or (map initial_argument given) i arguments.Refused else arguments.Refused) ≡ initial_argument (if b then get_or given i arguments.Refused else arguments.Refused)
  chosen_initial n i given lt true h =
      let inside : i < length given = omega (arith, lt, eqb-true n (length given) h) in
      get_or-map initial_argument given i arguments.Refused arguments.Refused inside
  chosen_initial n i given lt false h = refl

  one_initial : (n i : ℕ) (given : List (Argument T)) → i < n → one_of n i (map initial_argument given) ≡ initial_argument (one_of n i given)
  one_initial n i given lt =
      ap (λ m. if n == m then get_or (map initial_argument given) i arguments.Refused else arguments.Refused) (length-map given initial_argument)
      ∙ chosen_initial n i given lt (n == length given) refl

  typed_at : (n i : ℕ) (t : Option T) → i < n → get_or (map variable (replicate n t)) i None ≡ variable t
  typed_at n i t lt =
      let within : i < length (replicate n t) = omega (arith, lt, length-replicate n t) in
      get_or-map variable (replicate n t) i None None within ∙ ap variable (get_or-replicate n i t None lt)

  pub value_at : (kind : ValueKind) (w : Option (Option T)) (n i : ℕ) (given : List (Argument T)) → i < n → get_or (values_of rules kind w n given) i None ≡ value_from rules kind w (one_of n i given)
  value_at kinds.Const w n i given lt = constant_at w n i given lt (n == length given) refl
  value_at kinds.Var None n i given lt =
      let initial_given : List (Argument T) = map initial_argument given in
      variable_at n i initial_given lt (n == length initial_given) refl ∙ ap (λ a. variable (given_type rules a)) (one_initial n i given lt)
  value_at kinds.Var (Some t) n i given lt = typed_at n i t lt

  all_counted : (w : Option (Option T)) (n : ℕ) (given : List (Argument T)) (b : Bool) → (n == length given) ≡ b
      → length (if b then map (constant_value rules w) given else replicate n (constant_value rules w arguments.Refused)) ≡ n
  all_counted w n given true h = length-map given (constant_value rules w) ∙ sym (eqb-true n (length given) h)
  all_counted w n given false h = length-replicate n (constant_value rules w arguments.Refused)

  types_counted : (n : ℕ) (given : List (Argument T)) (b : Bool) → (n == length given) ≡ b → length (if b then map (given_type rules) given else replicate n None) ≡ n
  types_counted n given true h = length-map given (given_type rules) ∙ sym (eqb-true n (length given) h)
  types_counted n given false h = length-replicate {A = Option T} n None

  pub values_counted : (kind : ValueKind) (w : Option (Option T)) (n : ℕ) (given : List (Argument T)) → length (values_of rules kind w n given) ≡ n
  values_counted kinds.Const w n given = all_counted w n given (n == length given) refl
  values_counted kinds.Var None n given =
      let initial_given : List (Argument T) = map initial_argument given in
      length-map (declared_types rules None n initial_given) variable ∙ types_counted n initial_given (n == length initial_given) refl
  values_counted kinds.Var (Some t) n given = length-map (replicate n t) variable ∙ length-replicate n t

-- a name

pub initial_is : {T S D P : Type 0} (looks : Looks T S D P) (kind : ValueKind) (v : ValueSpecTree) (i : ℕ) → i < spec_name_count v
    → initial looks kind v i ≡ value_from looks.types kind (some_written_type looks v.type_expr) (own_argument looks v i)
initial_is looks kind v i lt =
    value_at looks.types kind (some_written_type looks v.type_expr) (spec_name_count v) i (values_given looks v.values) lt
    ∙ ap (value_from looks.types kind (some_written_type looks v.type_expr)) (given_is looks (spec_name_count v) i v.values)

pub initial_past : {T S D P : Type 0} (looks : Looks T S D P) (kind : ValueKind) (v : ValueSpecTree) (i : ℕ) → spec_name_count v ≤ i → initial looks kind v i ≡ None
initial_past looks kind v i h =
    let l = values_of looks.types kind (some_written_type looks v.type_expr) (spec_name_count v) (values_given looks v.values) in
    let c : length l ≡ spec_name_count v = values_counted looks.types kind (some_written_type looks v.type_expr) (spec_name_count v) (values_given looks v.values) in
    let past : length l ≤ i = omega (arith, h, c) in
    get_or_past l i None past

-- what the names of a specification stand for, inside functions and outside

pub outer_alike : {T S D P : Type 0} (looks : Looks T S D P) (kind : ValueKind) (v : ValueSpecTree) → initialiser_values looks kind v ≡ pieces.outer_values looks kind v
outer_alike looks kinds.Const v = refl
outer_alike looks kinds.Var v = refl

kept_first : {T : Type 0} (o : Operand T) (k : Option Constant) (given : List (Argument T)) → (list_all is_initial given ≡ true → map initial_argument given ≡ given) → (is_some k && list_all is_initial given) ≡ true
    → (if is_some k then arguments.«Value» o else arguments.Refused) ∷ map initial_argument given ≡ arguments.«Value» o ∷ given
kept_first o (Some k) given rest h = ap (λ l. arguments.«Value» o ∷ l) (rest h)
kept_first o None given rest h = absurd cc

-- constants stay what they are
pub all_kept : {T : Type 0} (given : List (Argument T)) → list_all is_initial given ≡ true → map initial_argument given ≡ given
all_kept [] h = refl
all_kept (arguments.Refused ∷ given) h = absurd cc
all_kept (arguments.Void ∷ given) h = absurd cc
all_kept (arguments.«Value» o ∷ given) h = kept_first o o.constant given (all_kept given) h

typed_alike : {T S D P : Type 0} (looks : Looks T S D P) (t : Option TypeTree) (n : ℕ) (given : List (Argument T)) → IsSome t
    → map variable (initial_types looks.types (some_written_type looks t) n given) ≡ map variable (declared_types looks.types (some_written_type looks t) n given)
typed_alike looks None n given h = absurd cc
typed_alike looks (Some t) n given h = refl

pub specifications_alike : {T S D P : Type 0} → SpecificationsAreAlike T S D P
specifications_alike = record {
  outer = λ looks kind v. outer_alike looks kind v;
  constants = λ looks v. refl;
  variables = λ looks v h. ap (λ l. map variable (declared_types looks.types (some_written_type looks v.type_expr) (spec_name_count v) l)) (all_kept (values_given looks v.values) h);
  written = λ looks v h. typed_alike looks v.type_expr (spec_name_count v) (values_given looks v.values) h;
}

-- it looks at the names that it needs

module _ {T S D P : Type 0} (looks : Looks T S D P) (find : List ℕ → ℕ → Found T S D) where
  alone_alike : (o : ℕ) (d : declared_denoted.Denoted T S D) → arguments_of (look_of_place looks o) (d ∷ []) ≡ arguments_of (look_of_place (finding find looks) o) (d ∷ [])
  alone_alike o denotes.Refused = refl
  alone_alike o denotes.Typeless = refl
  alone_alike o (denotes.«Package» d) = refl
  alone_alike o (denotes.«Type» d t) = refl
  alone_alike o (denotes.«Value» operand) = refl
  alone_alike o (denotes.Several s) = refl
  alone_alike o denotes.Nothing = refl
  alone_alike o (denotes.Func d s) = refl
  alone_alike o (denotes.Builtin d b) = refl

  module _ (law : LooksAtNames T looks.written) where
    given_alike : (n i : ℕ) (alone : Bool) (o : Option ExprTree) → AgreeOnIdents looks.find find (some_needed o) → given_by looks n i alone o ≡ given_by (finding find looks) n i alone o
    given_alike n i alone None h = refl
    given_alike n i true (Some e) h =
        let same = needed_names T S D P looks find stands.«Value» e law h in
        ap (one_of n i) (ap (λ d. arguments_of (look_of_place looks (start e)) (d ∷ [])) same ∙ alone_alike (start e) (denoted (finding find looks) stands.«Value» e))
    given_alike n i false (Some e) h = ap argument_of (needed_names T S D P looks find stands.«Value» e law h)

    within : (kind : ValueKind) (v : ValueSpecTree) (i : ℕ) → some_written_type looks v.type_expr ≡ some_written_type (finding find looks) v.type_expr → AgreeOnIdents looks.find find (initial_idents v i) → i < spec_name_count v
        → initial looks kind v i ≡ initial (finding find looks) kind v i
    within kind v i types h lt =
        initial_is looks kind v i lt
        ∙ (ap (λ w. value_from looks.types kind w (own_argument looks v i)) types
        ∙ (ap (value_from looks.types kind (some_written_type (finding find looks) v.type_expr)) (given_alike (spec_name_count v) i (is_alone v.values) (expr_of v i) h)
        ∙ sym (initial_is (finding find looks) kind v i lt)))

    pub initial_alike : (kind : ValueKind) (v : ValueSpecTree) (i : ℕ) → some_written_type looks v.type_expr ≡ some_written_type (finding find looks) v.type_expr → AgreeOnIdents looks.find find (initial_idents v i)
        → initial looks kind v i ≡ initial (finding find looks) kind v i
    initial_alike kind v i types h = elim (cases_lt i (spec_name_count v)) [
      | inl lt ↦ within kind v i types h lt
      | inr past ↦ initial_past looks kind v i past ∙ sym (initial_past (finding find looks) kind v i past)
    ]

-- what the code answers
pub initial_from : {T S D P E : Type 0} (looks : Looks T S D P) (kind : ValueKind) (v : ValueSpecTree) (i : ℕ) → i < spec_name_count v → (w : Option (Option T)) (a : Argument T) (r : Result (Option (Operand T)) E)
    → w ≡ some_written_type looks v.type_expr → a ≡ own_argument looks v i → IfOk r (λ o. o ≡ value_from looks.types kind w a) → IfOk r (λ o. o ≡ initial looks kind v i)
initial_from looks kind v i lt w a r of_w of_a h =
    subst (λ x. IfOk r (λ o. o ≡ x))
    (ap (λ x. value_from looks.types kind x a) of_w ∙ (ap (value_from looks.types kind (some_written_type looks v.type_expr)) of_a ∙ sym (initial_is looks kind v i lt)))
    h
