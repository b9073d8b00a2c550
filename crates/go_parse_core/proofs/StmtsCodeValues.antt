-- What reading the specification of a value gives, where it is known before its values whether enough is declared.
use Rattle.std.proofs.Common.{◌≡◌, ℕ, suc, true, false, List, length, Option, Some, None, Ok, Err, refl, ap, ◌∙◌, cond}
use Rattle.go_tree_nodes.specs.text_core.declared.span.Span.{Span}
use Rattle.go_tree_nodes.specs.token_core.declared.kind.Operator.TheVariants as operator
use Rattle.go_tree_nodes.specs.declared.names.Ident.{Ident}
use Rattle.go_tree_nodes.specs.declared.decls.ValueKind.{ValueKind}
use Rattle.go_tree_nodes.specs.declared.decls.ValueKind.TheVariants as kinds
use Rattle.go_tree_nodes.specs.Terminals.{Terminal}
use Rattle.go_tree_nodes.specs.Trees.{Separated, TypeTree, ExprTree, ValueSpecTree}
use Rattle.go_parse_reader.specs.declared.types.stop.Stop.{Stop}
use Rattle.go_parse_reader.specs.types.mirrors.Giving.{Fails}
use Rattle.go_parse_reader.specs.types.mirrors.Marks.{Grammar, ◌>>=◌, Reading, MarkAhead, mark_at, idents_go}
use Rattle.go_parse_reader.proofs.TypesCodeSteps.{fails_along}
use Rattle.go_parse_reader.specs.exprs.mirrors.ExprReading.{exprs_at}
use Rattle.go_parse_core.specs.stmts.mirrors.StmtReading.{some_type_at, values_by, enough, value_spec, value_spec_by, value_spec_at}

abbrev Values : Type 0
Values = Option (Span × Separated ExprTree)

-- values count as the `=` before them does
enough_some : {A B C : Type 0} (kind : ValueKind) (t : Option A) (b : B) (c : C) → enough kind t (Some b) ≡ enough kind t (Some c)
enough_some kinds.Const None b c = refl
enough_some kinds.Const (Some t) b c = refl
enough_some kinds.Var None b c = refl
enough_some kinds.Var (Some t) b c = refl

enough_none : {A : Type 0} (B C : Type 0) (kind : ValueKind) (t : Option A) → enough {A = A} {B = B} kind t None ≡ enough {A = A} {B = C} kind t None
enough_none B C kinds.Const None = refl
enough_none B C kinds.Const (Some t) = refl
enough_none B C kinds.Var None = refl
enough_none B C kinds.Var (Some t) = refl

some_enough : {A B : Type 0} (kind : ValueKind) (t : Option A) (b : B) → enough kind t (Some b) ≡ true
some_enough kinds.Const None b = refl
some_enough kinds.Const (Some t) b = refl
some_enough kinds.Var None b = refl
some_enough kinds.Var (Some t) b = refl

-- what follows a type
abbrev values_from : ℕ → ValueKind → Separated Ident → Option TypeTree → List Terminal → MarkAhead → Reading ValueSpecTree
values_from b kind xs t ts m = values_by b ts m >>= value_spec_by kind xs t

missing : (b : ℕ) (kind : ValueKind) (xs : Separated Ident) (t : Option TypeTree) (ts : List Terminal) (m : MarkAhead) → enough kind t m ≡ false → values_from b kind xs t ts m ≡ Err Grammar
missing b kind xs t ts None few =
    ap (λ c. cond c (Ok (value_spec xs t None, ts)) (Err Grammar)) (enough_none (Span × Separated ExprTree) (Span × List Terminal) kind t ∙ few)
missing b kind xs t ts (Some a) few = let all = some_enough kind t a in cc

abbrev valued : Span → Separated ExprTree × List Terminal → Reading Values
valued s es = Ok (Some (s, es.0), es.1)

found : (b : ℕ) (kind : ValueKind) (xs : Separated Ident) (t : Option TypeTree) (ts after : List Terminal) (m : MarkAhead) (vs : Values) → enough kind t m ≡ true → values_by b ts m ≡ Ok (vs, after) → values_from b kind xs t ts m ≡ Ok (value_spec xs t vs, after)
found b kind xs t ts after None vs all e =
    let both : (vs, after) ≡ (None, ts) = cc in
    let v : vs ≡ None = ap (λ (x : Values × List Terminal). x.0) both in
    let same : enough kind t vs ≡ true = ap (enough kind t) v ∙ enough_none (Span × Separated ExprTree) (Span × List Terminal) kind t ∙ all in
    ap (λ r. r >>= value_spec_by kind xs t) e ∙ ap (λ c. cond c (Ok (value_spec xs t vs, after)) (Err Grammar)) same
found b kind xs t ts after (Some a) vs all e = behind (exprs_at b false a.1) e
  where
    behind : (r : Reading (Separated ExprTree)) → (r >>= valued a.0) ≡ Ok (vs, after) → (r >>= valued a.0 >>= value_spec_by kind xs t) ≡ Ok (value_spec xs t vs, after)
    behind (Err f) e = cc
    behind (Ok es) e =
        let both : (vs, after) ≡ (Some (a.0, es.0), es.1) = cc in
        let v : vs ≡ Some (a.0, es.0) = ap (λ (x : Values × List Terminal). x.0) both in
        let same : enough kind t vs ≡ true = ap (enough kind t) v ∙ some_enough kind t (a.0, es.0) in
        ap (λ r. r >>= value_spec_by kind xs t) e ∙ ap (λ c. cond c (Ok (value_spec xs t vs, after)) (Err Grammar)) same

-- up to the values
front : (b : ℕ) (kind : ValueKind) (ts inside rest : List Terminal) (xs : Separated Ident) (t : Option TypeTree) → idents_go (suc (length ts)) ts ≡ Ok (xs, inside) → some_type_at b inside ≡ Ok (t, rest) → value_spec_at b kind ts ≡ values_from b kind xs t rest (mark_at operator.Assign rest)
front b kind ts inside rest xs t named typed =
    ap (λ r. r >>= λ (xs : Separated Ident × List Terminal). (some_type_at b xs.1 >>= λ t. values_from b kind xs.0 t.0 t.1 (mark_at operator.Assign t.1))) named
    ∙ ap (λ r. r >>= λ (t : Option TypeTree × List Terminal). values_from b kind xs t.0 t.1 (mark_at operator.Assign t.1)) typed

pub spec_missing : (b : ℕ) (kind : ValueKind) (ts inside rest : List Terminal) (xs : Separated Ident) (t : Option TypeTree) → idents_go (suc (length ts)) ts ≡ Ok (xs, inside) → some_type_at b inside ≡ Ok (t, rest) → enough kind t (mark_at operator.Assign rest) ≡ false → value_spec_at b kind ts ≡ Err Grammar
spec_missing b kind ts inside rest xs t named typed few =
    front b kind ts inside rest xs t named typed ∙ missing b kind xs t rest (mark_at operator.Assign rest) few

pub spec_fails : (b : ℕ) (kind : ValueKind) (ts inside rest : List Terminal) (xs : Separated Ident) (t : Option TypeTree) (e : Stop) → idents_go (suc (length ts)) ts ≡ Ok (xs, inside) → some_type_at b inside ≡ Ok (t, rest) → Fails e (values_by b rest (mark_at operator.Assign rest)) → Fails e (value_spec_at b kind ts)
spec_fails b kind ts inside rest xs t e named typed failed =
    fails_along (values_by b rest (mark_at operator.Assign rest)) (value_spec_at b kind ts) e (λ f g. front b kind ts inside rest xs t named typed ∙ ap (λ r. r >>= value_spec_by kind xs t) g) failed

pub spec_is : (b : ℕ) (kind : ValueKind) (ts inside rest after : List Terminal) (xs : Separated Ident) (t : Option TypeTree) (vs : Values) → idents_go (suc (length ts)) ts ≡ Ok (xs, inside) → some_type_at b inside ≡ Ok (t, rest) → enough kind t (mark_at operator.Assign rest) ≡ true → values_by b rest (mark_at operator.Assign rest) ≡ Ok (vs, after) → value_spec_at b kind ts ≡ Ok (value_spec xs t vs, after)
spec_is b kind ts inside rest after xs t vs named typed all valued =
    front b kind ts inside rest xs t named typed ∙ found b kind xs t rest after (mark_at operator.Assign rest) vs all valued
