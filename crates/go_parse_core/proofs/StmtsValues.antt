-- Reading finds the declarations of values and types that are spelled, and no others.
use Rattle.std.proofs.Common.{◌≡◌, ℕ, suc, ◌<◌, Bool, true, false, List, ◌∷◌, ◌++◌, length, Option, Some, None, Ok, Err, refl, sym, ap, ◌∙◌, subst, arith, cond, inl, append_assoc, length-append}
use Rattle.go_tree_nodes.specs.text_core.declared.span.Span.{Span}
use Rattle.go_tree_nodes.specs.token_core.declared.kind.Keyword.TheVariants as keyword
use Rattle.go_tree_nodes.specs.token_core.declared.kind.Operator.{Operator}
use Rattle.go_tree_nodes.specs.token_core.declared.kind.Operator.TheVariants as operator
use Rattle.go_tree_nodes.specs.declared.names.Ident.{Ident}
use Rattle.go_tree_nodes.specs.declared.decls.ValueKind.{ValueKind}
use Rattle.go_tree_nodes.specs.declared.decls.ValueKind.TheVariants as kinds
use Rattle.go_tree_nodes.specs.Terminals.{Terminal}
use Rattle.go_tree_nodes.specs.Trees.{Separated, One, Then, TypeTree, NamedType, Pointer, ParenType, Struct, Interface, ExprTree, ValueSpecTree, ValueTree, TypeSpecTree, TypeDeclTree}
use Rattle.go_tree_nodes.specs.Spelling.{mark, word, spell_ident, spell_idents, spell_some, spell_type, spell_exprs, spell_some_type, spell_values, spell_value_spec, spell_specs, keyword_of, spell_value, spell_type_spec, spell_types}
use Rattle.go_tree_nodes.specs.Rules.{IsAliasOfName, Wf_type, Wf_some_type, Wf_values, HasEnough, Wf_value_spec, Wf_value, Wf_type_spec, Wf_types}
use Rattle.go_tree_nodes.specs.Heights.{type_height, exprs_height, some_type_height, values_height, value_spec_height, specs_height, value_height, type_spec_height, types_height}
use Rattle.go_parse_reader.specs.types.mirrors.Marks.{Grammar, ◌>>=◌, Reading, MarkAhead, need, mark_at, keyword_at, name_at, some_mark, idents_go}
use Rattle.go_parse_reader.specs.types.mirrors.TypeReading.{begins_type, type_at}
use Rattle.go_parse_reader.specs.exprs.mirrors.ExprReading.{exprs_at}
use Rattle.go_parse_core.specs.stmts.mirrors.StmtReading.{specs_at, type_if, some_type_at, values_by, enough, value_spec, value_spec_by, value_spec_at, value_decl, value_at, value_var, value_const, value_word, type_spec, spec_type_at, type_spec_from, type_spec_at, type_decl, types_at}
use Rattle.go_parse_reader.proofs.TypesMarks.{mark_was, word_was, name_was, some_mark_was, some_mark_here, bind_ok, need_ok, AgreesAt, bind_agrees, agrees_along}
use Rattle.go_parse_reader.proofs.TypesLists.{ReadsItem, ItemsRead, idents_some, idents_complete, idents_sound}
use Rattle.go_parse_reader.proofs.TypesTypeFacts.{ReadsType, type_no_mark, type_begins}
use Rattle.go_parse_reader.proofs.TypesTypes.{type_complete, named_type_complete, type_sound, named_type_sound}
use Rattle.go_parse_reader.proofs.ExprsExprLists.{exprs_complete, exprs_sound}
use Rattle.go_parse_core.proofs.StmtsEnds.{Ends, ends_semicolon, ends_paren}
use Rattle.go_parse_core.proofs.StmtsSpecs.{FoundSpec, specs_complete, specs_sound}

-- the first terminal

value_spec_no_mark : (o : Operator) (v : ValueSpecTree) (ts : List Terminal) → mark_at o (spell_value_spec v ++ ts) ≡ None
value_spec_no_mark o v ts = of v.names
  where
    of : (xs : Separated Ident) → mark_at o ((spell_idents xs ++ (spell_some_type v.type_expr ++ spell_values v.values)) ++ ts) ≡ None
    of (One x) = refl
    of (Then x comma more) = refl

value_spec_some : (v : ValueSpecTree) → 0 < length (spell_value_spec v)
value_spec_some v = omega (arith, idents_some v.names, length-append (spell_idents v.names) (spell_some_type v.type_expr ++ spell_values v.values))

-- the parts of a specification

some_type_found : (b : ℕ) (t : Option TypeTree) (rest : List Terminal) → Wf_some_type t → mark_at operator.Dot rest ≡ None → begins_type rest ≡ false → AgreesAt (some_type_at b (spell_some_type t ++ rest)) (Ok (t, rest)) b (some_type_height t)
some_type_found b None rest wf dot free = inl (ap (type_if b rest) free)
some_type_found b (Some t) rest wf dot free =
    agrees_along _ _ _ b (type_height t) (ap (type_if b (spell_type t ++ rest)) (type_begins t rest))
    (bind_agrees (type_at b (spell_type t ++ rest)) (t, rest) (λ t. Ok (Some t.0, t.1)) (Ok (Some t, rest)) b (type_height t) b (type_height t)
    (type_complete t b rest wf dot) (inl refl) (λ h. h))

values_found : (b : ℕ) (vs : Option (Span × Separated ExprTree)) (rest : List Terminal) → Wf_values vs → Ends false rest → AgreesAt (values_by b (spell_values vs ++ rest) (mark_at operator.Assign (spell_values vs ++ rest))) (Ok (vs, rest)) b (values_height vs)
values_found b None rest wf ends = inl (ap (values_by b rest) ends.assign)
values_found b (Some v) rest wf ends =
    bind_agrees (exprs_at b false (spell_exprs v.1 ++ rest)) (v.1, rest) (λ es. Ok (Some (v.0, es.0), es.1)) (Ok (Some v, rest)) b (exprs_height v.1) b (exprs_height v.1)
    (exprs_complete v.1 false b rest wf ends.stops) (inl refl) (λ h. h)

values_dot : (vs : Option (Span × Separated ExprTree)) (rest : List Terminal) → Ends false rest → mark_at operator.Dot (spell_values vs ++ rest) ≡ None
values_dot None rest ends = ends.dot
values_dot (Some v) rest ends = refl

values_no_type : (vs : Option (Span × Separated ExprTree)) (rest : List Terminal) → Ends false rest → begins_type (spell_values vs ++ rest) ≡ false
values_no_type None rest ends = ends.no_type
values_no_type (Some v) rest ends = refl

behind_comma : (t : Option TypeTree) (vs : Option (Span × Separated ExprTree)) (rest : List Terminal) → Ends false rest → mark_at operator.Comma (spell_some_type t ++ (spell_values vs ++ rest)) ≡ None
behind_comma (Some t) vs rest ends = type_no_mark operator.Comma refl refl t (spell_values vs ++ rest)
behind_comma None (Some v) rest ends = refl
behind_comma None None rest ends = ends.stops.1

enough_is : {A B : Type 0} (kind : ValueKind) (t : Option A) (vs : Option B) → HasEnough kind t vs → enough kind t vs ≡ true
enough_is kinds.Const None None h = absurd h
enough_is kinds.Const (Some t) None h = absurd h
enough_is kinds.Const None (Some v) h = refl
enough_is kinds.Const (Some t) (Some v) h = refl
enough_is kinds.Var None None h = absurd h
enough_is kinds.Var None (Some v) h = refl
enough_is kinds.Var (Some t) None h = refl
enough_is kinds.Var (Some t) (Some v) h = refl

enough_was : {A B : Type 0} (kind : ValueKind) (t : Option A) (vs : Option B) → enough kind t vs ≡ true → HasEnough kind t vs
enough_was kinds.Const None None h = cc
enough_was kinds.Const (Some t) None h = cc
enough_was kinds.Const None (Some v) h = tt
enough_was kinds.Const (Some t) (Some v) h = tt
enough_was kinds.Var None None h = cc
enough_was kinds.Var None (Some v) h = tt
enough_was kinds.Var (Some t) None h = tt
enough_was kinds.Var (Some t) (Some v) h = tt

value_spec_found : (b : ℕ) (kind : ValueKind) (v : ValueSpecTree) (rest : List Terminal) → Wf_value_spec kind v → Ends false rest → AgreesAt (value_spec_at b kind (spell_value_spec v ++ rest)) (Ok (v, rest)) b (value_spec_height v)
value_spec_found b kind v rest wf ends =
    let last = spell_values v.values ++ rest in
    let behind = spell_some_type v.type_expr ++ last in
    let ts = spell_idents v.names ++ behind in
    let goal : Reading ValueSpecTree = Ok (v, rest) in
    let h = value_spec_height v in
    let is : spell_value_spec v ++ rest ≡ ts = append_assoc (spell_idents v.names) (spell_some_type v.type_expr ++ spell_values v.values) rest ∙ ap (λ l. spell_idents v.names ++ l) (append_assoc (spell_some_type v.type_expr) (spell_values v.values) rest) in
    let typed = λ (xs : Separated Ident) (t : Option TypeTree × List Terminal). (values_by b t.1 (mark_at operator.Assign t.1) >>= value_spec_by kind xs t.0) in
    let go = λ (xs : Separated Ident × List Terminal). (some_type_at b xs.1 >>= typed xs.0) in
    agrees_along _ _ _ b h (ap (value_spec_at b kind) is ∙ ap (λ r. r >>= go) (idents_complete v.names behind (behind_comma v.type_expr v.values rest ends)))
    (bind_agrees (some_type_at b behind) (v.type_expr, last) (typed v.names) goal b (some_type_height v.type_expr) b h
    (some_type_found b v.type_expr last wf.1 (values_dot v.values rest ends) (values_no_type v.values rest ends))
    (bind_agrees (values_by b last (mark_at operator.Assign last)) (v.values, rest) (value_spec_by kind v.names v.type_expr) goal b (values_height v.values) b h
    (values_found b v.values rest wf.2 ends)
    (inl (ap (λ c. cond c (Ok (v, rest)) (Err Grammar)) (enough_is kind v.type_expr v.values wf.0)))
    (λ g. omega arith))
    (λ g. omega arith))

-- a declaration that is spelled is read behind its keyword, unless it is too high
pub value_complete : (v : ValueTree) (b : ℕ) (rest : List Terminal) → Wf_value v → Ends false rest → AgreesAt (value_at b v.kind v.keyword (spell_specs spell_value_spec v.specs ++ rest)) (Ok (v, rest)) (suc b) (value_height v)
value_complete v b rest wf ends =
    let spec = value_spec_at b v.kind in
    let found : FoundSpec ValueSpecTree spec spell_value_spec b value_spec_height (Wf_value_spec v.kind) rest =
    record { grouped = λ x wf. record { before_mark = λ s ts. value_spec_found b v.kind x (mark operator.Semicolon s ∷ ts) wf (ends_semicolon false s ts); before_end = λ z ts. value_spec_found b v.kind x (mark operator.CloseParen z ∷ ts) wf (ends_paren z ts); opens = value_spec_no_mark operator.CloseParen x }; alone = λ x wf. value_spec_found b v.kind x rest wf ends; some = value_spec_some; no_group = value_spec_no_mark operator.OpenParen } in
    let ts = spell_specs spell_value_spec v.specs ++ rest in
    let h = specs_height value_spec_height v.specs in
    bind_agrees (specs_at spec ts) (v.specs, rest) (λ x. Ok (value_decl v.kind v.keyword x.0, x.1)) (Ok (v, rest)) b h (suc b) (value_height v)
    (specs_complete ValueSpecTree spec spell_value_spec b value_spec_height (Wf_value_spec v.kind) rest found v.specs wf) (inl refl) (λ h. omega arith)

-- types

spec_type_found : (b : ℕ) (alias : Option Span) (t : TypeTree) (rest : List Terminal) → Wf_type t → IsAliasOfName alias t → Ends false rest → AgreesAt (spec_type_at b alias (spell_type t ++ rest)) (Ok (t, rest)) b (type_height t)
spec_type_found b None t rest wf named ends = type_complete t b rest wf ends.dot
spec_type_found b (Some s) (NamedType n) rest wf named ends = named_type_complete n b rest ends.dot
spec_type_found b (Some s) (Pointer star t) rest wf named ends = absurd named
spec_type_found b (Some s) (ParenType first t last) rest wf named ends = absurd named
spec_type_found b (Some s) (Struct k first fs last) rest wf named ends = absurd named
spec_type_found b (Some s) (Interface k first ms last) rest wf named ends = absurd named

type_spec_found : (b : ℕ) (t : TypeSpecTree) (rest : List Terminal) → Wf_type_spec t → Ends false rest → AgreesAt (type_spec_at b (spell_type_spec t ++ rest)) (Ok (t, rest)) b (type_spec_height t)
type_spec_found b t rest wf ends =
    let behind = spell_type t.type_expr ++ rest in
    let goal : Reading TypeSpecTree = Ok (t, rest) in
    let h = type_height t.type_expr in
    let marked : some_mark operator.Assign ((spell_some operator.Assign t.alias ++ spell_type t.type_expr) ++ rest) ≡ (t.alias, behind) =
    ap (some_mark operator.Assign) (append_assoc (spell_some operator.Assign t.alias) (spell_type t.type_expr) rest) ∙ some_mark_here operator.Assign t.alias behind (type_no_mark operator.Assign refl refl t.type_expr rest) in
    agrees_along _ _ _ b h (ap (type_spec_from b t.name) marked)
    (bind_agrees (spec_type_at b t.alias behind) (t.type_expr, rest) (λ y. Ok (type_spec t.name t.alias y.0, y.1)) goal b h b h
    (spec_type_found b t.alias t.type_expr rest wf.0 wf.1 ends) (inl refl) (λ h. h))

pub types_complete : (t : TypeDeclTree) (b : ℕ) (rest : List Terminal) → Wf_types t → Ends false rest → AgreesAt (types_at b t.keyword (spell_specs spell_type_spec t.specs ++ rest)) (Ok (t, rest)) (suc b) (types_height t)
types_complete t b rest wf ends =
    let spec = type_spec_at b in
    let high = type_spec_height in
    let P = Wf_type_spec in
    let found : FoundSpec TypeSpecTree spec spell_type_spec b high P rest =
    record { grouped = λ x wf. record { before_mark = λ s ts. type_spec_found b x (mark operator.Semicolon s ∷ ts) wf (ends_semicolon false s ts); before_end = λ z ts. type_spec_found b x (mark operator.CloseParen z ∷ ts) wf (ends_paren z ts); opens = λ ts. refl }; alone = λ x wf. type_spec_found b x rest wf ends; some = λ x. omega arith; no_group = λ x ts. refl } in
    let ts = spell_specs spell_type_spec t.specs ++ rest in
    let h = specs_height high t.specs in
    bind_agrees (specs_at spec ts) (t.specs, rest) (λ x. Ok (type_decl t.keyword x.0, x.1)) (Ok (t, rest)) b h (suc b) (types_height t)
    (specs_complete TypeSpecTree spec spell_type_spec b high P rest found t.specs wf) (inl refl) (λ h. omega arith)

-- Soundness.

type_if_reads : (b : ℕ) (ts : List Terminal) (c : Bool) (x : Option TypeTree × List Terminal) → type_if b ts c ≡ Ok x → ReadsItem (Option TypeTree) spell_some_type some_type_height Wf_some_type b ts x
type_if_reads b ts false x e =
    let same : (None, ts) ≡ x = cc in
    subst (ReadsItem (Option TypeTree) spell_some_type some_type_height Wf_some_type b ts) same (record { spelled_as = refl; wf = tt; low = omega arith })
type_if_reads b ts true x e =
    let w = bind_ok (type_at b ts) (λ t. Ok (Some t.0, t.1)) x e in
    let r = type_sound b ts w.0 w.1 in
    let same : (Some w.0.0, w.0.1) ≡ x = cc (w.2) in
    subst (ReadsItem (Option TypeTree) spell_some_type some_type_height Wf_some_type b ts) same (record { spelled_as = r.spelled; wf = r.wf; low = r.low })

values_by_reads : (b : ℕ) (ts : List Terminal) (m : MarkAhead) → mark_at operator.Assign ts ≡ m → (x : Option (Span × Separated ExprTree) × List Terminal) → values_by b ts m ≡ Ok x → ReadsItem (Option (Span × Separated ExprTree)) spell_values values_height Wf_values b ts x
values_by_reads b ts None at x e =
    let same : (None, ts) ≡ x = cc in
    subst (ReadsItem (Option (Span × Separated ExprTree)) spell_values values_height Wf_values b ts) same (record { spelled_as = refl; wf = tt; low = omega arith })
values_by_reads b ts (Some s) at x e =
    let w = bind_ok (exprs_at b false s.1) (λ es. Ok (Some (s.0, es.0), es.1)) x e in
    let r = exprs_sound b false s.1 w.0 w.1 in
    let same : (Some (s.0, w.0.0), w.0.1) ≡ x = cc (w.2) in
    subst (ReadsItem (Option (Span × Separated ExprTree)) spell_values values_height Wf_values b ts) same (record { spelled_as = mark_was operator.Assign ts s at ∙ ap (λ l. mark operator.Assign s.0 ∷ l) r.spelled; wf = r.wf; low = r.low })

value_spec_by_was : (kind : ValueKind) (xs : Separated Ident) (t : Option TypeTree) (vs : Option (Span × Separated ExprTree) × List Terminal) (c : Bool) (x : ValueSpecTree × List Terminal) → cond c (Ok (value_spec xs t vs.0, vs.1)) (Err Grammar) ≡ Ok x → (c ≡ true) × ((value_spec xs t vs.0, vs.1) ≡ x)
value_spec_by_was kind xs t vs true x e = (refl, cc)
value_spec_by_was kind xs t vs false x e = cc

pub value_spec_sound : (b : ℕ) (kind : ValueKind) → ItemsRead ValueSpecTree spell_value_spec value_spec_height (Wf_value_spec kind) b (value_spec_at b kind)
value_spec_sound b kind ts x e =
    let typed = λ (xs : Separated Ident) (t : Option TypeTree × List Terminal). (values_by b t.1 (mark_at operator.Assign t.1) >>= value_spec_by kind xs t.0) in
    let n = bind_ok (idents_go (suc (length ts)) ts) (λ xs. some_type_at b xs.1 >>= typed xs.0) x e in
    let t = bind_ok (some_type_at b n.0.1) (typed n.0.0) x n.2 in
    let v = bind_ok (values_by b t.0.1 (mark_at operator.Assign t.0.1)) (value_spec_by kind n.0.0 t.0.0) x t.2 in
    let w = value_spec_by_was kind n.0.0 t.0.0 v.0 (enough kind t.0.0 v.0.0) x v.2 in
    let p = idents_sound (suc (length ts)) ts n.0 n.1 in
    let q = type_if_reads b n.0.1 (begins_type n.0.1) t.0 t.1 in
    let r = values_by_reads b t.0.1 (mark_at operator.Assign t.0.1) refl v.0 v.1 in
    let path : ts ≡ (spell_idents n.0.0 ++ (spell_some_type t.0.0 ++ spell_values v.0.0)) ++ v.0.1 =
    p.spelled ∙ ap (λ l. spell_idents n.0.0 ++ l) (q.spelled_as ∙ ap (λ l. spell_some_type t.0.0 ++ l) r.spelled_as ∙ sym (append_assoc (spell_some_type t.0.0) (spell_values v.0.0) v.0.1)) ∙ sym (append_assoc (spell_idents n.0.0) (spell_some_type t.0.0 ++ spell_values v.0.0) v.0.1) in
    subst (ReadsItem ValueSpecTree spell_value_spec value_spec_height (Wf_value_spec kind) b ts) w.1 (record { spelled_as = path; wf = (enough_was kind t.0.0 v.0.0 w.0, q.wf, r.wf); low = omega (arith, q.low, r.low) })

-- what was read behind the keyword is spelled there, respects the rules and is low enough
pub value_sound : (b : ℕ) (kind : ValueKind) (keyword : Span) (ts : List Terminal) (x : ValueTree × List Terminal) → value_at b kind keyword ts ≡ Ok x → ReadsItem ValueTree spell_value value_height Wf_value (suc b) (word (keyword_of kind) keyword ∷ ts) x
value_sound b kind keyword ts x e =
    let w = bind_ok (specs_at (value_spec_at b kind) ts) (λ x. Ok (value_decl kind keyword x.0, x.1)) x e in
    let r = specs_sound ValueSpecTree (value_spec_at b kind) spell_value_spec value_spec_height (Wf_value_spec kind) b (value_spec_sound b kind) ts w.0 w.1 in
    let same : (value_decl kind keyword w.0.0, w.0.1) ≡ x = cc (w.2) in
    let front = word (keyword_of kind) keyword in
    subst (ReadsItem ValueTree spell_value value_height Wf_value (suc b) (front ∷ ts)) same (record { spelled_as = ap (λ l. front ∷ l) r.spelled_as; wf = r.wf; low = omega (arith, r.low) })

spec_type_sound : (b : ℕ) (alias : Option Span) (ts : List Terminal) (x : TypeTree × List Terminal) → spec_type_at b alias ts ≡ Ok x → ReadsType b ts x × IsAliasOfName alias x.0
spec_type_sound b None ts x e = (type_sound b ts x e, tt)
spec_type_sound b (Some s) ts x e = named_type_sound b s ts x e

pub type_spec_sound : (b : ℕ) → ItemsRead TypeSpecTree spell_type_spec type_spec_height Wf_type_spec b (type_spec_at b)
type_spec_sound b ts x e =
    let n = bind_ok (need (name_at ts)) (λ x. type_spec_from b x.0 (some_mark operator.Assign x.1)) x e in
    let alias = some_mark operator.Assign n.0.1 in
    let t = bind_ok (spec_type_at b alias.0 alias.1) (λ t. Ok (type_spec n.0.0 alias.0 t.0, t.1)) x n.2 in
    let r = spec_type_sound b alias.0 alias.1 t.0 t.1 in
    let same : (type_spec n.0.0 alias.0 t.0.0, t.0.1) ≡ x = cc (t.2) in
    let path : n.0.1 ≡ (spell_some operator.Assign alias.0 ++ spell_type t.0.0) ++ t.0.1 =
    some_mark_was operator.Assign n.0.1 ∙ ap (λ l. spell_some operator.Assign alias.0 ++ l) r.0.spelled ∙ sym (append_assoc (spell_some operator.Assign alias.0) (spell_type t.0.0) t.0.1) in
    subst (ReadsItem TypeSpecTree spell_type_spec type_spec_height Wf_type_spec b ts) same (record { spelled_as = name_was ts n.0 (need_ok (name_at ts) n.0 n.1) ∙ ap (λ l. spell_ident n.0.0 ∷ l) path; wf = (r.0.wf, r.1); low = r.0.low })

pub types_sound : (b : ℕ) (k : Span) (ts : List Terminal) (x : TypeDeclTree × List Terminal) → types_at b k ts ≡ Ok x → ReadsItem TypeDeclTree spell_types types_height Wf_types (suc b) (word keyword.«Type» k ∷ ts) x
types_sound b k ts x e =
    let high = type_spec_height in
    let P = Wf_type_spec in
    let w = bind_ok (specs_at (type_spec_at b) ts) (λ x. Ok (type_decl k x.0, x.1)) x e in
    let r = specs_sound TypeSpecTree (type_spec_at b) spell_type_spec high P b (type_spec_sound b) ts w.0 w.1 in
    let same : (type_decl k w.0.0, w.0.1) ≡ x = cc (w.2) in
    let front = word keyword.«Type» k in
    subst (ReadsItem TypeDeclTree spell_types types_height Wf_types (suc b) (front ∷ ts)) same (record { spelled_as = ap (λ l. front ∷ l) r.spelled_as; wf = r.wf; low = omega (arith, r.low) })

-- The keyword in front.
pub value_word_here : (v : ValueTree) (rest : List Terminal) → value_word (spell_value v ++ rest) ≡ Some (v.kind, v.keyword, spell_specs spell_value_spec v.specs ++ rest)
value_word_here v rest = of_kind v.kind
  where
    of_kind : (kind : ValueKind) → value_word (word (keyword_of kind) v.keyword ∷ (spell_specs spell_value_spec v.specs ++ rest)) ≡ Some (kind, v.keyword, spell_specs spell_value_spec v.specs ++ rest)
    of_kind kinds.Const = refl
    of_kind kinds.Var = refl

var_was : (ts : List Terminal) (p : MarkAhead) → keyword_at keyword.Var ts ≡ p → (w : ValueKind × Span × List Terminal) → value_var p ≡ Some w → ts ≡ word (keyword_of w.0) w.1 ∷ w.2
var_was ts None at w e = cc
var_was ts (Some s) at w e =
    let same : (kinds.Var, s.0, s.1) ≡ w = cc in
    word_was keyword.Var ts s at ∙ ap (λ (w : ValueKind × Span × List Terminal). word (keyword_of w.0) w.1 ∷ w.2) same

const_was : (ts : List Terminal) (p : MarkAhead) → keyword_at keyword.Const ts ≡ p → (w : ValueKind × Span × List Terminal) → value_const ts p ≡ Some w → ts ≡ word (keyword_of w.0) w.1 ∷ w.2
const_was ts None at w e = var_was ts (keyword_at keyword.Var ts) refl w e
const_was ts (Some s) at w e =
    let same : (kinds.Const, s.0, s.1) ≡ w = cc in
    word_was keyword.Const ts s at ∙ ap (λ (w : ValueKind × Span × List Terminal). word (keyword_of w.0) w.1 ∷ w.2) same

pub value_word_was : (ts : List Terminal) (w : ValueKind × Span × List Terminal) → value_word ts ≡ Some w → ts ≡ word (keyword_of w.0) w.1 ∷ w.2
value_word_was ts w e = const_was ts (keyword_at keyword.Const ts) refl w e
