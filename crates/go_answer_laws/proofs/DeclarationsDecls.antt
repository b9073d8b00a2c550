-- What the declarations of a file write is among the identifiers of the file's table.
use Rattle.std.proofs.Common.{◌≡◌, ℕ, ◌+◌, Bool, true, List, [], ◌∷◌, ◌++◌, length, Option, Some, None, inl, inr, refl, sym, ap, subst}
use Rattle.std.specs.Prelude.{slice_get}
use Rattle.std.specs.List.{flat_map, list_all}
use Rattle.go_site_core.specs.text_core.declared.span.Span.{Span}
use Rattle.go_tree_nodes.specs.declared.decls.ValueKind.{ValueKind}
use Rattle.go_tree_nodes.specs.Trees.{Separated, One, Then, TypeTree, ExprTree, ItemTrees, Integer, Text, Named, Paren, Unary, Binary, Select, Call, Literal, StructLiteral, NoItems, Item, ValueSpecTree, TypeSpecTree, Specs, Single, Group, FuncTree, DeclTree, Value, Types, Func, TopTree, FileTree, of_specs}
use Rattle.go_tree_nodes.specs.WrittenTypes.{expr_types, exprs_types, items_types, some_type, spec_types, values_types}
use Rattle.go_tree_nodes.specs.declared.names.Ident.{Ident}
use Rattle.go_term_core.specs.decl_core.Outer.{Outer, Whole, decl_outers, expr_outers, exprs_outers, func_outers, idents_outers, items_outers, kind_of_value, outer_names, receiver_outers, rest_outers, signature_outers, some_type_outers, tops_outers, type_outers, type_spec_outers, value_spec_outers, values_outers}
use Rattle.go_term_core.specs.decl_core.TopDecls.{FormTree, FuncForm, TopDeclTree, TypeForm, ValueForm, decl_decls, named_decls, numbered, specs_decls, top_decls, tops_decls, type_spec_decls, value_spec_decls}
use Rattle.go_stmt_core.specs.inline_core.Trees.{func_types}
use Rattle.go_names_core.specs.local_core.Outline.{func_steps}
use Rattle.go_typexpr_core.proofs.EntryAmong.{Among, among_cases, among_left, among_right, flat_among}
use Rattle.go_query_core.specs.body_core.FileStands.{decl_funcs, file_funcs}
use Rattle.go_stmt_core.specs.statement.Locality.{Each}
use Rattle.go_answer_laws.specs.declarations.Found.{steps_declare}
use Rattle.go_answer_laws.proofs.DeclarationsFunctions.{EachSpec, IsGood, IsGoodDecl, good_all}
use Rattle.go_answer_laws.proofs.DeclarationsTables.{form_outers}

pub each_of : {X : Type 0} (Is : X → Type 0) (xs : List X) → ((x : X) → Among xs x → Is x) → Each Is xs
each_of Is [] h = tt
each_of Is (x ∷ xs) h = (h x (inl refl), each_of Is xs (λ y a. h y (inr a)))

-- the types of a specification

mutual
  expr_among : (e : ExprTree) (t : TypeTree) (o : Outer) → Among (expr_types e) t → Among (type_outers t) o → Among (expr_outers e) o
  expr_among (Integer n span) t o a b = absurd a
  expr_among (Text s) t o a b = absurd a
  expr_among (Named x) t o a b = absurd a
  expr_among (Paren first e last) t o a b = expr_among e t o a b
  expr_among (Unary op span e) t o a b = expr_among e t o a b
  expr_among (Binary c op span d) t o a b = elim (among_cases (expr_types c) (expr_types d) t a) [
    | inl l ↦ among_left (expr_outers c) (expr_outers d) o (expr_among c t o l b)
    | inr r ↦ among_right (expr_outers c) (expr_outers d) o (expr_among d t o r b)
  ]
  expr_among (Select e dot x) t o a b = expr_among e t o a b
  expr_among (Call e first items last) t o a b = elim (among_cases (expr_types e) (items_types items) t a) [
    | inl l ↦ among_left (expr_outers e) (items_outers items) o (expr_among e t o l b)
    | inr r ↦ among_right (expr_outers e) (items_outers items) o (items_among items t o r b)
  ]
  expr_among (Literal n first items last) t o a b = items_among items t o a b
  expr_among (StructLiteral u first items last) t o (inl e) b = among_left (type_outers u) (items_outers items) o (subst (λ w. Among (type_outers w) o) (sym e) b)
  expr_among (StructLiteral u first items last) t o (inr r) b = among_right (type_outers u) (items_outers items) o (items_among items t o r b)

  items_among : (is : ItemTrees) (t : TypeTree) (o : Outer) → Among (items_types is) t → Among (type_outers t) o → Among (items_outers is) o
  items_among NoItems t o a b = absurd a
  items_among (Item key e comma rest) t o a b = elim (among_cases (expr_types e) (items_types rest) t a) [
    | inl l ↦ among_left (expr_outers e) (items_outers rest) o (expr_among e t o l b)
    | inr r ↦ among_right (expr_outers e) (items_outers rest) o (items_among rest t o r b)
  ]

exprs_among : (es : Separated ExprTree) (t : TypeTree) (o : Outer) → Among (exprs_types es) t → Among (type_outers t) o → Among (exprs_outers es) o
exprs_among (One e) t o a b = expr_among e t o a b
exprs_among (Then e comma more) t o a b = elim (among_cases (expr_types e) (exprs_types more) t a) [
  | inl l ↦ among_left (expr_outers e) (exprs_outers more) o (expr_among e t o l b)
  | inr r ↦ among_right (expr_outers e) (exprs_outers more) o (exprs_among more t o r b)
]

some_among : (u : Option TypeTree) (t : TypeTree) (o : Outer) → Among (some_type u) t → Among (type_outers t) o → Among (some_type_outers u) o
some_among None t o a b = absurd a
some_among (Some u) t o (inl e) b = subst (λ w. Among (type_outers w) o) (sym e) b
some_among (Some u) t o (inr none) b = absurd none

values_among : (v : Option (Span × Separated ExprTree)) (t : TypeTree) (o : Outer) → Among (values_types v) t → Among (type_outers t) o → Among (values_outers v) o
values_among None t o a b = absurd a
values_among (Some v) t o a b = exprs_among v.1 t o a b

pub spec_among : (v : ValueSpecTree) (t : TypeTree) (o : Outer) → Among (spec_types v) t → Among (type_outers t) o → Among (rest_outers v) o
spec_among v t o a b = elim (among_cases (some_type v.type_expr) (values_types v.values) t a) [
  | inl l ↦ among_left (some_type_outers v.type_expr) (values_outers v.values) o (some_among v.type_expr t o l b)
  | inr r ↦ among_right (some_type_outers v.type_expr) (values_outers v.values) o (values_among v.values t o r b)
]

-- what a declaration writes

abbrev IsFormIn : List Outer → TopDeclTree → Type 0
IsFormIn os d = (o : Outer) → Among (form_outers d.form) o → Among os o

form_moved : (os : List Outer) (d e : TopDeclTree) → d ≡ e → IsFormIn os d → IsFormIn os e
form_moved os d e same h = subst (IsFormIn os) same h

named_form : (k : ValueKind) (v : ValueSpecTree) (n i : ℕ) (xs : Separated Ident) (d : TopDeclTree) → Among (named_decls k v n i xs) d → IsFormIn (rest_outers v) d
named_form k v n i (One x) d (inl e) = form_moved (rest_outers v) _ d e (λ o a. a)
named_form k v n i (One x) d (inr none) = absurd none
named_form k v n i (Then x comma xs) d (inl e) = form_moved (rest_outers v) _ d e (λ o a. a)
named_form k v n i (Then x comma xs) d (inr r) = named_form k v n (i + 1) xs d r

value_form : (k : ValueKind) (n : ℕ) (v : ValueSpecTree) (d : TopDeclTree) → Among (value_spec_decls k n v) d → IsFormIn (value_spec_outers k v) d
value_form k n v d a o b = among_right (idents_outers (kind_of_value k) Whole v.names) (rest_outers v) o (named_form k v n 0 v.names d a o b)

type_form : (n : ℕ) (t : TypeSpecTree) (d : TopDeclTree) → Among (type_spec_decls n t) d → IsFormIn (type_spec_outers t) d
type_form n t d (inl e) = form_moved (type_spec_outers t) _ d e (λ o a. inr a)
type_form n t d (inr none) = absurd none

module _ {A : Type 0} (names : A → List Outer) (decls : ℕ → A → List TopDeclTree) (each : (n : ℕ) (x : A) (d : TopDeclTree) → Among (decls n x) d → IsFormIn (names x) d) where
  numbered_form : (n : ℕ) (xs : List A) (d : TopDeclTree) → Among (numbered names decls n xs) d → IsFormIn (flat_map names xs) d
  numbered_form n [] d a o b = absurd a
  numbered_form n (x ∷ xs) d a o b = elim (among_cases (decls n x) (numbered names decls (n + length (names x)) xs) d a) [
    | inl l ↦ among_left (names x) (flat_map names xs) o (each n x d l o b)
    | inr r ↦ among_right (names x) (flat_map names xs) o (numbered_form (n + length (names x)) xs d r o b)
  ]

specs_form : {A : Type 0} (names : A → List Outer) (decls : ℕ → A → List TopDeclTree) → ((n : ℕ) (x : A) (d : TopDeclTree) → Among (decls n x) d → IsFormIn (names x) d) → (n : ℕ) (s : Specs A) (d : TopDeclTree) → Among (specs_decls names decls n s) d
    → IsFormIn (of_specs names s) d
specs_form names decls each n (Single x) d a = each n x d a
specs_form names decls each n (Group first ls last) d a = numbered_form (λ l. names l.0) (λ m l. decls m l.0) (λ m l e b. each m l.0 e b) n ls d a

decl_form : (n : ℕ) (t : DeclTree) (d : TopDeclTree) → Among (decl_decls n t) d → IsFormIn (decl_outers t) d
decl_form n (Value v) d a = specs_form (value_spec_outers v.kind) (value_spec_decls v.kind) (value_form v.kind) n v.specs d a
decl_form n (Types t) d a = specs_form type_spec_outers type_spec_decls type_form n t.specs d a
decl_form n (Func f) d (inl e) = form_moved (func_outers f) _ d e (λ o a. among_right (receiver_outers f.receiver) _ o (inr a))
decl_form n (Func f) d (inr none) = absurd none

pub top_form : (t : FileTree) (d : TopDeclTree) → Among (top_decls t) d → IsFormIn (outer_names t) d
top_form t d a = numbered_form (λ (x : TopTree). decl_outers x.decl) (λ n (x : TopTree). decl_decls n x.decl) (λ n x e b. decl_form n x.decl e b) 0 t.decls d a

-- the declarations of a file are good, where its identifiers are

module _ (good : Outer → Bool) where
  abbrev pub AreGood : List Outer → Type 0
  AreGood os = (o : Outer) → Among os o → good o ≡ true

  type_good : (t : TypeTree) → AreGood (type_outers t) → IsGood good t
  type_good t h = good_all good (type_outers t) (each_of (λ o. good o ≡ true) (type_outers t) h)

  pub spec_good : (v : ValueSpecTree) → AreGood (rest_outers v) → Each (IsGood good) (spec_types v)
  spec_good v h = each_of (IsGood good) (spec_types v) (λ t a. type_good t (λ o b. h o (spec_among v t o a b)))

  specs_good : {A : Type 0} (names : A → List Outer) (Is : A → Type 0) → ((x : A) → AreGood (names x) → Is x) → (s : Specs A) → AreGood (of_specs names s) → EachSpec Is s
  specs_good names Is each (Single x) h = each x h
  specs_good names Is each (Group first ls last) h = each_of (λ l. Is l.0) ls (λ l a. each l.0 (λ o b. h o (flat_among (λ l. names l.0) ls o l a b)))

  -- and the names that its functions declare are here

  module _ (Here : Ident → Type 0) where
    func_good : (f : FuncTree) → ((t : TypeTree) → Among (func_types f) t → AreGood (type_outers t)) → ((x : Ident) → Among (steps_declare (func_steps f)) x → Here x) → Each (IsGood good) (func_types f) × Each Here (steps_declare (func_steps f))
    func_good f h k = (each_of (IsGood good) (func_types f) (λ t a. type_good t (h t a)), each_of Here (steps_declare (func_steps f)) k)

    decl_good : (d : DeclTree) → AreGood (decl_outers d) → ((f : FuncTree) → Among (decl_funcs d) f → (t : TypeTree) → Among (func_types f) t → AreGood (type_outers t)) → ((f : FuncTree) → Among (decl_funcs d) f → (x : Ident) → Among (steps_declare (func_steps f)) x → Here x)
        → IsGoodDecl good Here d
    decl_good (Value v) h k l = specs_good (value_spec_outers v.kind) (λ s. Each (IsGood good) (spec_types s)) (λ s q. spec_good s (λ o a. q o (among_right (idents_outers (kind_of_value v.kind) Whole s.names) (rest_outers s) o a))) v.specs h
    decl_good (Types t) h k l = specs_good type_spec_outers (λ s. IsGood good s.type_expr) (λ s q. type_good s.type_expr (λ o a. q o (inr a))) t.specs h
    decl_good (Func f) h k l = func_good f (k f (inl refl)) (l f (inl refl))

    pub tops_good : (t : FileTree) → AreGood (outer_names t) → ((f : FuncTree) → Among (file_funcs t) f → (u : TypeTree) → Among (func_types f) u → AreGood (type_outers u)) → ((f : FuncTree) → Among (file_funcs t) f → (x : Ident) → Among (steps_declare (func_steps f)) x → Here x)
        → Each (λ (d : TopTree). IsGoodDecl good Here d.decl) t.decls
    tops_good t h k l =
        each_of (λ (d : TopTree). IsGoodDecl good Here d.decl) t.decls
        (λ d a. decl_good d.decl (λ o b. h o (flat_among (λ (x : TopTree). decl_outers x.decl) t.decls o d a b))
        (λ f b. k f (flat_among (λ (x : TopTree). decl_funcs x.decl) t.decls f d a b)) (λ f b. l f (flat_among (λ (x : TopTree). decl_funcs x.decl) t.decls f d a b)))
