-- The declarations of a file are the identifiers of its table that name declarations.
use Rattle.std.proofs.Common.{◌≡◌, ℕ, ◌+◌, zero, suc, List, [], ◌∷◌, ◌++◌, length, map, All, Option, Some, None, slice_get, refl, ap, sym, ◌∙◌, subst, inl, inr, append-nil, append_assoc, arith}
use Rattle.std.specs.List.{flat_map}
use Rattle.std.proofs.lemmas.List.{map-append}
use Rattle.std.proofs.lemmas.List.Elements.{All-cons, All-append}
use Rattle.go_path_core.specs.text_core.declared.span.Span.{Span}
use Rattle.go_tree_nodes.specs.declared.names.Ident.{Ident}
use Rattle.go_tree_nodes.specs.declared.decls.ValueKind.{ValueKind}
use Rattle.go_tree_nodes.specs.declared.decls.ValueKind.TheVariants as value_kinds
use Rattle.go_tree_nodes.specs.declared.files.Receiver.{Receiver}
use Rattle.go_tree_nodes.specs.Trees.{Separated, One, Then, TypeTree, FieldTrees, MethodTrees, SignatureTree, ResultTree, ParamTrees, NamedType, Pointer, ParenType, Struct, Interface, NoFields, NamedFields, EmbeddedField, NoMethods, Method, Signed, NoResult, OneResult, Results, NoParams, Param, ExprTree, ItemTrees, Integer, Text, Named, Paren, Unary, Binary, Select, Call, Literal, StructLiteral, NoItems, Item, ValueSpecTree, Specs, Single, Group, TypeSpecTree, FuncTree, DeclTree, Value, Types, Func, FileTree, of_specs}
use Rattle.go_decl_core.specs.declared.places.DeclKind.{DeclKind}
use Rattle.go_decl_core.specs.declared.places.DeclKind.TheVariants as kinds
use Rattle.go_decl_core.specs.Outer.{Outer, Manner, Whole, Part, Embedded, outer, idents_outers, names_outers, type_outers, fields_outers, methods_outers, signature_outers, result_outers, params_outers, expr_outers, items_outers, exprs_outers, some_type_outers, values_outers, kind_of_value, kind_of_func, rest_outers, value_spec_outers, type_spec_outers, receiver_name_outers, receiver_outers, func_outers, decl_outers, outer_names}
use Rattle.go_decl_core.specs.TopDecls.{TopDeclTree, kind_of_form, numbered, named_decls, value_spec_decls, type_spec_decls, specs_decls, func_decls, decl_decls, top_decls}
use Rattle.go_decl_core.specs.Laws.{KnownDecl, known, if_whole, wholes, MannerFits, NumbersArePlaces}

wholes_append : (n : ℕ) (os ps : List Outer) → wholes n (os ++ ps) ≡ wholes n os ++ wholes (n + length os) ps
wholes_append n [] ps = ap (λ m. wholes m ps) (let e : n ≡ n + 0 = omega arith in e)
wholes_append n (o ∷ os) ps =
    let front = if_whole o.manner (record { ident = o.ident; number = n; kind = o.kind }) in
    ap (λ ks. front ++ ks) (wholes_append (n + 1) os ps)
    ∙ (sym (append_assoc front (wholes (n + 1) os) (wholes (n + 1 + length os) ps))
    ∙ ap (λ m. (front ++ wholes (n + 1) os) ++ wholes m ps) (let e : n + 1 + length os ≡ n + length (o ∷ os) = omega arith in e))

-- identifiers none of which names a declaration
record Parts (os : List Outer) : Type 0 where
  none : (n : ℕ) → wholes n os ≡ []

parts_none : Parts []
parts_none = record { none = λ n. refl }

parts_more : {k : DeclKind} {x : Ident} {os : List Outer} → Parts os → Parts (outer k Part x ∷ os)
parts_more h = record { none = λ n. h.none (n + 1) }

parts_embedded : {k : DeclKind} {x : Ident} {os : List Outer} → Parts os → Parts (outer k Embedded x ∷ os)
parts_embedded h = record { none = λ n. h.none (n + 1) }

parts_both : {os ps : List Outer} → Parts os → Parts ps → Parts (os ++ ps)
parts_both {os} {ps} h g = record { none = λ n. wholes_append n os ps ∙ (ap (λ l. l ++ wholes (n + length os) ps) (h.none n) ∙ g.none (n + length os)) }

idents_parts : (k : DeclKind) (xs : Separated Ident) → Parts (idents_outers k Part xs)
idents_parts k (One x) = parts_more parts_none
idents_parts k (Then x comma xs) = parts_more (idents_parts k xs)

names_parts : (xs : Option (Separated Ident)) → Parts (names_outers xs)
names_parts None = parts_none
names_parts (Some xs) = idents_parts _ xs

mutual
  type_parts : (t : TypeTree) → Parts (type_outers t)
  type_parts (NamedType n) = parts_none
  type_parts (Pointer star t) = type_parts t
  type_parts (ParenType first t last) = type_parts t
  type_parts (Struct k first ls last) = fields_parts ls
  type_parts (Interface k first ms last) = methods_parts ms

  fields_parts : (ls : FieldTrees) → Parts (fields_outers ls)
  fields_parts NoFields = parts_none
  fields_parts (NamedFields xs t tag s rest) = parts_both (idents_parts _ xs) (parts_both (type_parts t) (fields_parts rest))
  fields_parts (EmbeddedField star n tag s rest) = parts_embedded (fields_parts rest)

  methods_parts : (ms : MethodTrees) → Parts (methods_outers ms)
  methods_parts NoMethods = parts_none
  methods_parts (Method x signature s rest) = parts_more (parts_both (signature_parts signature) (methods_parts rest))

  signature_parts : (s : SignatureTree) → Parts (signature_outers s)
  signature_parts (Signed first params last result) = parts_both (params_parts params) (result_parts result)

  result_parts : (r : ResultTree) → Parts (result_outers r)
  result_parts NoResult = parts_none
  result_parts (OneResult t) = type_parts t
  result_parts (Results first params last) = params_parts params

  params_parts : (ps : ParamTrees) → Parts (params_outers ps)
  params_parts NoParams = parts_none
  params_parts (Param xs t comma rest) = parts_both (names_parts xs) (parts_both (type_parts t) (params_parts rest))

mutual
  expr_parts : (t : ExprTree) → Parts (expr_outers t)
  expr_parts (Integer n span) = parts_none
  expr_parts (Text t) = parts_none
  expr_parts (Named x) = parts_none
  expr_parts (Paren first t last) = expr_parts t
  expr_parts (Unary op span t) = expr_parts t
  expr_parts (Binary a op span b) = parts_both (expr_parts a) (expr_parts b)
  expr_parts (Select t dot x) = expr_parts t
  expr_parts (Call t first items last) = parts_both (expr_parts t) (items_parts items)
  expr_parts (Literal n first items last) = items_parts items
  expr_parts (StructLiteral t first items last) = parts_both (type_parts t) (items_parts items)

  items_parts : (is : ItemTrees) → Parts (items_outers is)
  items_parts NoItems = parts_none
  items_parts (Item key t comma rest) = parts_both (expr_parts t) (items_parts rest)

exprs_parts : (es : Separated ExprTree) → Parts (exprs_outers es)
exprs_parts (One t) = expr_parts t
exprs_parts (Then t comma more) = parts_both (expr_parts t) (exprs_parts more)

some_type_parts : (t : Option TypeTree) → Parts (some_type_outers t)
some_type_parts None = parts_none
some_type_parts (Some t) = type_parts t

values_parts : (v : Option (Span × Separated ExprTree)) → Parts (values_outers v)
values_parts None = parts_none
values_parts (Some v) = exprs_parts v.1

rest_parts : (v : ValueSpecTree) → Parts (rest_outers v)
rest_parts v = parts_both (some_type_parts v.type_expr) (values_parts v.values)

receiver_name_parts : (x : Option Ident) → Parts (receiver_name_outers x)
receiver_name_parts None = parts_none
receiver_name_parts (Some x) = parts_more parts_none

receiver_parts : (r : Option Receiver) → Parts (receiver_outers r)
receiver_parts None = parts_none
receiver_parts (Some r) = receiver_name_parts r.name

-- declarations whose numbers are those of the identifiers that name declarations
abbrev Are : ℕ → List TopDeclTree → List Outer → Type 0
Are n ds os = map known ds ≡ wholes n os

are_both : (n : ℕ) (ds es : List TopDeclTree) (os ps : List Outer) → Are n ds os → Are (n + length os) es ps → Are n (ds ++ es) (os ++ ps)
are_both n ds es os ps h g =
    map-append known ds es ∙ (ap (λ l. l ++ map known es) h ∙ (ap (λ l. wholes n os ++ l) g ∙ sym (wholes_append n os ps)))

-- what stands behind or before names no declaration
are_behind : (n : ℕ) (ds : List TopDeclTree) (os ps : List Outer) → Are n ds os → Parts ps → Are n ds (os ++ ps)
are_behind n ds os ps h parts = h ∙ (sym (append-nil (wholes n os)) ∙ (ap (λ l. wholes n os ++ l) (sym (parts.none (n + length os))) ∙ sym (wholes_append n os ps)))

are_before : (n : ℕ) (ds : List TopDeclTree) (os ps : List Outer) → Parts os → Are (n + length os) ds ps → Are n ds (os ++ ps)
are_before n ds os ps parts h = h ∙ (ap (λ l. l ++ wholes (n + length os) ps) (sym (parts.none n)) ∙ sym (wholes_append n os ps))

named_are : (k : ValueKind) (v : ValueSpecTree) (n i : ℕ) (xs : Separated Ident) → Are (n + i) (named_decls k v n i xs) (idents_outers (kind_of_value k) Whole xs)
named_are k v n i (One x) = refl
named_are k v n i (Then x comma xs) =
    ap (λ l. record { ident = x; number = n + i; kind = kind_of_value k } ∷ l) (named_are k v n (i + 1) xs ∙ ap (λ m. wholes m (idents_outers (kind_of_value k) Whole xs)) (let e : n + (i + 1) ≡ n + i + 1 = omega arith in e))

value_spec_are : (k : ValueKind) (n : ℕ) (v : ValueSpecTree) → Are n (value_spec_decls k n v) (value_spec_outers k v)
value_spec_are k n v =
    let names = idents_outers (kind_of_value k) Whole v.names in
    are_behind n (value_spec_decls k n v) names (rest_outers v) (named_are k v n 0 v.names ∙ ap (λ m. wholes m names) (let e : n + 0 ≡ n = omega arith in e)) (rest_parts v)

type_spec_are : (n : ℕ) (t : TypeSpecTree) → Are n (type_spec_decls n t) (type_spec_outers t)
type_spec_are n t = ap (λ l. record { ident = t.name; number = n; kind = kinds.«Type» } ∷ l) (sym ((type_parts t.type_expr).none (n + 1)))

numbered_are : {A : Type 0} (f : A → List Outer) (ds : ℕ → A → List TopDeclTree) → ((n : ℕ) (x : A) → Are n (ds n x) (f x)) → (n : ℕ) (xs : List A) → Are n (numbered f ds n xs) (flat_map f xs)
numbered_are f ds each n [] = refl
numbered_are f ds each n (x ∷ xs) = are_both n (ds n x) (numbered f ds (n + length (f x)) xs) (f x) (flat_map f xs) (each n x) (numbered_are f ds each (n + length (f x)) xs)

specs_are : {A : Type 0} (f : A → List Outer) (ds : ℕ → A → List TopDeclTree) → ((n : ℕ) (x : A) → Are n (ds n x) (f x)) → (n : ℕ) (s : Specs A) → Are n (specs_decls f ds n s) (of_specs f s)
specs_are f ds each n (Single x) = each n x
specs_are f ds each n (Group first ls last) = numbered_are (λ l. f l.0) (λ n l. ds n l.0) (λ n l. each n l.0) n ls

func_are : (n : ℕ) (f : FuncTree) → Are n (func_decls n f) (func_outers f)
func_are n f =
    let front = receiver_outers f.receiver in
    let m = n + length front in
    are_before n (func_decls n f) front (outer (kind_of_func f.receiver) Whole f.name ∷ signature_outers f.signature) (receiver_parts f.receiver)
    (ap (λ l. record { ident = f.name; number = m; kind = kind_of_func f.receiver } ∷ l) (sym ((signature_parts f.signature).none (m + 1))))

decl_are : (n : ℕ) (d : DeclTree) → Are n (decl_decls n d) (decl_outers d)
decl_are n (Value v) = specs_are (value_spec_outers v.kind) (value_spec_decls v.kind) (value_spec_are v.kind) n v.specs
decl_are n (Types t) = specs_are type_spec_outers type_spec_decls type_spec_are n t.specs
decl_are n (Func f) = func_are n f

table_of : (f : FileTree) → map known (top_decls f) ≡ wholes 0 (outer_names f)
table_of f = numbered_are (λ t. decl_outers t.decl) (λ n t. decl_decls n t.decl) (λ n t. decl_are n t.decl) 0 f.decls

-- one of the identifiers that name declarations stands in the table at its number

abbrev At : List Outer → ℕ → KnownDecl → Type 0
At os n w = (i : ℕ) × (w.number ≡ n + i) × (slice_get os i ≡ Some (outer w.kind Whole w.ident))

behind_one : (o : Outer) (os : List Outer) (n : ℕ) (w : KnownDecl) → At os (n + 1) w → At (o ∷ os) n w
behind_one o os n w r = (suc r.0, (let e : w.number ≡ n + suc r.0 = omega (arith, r.1) in e), r.2)

at_case : (m : Manner) (x : Ident) (kind : DeclKind) (os : List Outer) (n k : ℕ) (w : KnownDecl) → ((j : ℕ) → slice_get (wholes (n + 1) os) j ≡ Some w → At os (n + 1) w) → slice_get (if_whole m (record { ident = x; number = n; kind = kind }) ++ wholes (n + 1) os) k ≡ Some w → At (outer kind m x ∷ os) n w
at_case Whole x kind os n zero w rest h =
    let one : KnownDecl = record { ident = x; number = n; kind = kind } in
    let same : one ≡ w = (let e : Some one ≡ Some w = h in cc) in
    subst (At (outer kind Whole x ∷ os) n) same (0, (let e : n ≡ n + 0 = omega arith in e), refl)
at_case Whole x kind os n (suc k) w rest h = behind_one (outer kind Whole x) os n w (rest k h)
at_case Part x kind os n k w rest h = behind_one (outer kind Part x) os n w (rest k h)
at_case Embedded x kind os n k w rest h = behind_one (outer kind Embedded x) os n w (rest k h)

wholes_at : (os : List Outer) (n k : ℕ) (w : KnownDecl) → slice_get (wholes n os) k ≡ Some w → At os n w
wholes_at [] n k w h = (let e : None ≡ Some w = h in cc)
wholes_at (o ∷ os) n k w h = at_case o.manner o.ident o.kind os n k w (λ j e. wholes_at os (n + 1) j w e) h

-- an identifier of the table that names a declaration is one of these

found_case : (m : Manner) (one : KnownDecl) (ks : List KnownDecl) (w : KnownDecl) → (k : ℕ) × (slice_get ks k ≡ Some w) → (k : ℕ) × (slice_get (if_whole m one ++ ks) k ≡ Some w)
found_case Whole one ks w r = (suc r.0, r.1)
found_case Part one ks w r = r
found_case Embedded one ks w r = r

whole_found : (os : List Outer) (n i : ℕ) (o : Outer) → slice_get os i ≡ Some o → o.manner ≡ Whole → (k : ℕ) × (slice_get (wholes n os) k ≡ Some (record { ident = o.ident; number = n + i; kind = o.kind }))
whole_found [] n i o h whole = (let e : None ≡ Some o = h in cc)
whole_found (p ∷ os) n zero o h whole =
    let same : o ≡ p = (let e : Some p ≡ Some o = h in cc) in
    let first : KnownDecl = record { ident = o.ident; number = n; kind = o.kind } in
    let P : Manner → Type 0 = λ m. (k : ℕ) × (slice_get (if_whole m first ++ wholes (n + 1) os) k ≡ Some (record { ident = o.ident; number = n + 0; kind = o.kind })) in
    let Q : Outer → Type 0 = λ p. (k : ℕ) × (slice_get (wholes n (p ∷ os)) k ≡ Some (record { ident = o.ident; number = n + 0; kind = o.kind })) in
    subst Q same (subst P (sym whole) (0, ap (λ m. Some (record { ident = o.ident; number = m; kind = o.kind })) (let e : n ≡ n + 0 = omega arith in e)))
whole_found (p ∷ os) n (suc i) o h whole =
    let r = whole_found os (n + 1) i o h whole in
    let e : n + 1 + i ≡ n + suc i = omega arith in
    found_case p.manner (record { ident = p.ident; number = n; kind = p.kind }) (wholes (n + 1) os) (record { ident = o.ident; number = n + suc i; kind = o.kind }) (r.0, r.1 ∙ ap (λ m. Some (record { ident = o.ident; number = m; kind = o.kind })) e)

-- two of them have two numbers

one_case : (m : Manner) (x : Ident) (kind : DeclKind) (os : List Outer) (n j k : ℕ) (v w : KnownDecl) → ((a b : ℕ) → slice_get (wholes (n + 1) os) a ≡ Some v → slice_get (wholes (n + 1) os) b ≡ Some w → a ≡ b) → slice_get (if_whole m (record { ident = x; number = n; kind = kind }) ++ wholes (n + 1) os) j ≡ Some v → slice_get (if_whole m (record { ident = x; number = n; kind = kind }) ++ wholes (n + 1) os) k ≡ Some w → v.number ≡ w.number → j ≡ k
one_case Whole x kind os n zero zero v w rest h g same = refl
one_case Whole x kind os n zero (suc k) v w rest h g same =
    let one : KnownDecl = record { ident = x; number = n; kind = kind } in
    let first : n ≡ v.number = ap (λ k. k.number) (let e : one ≡ v = (let f : Some one ≡ Some v = h in cc) in e) in
    let later = wholes_at os (n + 1) k w g in
    absurd (omega (arith, first, later.1, same))
one_case Whole x kind os n (suc j) zero v w rest h g same =
    let one : KnownDecl = record { ident = x; number = n; kind = kind } in
    let first : n ≡ w.number = ap (λ k. k.number) (let e : one ≡ w = (let f : Some one ≡ Some w = g in cc) in e) in
    let later = wholes_at os (n + 1) j v h in
    absurd (omega (arith, first, later.1, same))
one_case Whole x kind os n (suc j) (suc k) v w rest h g same = ap suc (rest j k h g)
one_case Part x kind os n j k v w rest h g same = rest j k h g
one_case Embedded x kind os n j k v w rest h g same = rest j k h g

wholes_one : (os : List Outer) (n j k : ℕ) (v w : KnownDecl) → slice_get (wholes n os) j ≡ Some v → slice_get (wholes n os) k ≡ Some w → v.number ≡ w.number → j ≡ k
wholes_one [] n j k v w h g same = (let e : None ≡ Some v = h in cc)
wholes_one (o ∷ os) n j k v w h g same = one_case o.manner o.ident o.kind os n j k v w (λ a b p q. wholes_one os (n + 1) a b v w p q same) h g same

-- elements of a list that a function was applied to

mapped_at : {A B : Type 0} (f : A → B) (xs : List A) (k : ℕ) (x : A) → slice_get xs k ≡ Some x → slice_get (map f xs) k ≡ Some (f x)
mapped_at f [] k x h = (let e : None ≡ Some x = h in cc)
mapped_at f (y ∷ ys) zero x h = ap (λ z. Some (f z)) (let e : y ≡ x = (let g : Some y ≡ Some x = h in cc) in e)
mapped_at f (y ∷ ys) (suc k) x h = mapped_at f ys k x h

from_mapped : {A B : Type 0} (f : A → B) (xs : List A) (k : ℕ) (b : B) → slice_get (map f xs) k ≡ Some b → (x : A) × (slice_get xs k ≡ Some x) × (f x ≡ b)
from_mapped f [] k b h = (let e : None ≡ Some b = h in cc)
from_mapped f (y ∷ ys) zero b h = (y, refl, (let g : Some (f y) ≡ Some b = h in cc))
from_mapped f (y ∷ ys) (suc k) b h = from_mapped f ys k b h

known_at : (f : FileTree) (k : ℕ) (d : TopDeclTree) → slice_get (top_decls f) k ≡ Some d → slice_get (wholes 0 (outer_names f)) k ≡ Some (known d)
known_at f k d h = ap (λ ks. slice_get ks k) (sym (table_of f)) ∙ mapped_at known (top_decls f) k d h

stands : (f : FileTree) (k : ℕ) (d : TopDeclTree) → slice_get (top_decls f) k ≡ Some d → slice_get (outer_names f) d.number ≡ Some (outer (kind_of_form d.form) Whole d.ident)
stands f k d h =
    let r = wholes_at (outer_names f) 0 k (known d) (known_at f k d h) in
    ap (λ n. slice_get (outer_names f) n) (let e : d.number ≡ r.0 = omega (arith, r.1) in e) ∙ r.2

found : (f : FileTree) (n : ℕ) (o : Outer) → slice_get (outer_names f) n ≡ Some o → o.manner ≡ Whole → (k : ℕ) × (d : TopDeclTree) × (slice_get (top_decls f) k ≡ Some d) × (d.ident ≡ o.ident) × (d.number ≡ n) × (kind_of_form d.form ≡ o.kind)
found f n o h whole =
    let r = whole_found (outer_names f) 0 n o h whole in
    let d = from_mapped known (top_decls f) r.0 (record { ident = o.ident; number = 0 + n; kind = o.kind }) (ap (λ ks. slice_get ks r.0) (table_of f) ∙ r.1) in
    (r.0, d.0, d.1, ap (λ k. k.ident) d.2, (let e : d.0.number ≡ 0 + n = ap (λ k. k.number) d.2 in omega (arith, e)), ap (λ k. k.kind) d.2)

one : (f : FileTree) (j k : ℕ) (d e : TopDeclTree) → slice_get (top_decls f) j ≡ Some d → slice_get (top_decls f) k ≡ Some e → d.number ≡ e.number → j ≡ k
one f j k d e h g same = wholes_one (outer_names f) 0 j k (known d) (known e) (known_at f j d h) (known_at f k e g) same

-- kinds and manners

record Fits (os : List Outer) : Type 0 where
  each : All (λ o. MannerFits o.kind o.manner) os

fits_none : Fits []
fits_none = record { each = λ k d lt. absurd (omega arith) }

fits_more : {k : DeclKind} {m : Manner} {x : Ident} {os : List Outer} → MannerFits k m → Fits os → Fits (outer k m x ∷ os)
fits_more {k} {m} {x} {os} h g = record { each = All-cons (λ o. MannerFits o.kind o.manner) (outer k m x) os h g.each }

fits_both : {os ps : List Outer} → Fits os → Fits ps → Fits (os ++ ps)
fits_both {os} {ps} h g = record { each = All-append (λ o. MannerFits o.kind o.manner) os ps h.each g.each }

idents_fit : (k : DeclKind) (m : Manner) → MannerFits k m → (xs : Separated Ident) → Fits (idents_outers k m xs)
idents_fit k m h (One x) = fits_more h fits_none
idents_fit k m h (Then x comma xs) = fits_more h (idents_fit k m h xs)

names_fit : (xs : Option (Separated Ident)) → Fits (names_outers xs)
names_fit None = fits_none
names_fit (Some xs) = idents_fit kinds.Param Part refl xs

mutual
  type_fits : (t : TypeTree) → Fits (type_outers t)
  type_fits (NamedType n) = fits_none
  type_fits (Pointer star t) = type_fits t
  type_fits (ParenType first t last) = type_fits t
  type_fits (Struct k first ls last) = fields_fit ls
  type_fits (Interface k first ms last) = methods_fit ms

  fields_fit : (ls : FieldTrees) → Fits (fields_outers ls)
  fields_fit NoFields = fits_none
  fields_fit (NamedFields xs t tag s rest) = fits_both (idents_fit kinds.Field Part (inl refl) xs) (fits_both (type_fits t) (fields_fit rest))
  fields_fit (EmbeddedField star n tag s rest) = fits_more (inr refl) (fields_fit rest)

  methods_fit : (ms : MethodTrees) → Fits (methods_outers ms)
  methods_fit NoMethods = fits_none
  methods_fit (Method x signature s rest) = fits_more (inr refl) (fits_both (signature_fits signature) (methods_fit rest))

  signature_fits : (s : SignatureTree) → Fits (signature_outers s)
  signature_fits (Signed first params last result) = fits_both (params_fit params) (result_fits result)

  result_fits : (r : ResultTree) → Fits (result_outers r)
  result_fits NoResult = fits_none
  result_fits (OneResult t) = type_fits t
  result_fits (Results first params last) = params_fit params

  params_fit : (ps : ParamTrees) → Fits (params_outers ps)
  params_fit NoParams = fits_none
  params_fit (Param xs t comma rest) = fits_both (names_fit xs) (fits_both (type_fits t) (params_fit rest))

mutual
  expr_fits : (t : ExprTree) → Fits (expr_outers t)
  expr_fits (Integer n span) = fits_none
  expr_fits (Text t) = fits_none
  expr_fits (Named x) = fits_none
  expr_fits (Paren first t last) = expr_fits t
  expr_fits (Unary op span t) = expr_fits t
  expr_fits (Binary a op span b) = fits_both (expr_fits a) (expr_fits b)
  expr_fits (Select t dot x) = expr_fits t
  expr_fits (Call t first items last) = fits_both (expr_fits t) (items_fit items)
  expr_fits (Literal n first items last) = items_fit items
  expr_fits (StructLiteral t first items last) = fits_both (type_fits t) (items_fit items)

  items_fit : (is : ItemTrees) → Fits (items_outers is)
  items_fit NoItems = fits_none
  items_fit (Item key t comma rest) = fits_both (expr_fits t) (items_fit rest)

exprs_fit : (es : Separated ExprTree) → Fits (exprs_outers es)
exprs_fit (One t) = expr_fits t
exprs_fit (Then t comma more) = fits_both (expr_fits t) (exprs_fit more)

some_type_fits : (t : Option TypeTree) → Fits (some_type_outers t)
some_type_fits None = fits_none
some_type_fits (Some t) = type_fits t

values_fit : (v : Option (Span × Separated ExprTree)) → Fits (values_outers v)
values_fit None = fits_none
values_fit (Some v) = exprs_fit v.1

value_kind_fits : (k : ValueKind) → MannerFits (kind_of_value k) Whole
value_kind_fits value_kinds.Const = refl
value_kind_fits value_kinds.Var = refl

value_spec_fits : (k : ValueKind) (v : ValueSpecTree) → Fits (value_spec_outers k v)
value_spec_fits k v = fits_both (idents_fit (kind_of_value k) Whole (value_kind_fits k) v.names) (fits_both (some_type_fits v.type_expr) (values_fit v.values))

type_spec_fits : (t : TypeSpecTree) → Fits (type_spec_outers t)
type_spec_fits t = fits_more refl (type_fits t.type_expr)

flat_fits : {A : Type 0} (f : A → List Outer) → ((x : A) → Fits (f x)) → (xs : List A) → Fits (flat_map f xs)
flat_fits f each [] = fits_none
flat_fits f each (x ∷ xs) = fits_both (each x) (flat_fits f each xs)

specs_fit : {A : Type 0} (f : A → List Outer) → ((x : A) → Fits (f x)) → (s : Specs A) → Fits (of_specs f s)
specs_fit f each (Single x) = each x
specs_fit f each (Group first ls last) = flat_fits (λ l. f l.0) (λ l. each l.0) ls

receiver_name_fits : (x : Option Ident) → Fits (receiver_name_outers x)
receiver_name_fits None = fits_none
receiver_name_fits (Some x) = fits_more refl fits_none

receiver_fits : (r : Option Receiver) → Fits (receiver_outers r)
receiver_fits None = fits_none
receiver_fits (Some r) = receiver_name_fits r.name

func_kind_fits : (r : Option Receiver) → MannerFits (kind_of_func r) Whole
func_kind_fits None = refl
func_kind_fits (Some r) = inl refl

decl_fits : (d : DeclTree) → Fits (decl_outers d)
decl_fits (Value v) = specs_fit (value_spec_outers v.kind) (value_spec_fits v.kind) v.specs
decl_fits (Types t) = specs_fit type_spec_outers type_spec_fits t.specs
decl_fits (Func f) = fits_both (receiver_fits f.receiver) (fits_more (func_kind_fits f.receiver) (signature_fits f.signature))

pub numbers_are_places : NumbersArePlaces
numbers_are_places = record { table = table_of; stands = stands; found = found; one = one; manners = λ f. (flat_fits (λ t. decl_outers t.decl) (λ t. decl_fits t.decl) f.decls).each }
