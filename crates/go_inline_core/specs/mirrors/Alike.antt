-- What the types of a piece are rests on the names alone that the piece writes.
use Rattle.std.proofs.Common.{◌≡◌, true, List, [], ◌∷◌, ◌++◌, map, Option, Some, None, ℕ, refl, sym, ap, ◌∙◌}
use Rattle.std.specs.Prelude.{if◌then◌else◌}
use Rattle.std.proofs.lemmas.List.{map-append}
use Rattle.go_tree_nodes.specs.text_core.declared.span.Span.{Span}
use Rattle.go_tree_nodes.specs.token_core.declared.kind.Operator.TheVariants as operator
use Rattle.go_tree_nodes.specs.declared.types.TypeName.{TypeName}
use Rattle.go_tree_nodes.specs.declared.types.TypeName.TheVariants as type_name
use Rattle.go_tree_nodes.specs.Terminals.{Terminal}
use Rattle.go_tree_nodes.specs.Trees.{Separated, One, Then, TypeTree, FieldTrees, MethodTrees, SignatureTree, ResultTree, ParamTrees, NamedType, Pointer, ParenType, Struct, Interface, NoFields, NamedFields, EmbeddedField, NoMethods, Method, Signed, NoResult, OneResult, Results, NoParams, Param, ExprTree, ItemTrees, Integer, Text, Named, Paren, Unary, Binary, Select, Call, Literal, StructLiteral, NoItems, Item, ValueSpecTree, SimpleTree, Alone, Step, Assign, Update, Define}
use Rattle.go_tree_nodes.specs.Spelling.{spell_idents, spell_some, spell_type_name, spell_tag, spell_names, spell_type, spell_fields, spell_methods, spell_signature, spell_result, spell_params, spell_key, spell, spell_items, spell_exprs, spell_some_type, spell_values, spell_value_spec, spell_simple, spell_some_exprs, spell_receiver}
use Rattle.go_tree_nodes.specs.WrittenTypes.{expr_types, items_types, exprs_types, some_exprs_types, params_types, result_types, signature_types, some_type, values_types, spec_types, simple_types}
use Rattle.go_term_core.specs.decl_core.declared.keys.DeclKey.{DeclKey}
use Rattle.go_term_core.specs.decl_core.declared.places.DeclKind.TheVariants as kinds
use Rattle.go_term_core.specs.Terms.{NoType, PointerTo, StructOf, InterfaceOf, AField, AMethod, SignOf, ATerm, NoTerm}
use Rattle.go_term_core.specs.declared.settling.kind.Kind.{Kind}
use Rattle.go_term_core.specs.settling.Settled.{settled}
use Rattle.go_embed_core.specs.Faults.{term_faults}
use Rattle.go_typexpr_core.specs.written.Written.{InFile, Meaning, member_place, term_starred, tag_of, named_fields, for_names, term_of, fields_of_tree, methods_of_tree, signature_of, results_of_tree, params_of_tree}
use Rattle.go_term_core.specs.decl_core.Outer.{last_ident}
use Rattle.go_names_core.specs.local_core.Steps.{Piece, Header, Spec, Act, Condition, Given, spell_piece}
use Rattle.go_names_core.specs.local_core.Binding.{NameLook}
use Rattle.go_names_core.specs.local_core.Alike.{Alike, LookAtNames}
use Rattle.go_inline_core.specs.declared.scoped.Scoped.{Scoped}
use Rattle.go_inline_core.specs.Types.{InlineOf}
use Rattle.go_tree_nodes.specs.Starts.{type_start}
use Rattle.go_names_core.specs.local_core.Pieces.{piece_types}
use Rattle.go_inline_core.specs.Functions.{is_local, meaning_in, inlines_in, inline_note_rules}
use Rattle.go_inline_core.specs.Inline.{located_fault, repeated_params, inline_with}

module _ (kind : DeclKey → Kind) (f : InFile) (top : Meaning) (look other : NameLook Scoped) where
  abbrev mean : Meaning
  mean = meaning_in look top

  abbrev one : Meaning
  one = meaning_in other top

  alike_split : (ts us : List Terminal) → Alike look other (ts ++ us) → Alike look other ts × Alike look other us
  alike_split [] us h = (tt, h)
  alike_split (t ∷ ts) us h = let rest = alike_split ts us h.1 in ((h.0, rest.0), rest.1)

  name_means : (n : TypeName) → Alike look other (spell_type_name n) → mean n ≡ one n
  name_means (type_name.Plain x) h = ap (λ o. if is_local o then NoType else top (type_name.Plain x)) h.0
  name_means (type_name.Qualified q dot x) h = ap (λ o. if is_local o then NoType else top (type_name.Qualified q dot x)) h.0

  mutual
    type_means : (t : TypeTree) → Alike look other (spell_type t) → term_of mean f t ≡ term_of one f t
    type_means (NamedType n) h = name_means n h
    type_means (Pointer star t) h = ap PointerTo (type_means t h.1)
    type_means (ParenType first t last) h = type_means t (alike_split (spell_type t) _ h.1).0
    type_means (Struct k first ls last) h = ap (StructOf f.path) (fields_mean ls (alike_split (spell_fields ls) _ h.1.1).0)
    type_means (Interface k first ms last) h = ap (InterfaceOf f.path) (methods_mean ms (alike_split (spell_methods ms) _ h.1.1).0)

    fields_mean : (fs : FieldTrees) → Alike look other (spell_fields fs) → fields_of_tree mean f fs ≡ fields_of_tree one f fs
    fields_mean NoFields h = refl
    fields_mean (NamedFields xs t tag s rest) h =
        let a = (alike_split (spell_idents xs) _ h).1 in
        let b = alike_split (spell_type t) _ a in
        let c = (alike_split (spell_tag tag) _ b.1).1 in
        let d = (alike_split (spell_some operator.Semicolon s) _ c).1 in
        ap (λ u. named_fields f u (tag_of tag) xs (fields_of_tree mean f rest)) (type_means t b.0) ∙ ap (named_fields f (term_of one f t) (tag_of tag) xs) (fields_mean rest d)
    fields_mean (EmbeddedField star n tag s rest) h =
        let a = (alike_split (spell_some operator.Star star) _ h).1 in
        let b = alike_split (spell_type_name n) _ a in
        let c = (alike_split (spell_tag tag) _ b.1).1 in
        let d = (alike_split (spell_some operator.Semicolon s) _ c).1 in
        ap (λ u. AField (last_ident n).name (member_place f kinds.Field (last_ident n).span.start) true (term_starred star u) (tag_of tag) (fields_of_tree mean f rest)) (name_means n b.0)
        ∙ ap (AField (last_ident n).name (member_place f kinds.Field (last_ident n).span.start) true (term_starred star (one n)) (tag_of tag)) (fields_mean rest d)

    methods_mean : (ms : MethodTrees) → Alike look other (spell_methods ms) → methods_of_tree mean f ms ≡ methods_of_tree one f ms
    methods_mean NoMethods h = refl
    methods_mean (Method x g s rest) h =
        let b = alike_split (spell_signature g) _ h.1 in
        let c = (alike_split (spell_some operator.Semicolon s) _ b.1).1 in
        ap (λ u. AMethod x.name (member_place f kinds.Method x.span.start) u (methods_of_tree mean f rest)) (signature_means g b.0)
        ∙ ap (AMethod x.name (member_place f kinds.Method x.span.start) (signature_of one f g)) (methods_mean rest c)

    signature_means : (g : SignatureTree) → Alike look other (spell_signature g) → signature_of mean f g ≡ signature_of one f g
    signature_means (Signed first ps last r) h =
        let b = alike_split (spell_params ps) _ h.1 in
        ap (λ u. SignOf u (results_of_tree mean f r)) (params_mean ps b.0) ∙ ap (SignOf (params_of_tree one f ps)) (result_means r b.1.1)

    result_means : (r : ResultTree) → Alike look other (spell_result r) → results_of_tree mean f r ≡ results_of_tree one f r
    result_means NoResult h = refl
    result_means (OneResult t) h = ap (λ u. ATerm u NoTerm) (type_means t h)
    result_means (Results first ps last) h = params_mean ps (alike_split (spell_params ps) _ h.1).0

    params_mean : (ps : ParamTrees) → Alike look other (spell_params ps) → params_of_tree mean f ps ≡ params_of_tree one f ps
    params_mean NoParams h = refl
    params_mean (Param xs t comma rest) h =
        let a = (alike_split (spell_names xs) _ h).1 in
        let b = alike_split (spell_type t) _ a in
        let c = (alike_split (spell_some operator.Comma comma) _ b.1).1 in
        ap (λ u. for_names u xs (params_of_tree mean f rest)) (type_means t b.0) ∙ ap (for_names (term_of one f t) xs) (params_mean rest c)

-- what types are is the same where the names among these terminals mean the same
pub record Same (kind : DeclKey → Kind) (f : InFile) (top : Meaning) (look other : NameLook Scoped) (xs : List TypeTree) (ts : List Terminal) : Type 0 where
  pub same : Alike look other ts → inlines_in kind f top look xs ≡ inlines_in kind f top other xs

module _ (kind : DeclKey → Kind) (f : InFile) (top : Meaning) (look other : NameLook Scoped) where
  abbrev IsSame : List TypeTree → List Terminal → Type 0
  IsSame = Same kind f top look other

  none : {ts : List Terminal} → IsSame [] ts
  none = record { same = λ h. refl }

  both : {xs ys : List TypeTree} {ts us : List Terminal} → IsSame xs ts → IsSame ys us → IsSame (xs ++ ys) (ts ++ us)
  both {xs} {ys} {ts} {us} first second = record {
    same = λ h.
        let parts = alike_split kind f top look other ts us h in
        let now = inline_with kind f (meaning_in look top) in
        let then_ = inline_with kind f (meaning_in other top) in
        map-append now xs ys ∙ (ap (λ l. l ++ map now ys) (first.same parts.0) ∙ (ap (λ l. map then_ xs ++ l) (second.same parts.1) ∙ sym (map-append then_ xs ys)));
  }

  front : {xs : List TypeTree} {ts : List Terminal} (us : List Terminal) → IsSame xs ts → IsSame xs (ts ++ us)
  front {xs} {ts} us first = record { same = λ h. first.same (alike_split kind f top look other ts us h).0 }

  back : {xs : List TypeTree} (ts : List Terminal) {us : List Terminal} → IsSame xs us → IsSame xs (ts ++ us)
  back ts {us} second = record { same = λ h. second.same (alike_split kind f top look other ts us h).1 }

  skip : {xs : List TypeTree} {t : Terminal} {ts : List Terminal} → IsSame xs ts → IsSame xs (t ∷ ts)
  skip rest = record { same = λ h. rest.same h.1 }

  type_same : (t : TypeTree) → IsSame (t ∷ []) (spell_type t)
  type_same t = record {
    same = λ h. ap (λ u. (type_start t, record { term = settled kind u; faults = map (located_fault f.places) (term_faults kind u) ++ repeated_params t }) ∷ []) (type_means kind f top look other t h);
  }

  params_same : (ps : ParamTrees) → IsSame (params_types ps) (spell_params ps)
  params_same NoParams = none
  params_same (Param xs t comma rest) = back (spell_names xs) (both (type_same t) (back (spell_some operator.Comma comma) (params_same rest)))

  result_same : (r : ResultTree) → IsSame (result_types r) (spell_result r)
  result_same NoResult = none
  result_same (OneResult t) = type_same t
  result_same (Results first params last) = skip (front _ (params_same params))

  signature_same : (s : SignatureTree) → IsSame (signature_types s) (spell_signature s)
  signature_same (Signed first params last result) = skip (both (params_same params) (skip (result_same result)))

  mutual
    expr_same : (t : ExprTree) → IsSame (expr_types t) (spell t)
    expr_same (Integer n span) = none
    expr_same (Text t) = none
    expr_same (Named x) = none
    expr_same (Paren first t last) = skip (front _ (expr_same t))
    expr_same (Unary op span t) = skip (expr_same t)
    expr_same (Binary a op span b) = both (expr_same a) (skip (expr_same b))
    expr_same (Select t dot x) = front _ (expr_same t)
    expr_same (Call t first items last) = both (expr_same t) (skip (front _ (items_same items)))
    expr_same (Literal n first items last) = back (spell_type_name n) (skip (front _ (items_same items)))
    expr_same (StructLiteral t first items last) = both (type_same t) (skip (front _ (items_same items)))

    items_same : (is : ItemTrees) → IsSame (items_types is) (spell_items is)
    items_same NoItems = none
    items_same (Item key t comma rest) = back (spell_key key) (both (expr_same t) (back (spell_some operator.Comma comma) (items_same rest)))

  exprs_same : (es : Separated ExprTree) → IsSame (exprs_types es) (spell_exprs es)
  exprs_same (One t) = expr_same t
  exprs_same (Then t comma more) = both (expr_same t) (skip (exprs_same more))

  some_type_same : (t : Option TypeTree) → IsSame (some_type t) (spell_some_type t)
  some_type_same None = none
  some_type_same (Some t) = type_same t

  values_same : (v : Option (Span × Separated ExprTree)) → IsSame (values_types v) (spell_values v)
  values_same None = none
  values_same (Some v) = skip (exprs_same v.1)

  value_spec_same : (v : ValueSpecTree) → IsSame (spec_types v) (spell_value_spec v)
  value_spec_same v = back (spell_idents v.names) (both (some_type_same v.type_expr) (values_same v.values))

  simple_same : (s : SimpleTree) → IsSame (simple_types s) (spell_simple s)
  simple_same (Alone t) = expr_same t
  simple_same (Step t op span) = front _ (expr_same t)
  simple_same (Assign ts span es) = both (exprs_same ts) (skip (exprs_same es))
  simple_same (Update t op span e) = both (expr_same t) (skip (expr_same e))
  simple_same (Define xs span es) = back (spell_idents xs) (skip (exprs_same es))

  some_exprs_same : (es : Option (Separated ExprTree)) → IsSame (some_exprs_types es) (spell_some_exprs es)
  some_exprs_same None = none
  some_exprs_same (Some es) = exprs_same es

  pub piece_same : (p : Piece) → IsSame (piece_types p) (spell_piece p)
  piece_same (Header r s) = back (spell_receiver r) (signature_same s)
  piece_same (Spec k v) = value_spec_same v
  piece_same (Act s) = simple_same s
  piece_same (Condition t) = expr_same t
  piece_same (Given place es) = some_exprs_same es

pub inlines_alike : (kind : DeclKey → Kind) (f : InFile) (top : Meaning) → LookAtNames Scoped (ℕ × InlineOf) (inline_note_rules kind f top)
inlines_alike kind f top = record { notes = λ look other firsts p h. (piece_same kind f top look other p).same h; means = λ look other firsts p h. refl }
