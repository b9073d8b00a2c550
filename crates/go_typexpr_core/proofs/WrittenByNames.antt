-- The term of a type by the names in it.
use Rattle.std.proofs.Common.{◌≡◌, ◌<◌, ◌⊎◌, ℕ, true, inl, inr, List, [], ◌∷◌, ◌++◌, Option, Some, None, refl, ap, subst, arith}
use Rattle.std.specs.Prelude.{Contains}
use Rattle.std.proofs.lemmas.List.Elements.{Contains-append_left, Contains-append_right, Contains-append_cases, Contains-push}
use Rattle.go_path_core.specs.text_core.declared.span.Span.{Span}
use Rattle.go_tree_nodes.specs.declared.names.Ident.{Ident}
use Rattle.go_tree_nodes.specs.declared.types.TypeName.{TypeName}
use Rattle.go_tree_nodes.specs.Trees.{Separated, One, Then, TypeTree, NamedType, Pointer, ParenType, Struct, Interface, FieldTrees, NoFields, NamedFields, EmbeddedField, MethodTrees, NoMethods, Method, SignatureTree, Signed, ResultTree, NoResult, OneResult, Results, ParamTrees, NoParams, Param}
use Rattle.go_term_core.specs.decl_core.declared.keys.DeclKey.{DeclKey}
use Rattle.go_term_core.specs.decl_core.declared.places.DeclKind.TheVariants as kinds
use Rattle.go_term_core.specs.Terms.{Term, PointerTo, StructOf, InterfaceOf, Fields, AField, AMethod, SignOf, Terms, NoTerm, ATerm, term_keys, fields_keys, methods_keys, sign_keys, terms_keys}
use Rattle.go_typexpr_core.specs.written.Written.{Meaning, InFile, member_place, term_starred, tag_of, named_fields, for_each, for_names, term_of, fields_of_tree, methods_of_tree, signature_of, results_of_tree, params_of_tree}
use Rattle.go_term_core.specs.decl_core.Outer.{last_ident}
use Rattle.go_typexpr_core.specs.written.Laws.{NameMentions, WrittenByNames}
use Rattle.go_tree_nodes.specs.TypeNames.{type_names_in, field_names_in, method_names_in, signature_names_in, result_names_in, param_names_in}

none_there : {X : Type 0} (x : X) → Contains [] x → ⊥
none_there x at = (let lt : at.0 < 0 = at.1 in omega arith)

module _ (mean other : Meaning) (f : InFile) where
  -- the names mean the same
  abbrev Agree : List TypeName → Type 0
  Agree names = (n : TypeName) → Contains names n → mean n ≡ other n

  before : (ns ms : List TypeName) → Agree (ns ++ ms) → Agree ns
  before ns ms same n at = same n (Contains-append_left ns ms n at)

  behind : (ns ms : List TypeName) → Agree (ns ++ ms) → Agree ms
  behind ns ms same n at = same n (Contains-append_right ns ms n at)

  mutual
    type_alike : (t : TypeTree) → Agree (type_names_in t) → term_of mean f t ≡ term_of other f t
    type_alike (NamedType n) same = same n (Contains-push [] n)
    type_alike (Pointer s t) same = ap PointerTo (type_alike t same)
    type_alike (ParenType a t b) same = type_alike t same
    type_alike (Struct a b fs c) same = ap (StructOf f.path) (fields_alike fs same)
    type_alike (Interface a b ms c) same = ap (InterfaceOf f.path) (methods_alike ms same)

    fields_alike : (fs : FieldTrees) → Agree (field_names_in fs) → fields_of_tree mean f fs ≡ fields_of_tree other f fs
    fields_alike NoFields same = refl
    fields_alike (NamedFields xs t tag semicolon fs) same =
        let head = type_alike t (before (type_names_in t) (field_names_in fs) same) in
        let rest = fields_alike fs (behind (type_names_in t) (field_names_in fs) same) in
        λ i. named_fields f (head i) (tag_of tag) xs (rest i)
    fields_alike (EmbeddedField star n tag semicolon fs) same =
        let head = same n (Contains-append_left (n ∷ []) (field_names_in fs) n (Contains-push [] n)) in
        let rest = fields_alike fs (behind (n ∷ []) (field_names_in fs) same) in
        λ i. AField (last_ident n).name (member_place f kinds.Field (last_ident n).span.start) true (term_starred star (head i)) (tag_of tag) (rest i)

    methods_alike : (ms : MethodTrees) → Agree (method_names_in ms) → methods_of_tree mean f ms ≡ methods_of_tree other f ms
    methods_alike NoMethods same = refl
    methods_alike (Method x g semicolon ms) same =
        let head = signature_alike g (before (signature_names_in g) (method_names_in ms) same) in
        let rest = methods_alike ms (behind (signature_names_in g) (method_names_in ms) same) in
        λ i. AMethod x.name (member_place f kinds.Method x.span.start) (head i) (rest i)

    signature_alike : (g : SignatureTree) → Agree (signature_names_in g) → signature_of mean f g ≡ signature_of other f g
    signature_alike (Signed a ps b r) same =
        let first = params_alike ps (before (param_names_in ps) (result_names_in r) same) in
        let rest = results_alike r (behind (param_names_in ps) (result_names_in r) same) in
        λ i. SignOf (first i) (rest i)

    results_alike : (r : ResultTree) → Agree (result_names_in r) → results_of_tree mean f r ≡ results_of_tree other f r
    results_alike NoResult same = refl
    results_alike (OneResult t) same = ap (λ u. ATerm u NoTerm) (type_alike t same)
    results_alike (Results a ps b) same = params_alike ps same

    params_alike : (ps : ParamTrees) → Agree (param_names_in ps) → params_of_tree mean f ps ≡ params_of_tree other f ps
    params_alike NoParams same = refl
    params_alike (Param xs t comma ps) same =
        let head = type_alike t (before (type_names_in t) (param_names_in ps) same) in
        let rest = params_alike ps (behind (type_names_in t) (param_names_in ps) same) in
        λ i. for_names (head i) xs (rest i)

-- what is mentioned

starred_keys : (star : Option Span) (t : Term) → term_keys (term_starred star t) ≡ term_keys t
starred_keys None t = refl
starred_keys (Some s) t = refl

-- fields of one line mention what their type does
line_keys : (f : InFile) (t : Term) (tag : List ℕ) (xs : Separated Ident) (rest : Fields) (k : DeclKey) → Contains (fields_keys (named_fields f t tag xs rest)) k → Contains (term_keys t) k ⊎ Contains (fields_keys rest) k
line_keys f t tag (One x) rest k at = Contains-append_cases (term_keys t) (fields_keys rest) k at
line_keys f t tag (Then x comma xs) rest k at = elim (Contains-append_cases (term_keys t) (fields_keys (named_fields f t tag xs rest)) k at) [
  | inl here ↦ inl here
  | inr there ↦ line_keys f t tag xs rest k there
]

each_keys : (t : Term) (xs : Separated Ident) (rest : Terms) (k : DeclKey) → Contains (terms_keys (for_each t xs rest)) k → Contains (term_keys t) k ⊎ Contains (terms_keys rest) k
each_keys t (One x) rest k at = Contains-append_cases (term_keys t) (terms_keys rest) k at
each_keys t (Then x comma xs) rest k at = elim (Contains-append_cases (term_keys t) (terms_keys (for_each t xs rest)) k at) [
  | inl here ↦ inl here
  | inr there ↦ each_keys t xs rest k there
]

names_keys : (t : Term) (xs : Option (Separated Ident)) (rest : Terms) (k : DeclKey) → Contains (terms_keys (for_names t xs rest)) k → Contains (term_keys t) k ⊎ Contains (terms_keys rest) k
names_keys t None rest k at = Contains-append_cases (term_keys t) (terms_keys rest) k at
names_keys t (Some xs) rest k at = each_keys t xs rest k at

module _ (mean : Meaning) (f : InFile) (k : DeclKey) where
  here_of : (ns ms : List TypeName) → NameMentions mean ns k → NameMentions mean (ns ++ ms) k
  here_of ns ms h = (h.0, Contains-append_left ns ms h.0 h.1, h.2)

  there_of : (ns ms : List TypeName) → NameMentions mean ms k → NameMentions mean (ns ++ ms) k
  there_of ns ms h = (h.0, Contains-append_right ns ms h.0 h.1, h.2)

  mutual
    type_mentions : (t : TypeTree) → Contains (term_keys (term_of mean f t)) k → NameMentions mean (type_names_in t) k
    type_mentions (NamedType n) at = (n, Contains-push [] n, at)
    type_mentions (Pointer s t) at = type_mentions t at
    type_mentions (ParenType a t b) at = type_mentions t at
    type_mentions (Struct a b fs c) at = fields_mention fs at
    type_mentions (Interface a b ms c) at = methods_mention ms at

    fields_mention : (fs : FieldTrees) → Contains (fields_keys (fields_of_tree mean f fs)) k → NameMentions mean (field_names_in fs) k
    fields_mention NoFields at = absurd (none_there k at)
    fields_mention (NamedFields xs t tag semicolon fs) at = elim (line_keys f (term_of mean f t) (tag_of tag) xs (fields_of_tree mean f fs) k at) [
      | inl here ↦ here_of (type_names_in t) (field_names_in fs) (type_mentions t here)
      | inr there ↦ there_of (type_names_in t) (field_names_in fs) (fields_mention fs there)
    ]
    fields_mention (EmbeddedField star n tag semicolon fs) at = elim (Contains-append_cases (term_keys (term_starred star (mean n))) (fields_keys (fields_of_tree mean f fs)) k at) [
      | inl here ↦ here_of (n ∷ []) (field_names_in fs) (n, Contains-push [] n, subst (λ ks. Contains ks k) (starred_keys star (mean n)) here)
      | inr there ↦ there_of (n ∷ []) (field_names_in fs) (fields_mention fs there)
    ]

    methods_mention : (ms : MethodTrees) → Contains (methods_keys (methods_of_tree mean f ms)) k → NameMentions mean (method_names_in ms) k
    methods_mention NoMethods at = absurd (none_there k at)
    methods_mention (Method x g semicolon ms) at = elim (Contains-append_cases (sign_keys (signature_of mean f g)) (methods_keys (methods_of_tree mean f ms)) k at) [
      | inl here ↦ here_of (signature_names_in g) (method_names_in ms) (signature_mentions g here)
      | inr there ↦ there_of (signature_names_in g) (method_names_in ms) (methods_mention ms there)
    ]

    signature_mentions : (g : SignatureTree) → Contains (sign_keys (signature_of mean f g)) k → NameMentions mean (signature_names_in g) k
    signature_mentions (Signed a ps b r) at = elim (Contains-append_cases (terms_keys (params_of_tree mean f ps)) (terms_keys (results_of_tree mean f r)) k at) [
      | inl here ↦ here_of (param_names_in ps) (result_names_in r) (params_mention ps here)
      | inr there ↦ there_of (param_names_in ps) (result_names_in r) (results_mention r there)
    ]

    results_mention : (r : ResultTree) → Contains (terms_keys (results_of_tree mean f r)) k → NameMentions mean (result_names_in r) k
    results_mention NoResult at = absurd (none_there k at)
    results_mention (OneResult t) at = elim (Contains-append_cases (term_keys (term_of mean f t)) [] k at) [
      | inl here ↦ type_mentions t here
      | inr there ↦ absurd (none_there k there)
    ]
    results_mention (Results a ps b) at = params_mention ps at

    params_mention : (ps : ParamTrees) → Contains (terms_keys (params_of_tree mean f ps)) k → NameMentions mean (param_names_in ps) k
    params_mention NoParams at = absurd (none_there k at)
    params_mention (Param xs t comma ps) at = elim (names_keys (term_of mean f t) xs (params_of_tree mean f ps) k at) [
      | inl here ↦ here_of (type_names_in t) (param_names_in ps) (type_mentions t here)
      | inr there ↦ there_of (type_names_in t) (param_names_in ps) (params_mention ps there)
    ]

pub written_by_names : WrittenByNames
written_by_names = record {
  types = type_alike;
  signatures = signature_alike;
  mentioned = λ mean f t k at. type_mentions mean f k t at;
  mentioned_in_signature = λ mean f g k at. signature_mentions mean f k g at;
}
