-- Types as they are written, with the targets of their names.
use Rattle.std.proofs.Common.{◌≡◌, ℕ, true, false, List, Option, Some, None, refl, ap, ◌∙◌}
use Rattle.go_tree_nodes.specs.declared.names.Ident.{Ident}
use Rattle.go_tree_nodes.specs.declared.types.TypeName.{TypeName}
use Rattle.go_path_core.specs.text_core.declared.span.Span.{Span}
use Rattle.go_tree_nodes.specs.Trees.{Separated, One, Then, TypeTree, NamedType, Pointer, ParenType, Struct, Interface, FieldTrees, NoFields, NamedFields, EmbeddedField, MethodTrees, NoMethods, Method, SignatureTree, Signed, ResultTree, NoResult, OneResult, Results, ParamTrees, NoParams, Param}
use Rattle.go_term_core.specs.decl_core.declared.keys.DeclKey.{DeclKey}
use Rattle.go_term_core.specs.decl_core.declared.places.DeclKind.TheVariants as kinds
use Rattle.go_term_core.specs.decl_core.Outer.{last_ident}
use Rattle.go_term_core.specs.Terms.{Term, PointerTo, StructOf, InterfaceOf, Fields, AField, AMethod, SignOf, Terms, NoTerm, ATerm}
use Rattle.go_typexpr_core.specs.written.Written.{InFile, Meaning, member_place, term_starred, tag_of, named_fields, for_each, for_names, term_of, fields_of_tree, methods_of_tree, signature_of, results_of_tree, params_of_tree}
use Rattle.go_typexpr_core.specs.entry.Meanings.{through}
use Rattle.go_typexpr_core.specs.aliases.Aliases.{with_targets, fields_with, methods_with, sign_with, terms_with}

named_with : (mean : DeclKey → Term) (f : InFile) (t : Term) (tag : List ℕ) (xs : Separated Ident) (fs : Fields) → fields_with mean (named_fields f t tag xs fs) ≡ named_fields f (with_targets mean t) tag xs (fields_with mean fs)
named_with mean f t tag (One x) fs = refl
named_with mean f t tag (Then x comma xs) fs = ap (λ r. AField x.name (member_place f kinds.Field x.span.start) false (with_targets mean t) tag r) (named_with mean f t tag xs fs)

starred_with : (mean : DeclKey → Term) (star : Option Span) (t : Term) → with_targets mean (term_starred star t) ≡ term_starred star (with_targets mean t)
starred_with mean None t = refl
starred_with mean (Some s) t = refl

each_with : (mean : DeclKey → Term) (t : Term) (xs : Separated Ident) (ts : Terms) → terms_with mean (for_each t xs ts) ≡ for_each (with_targets mean t) xs (terms_with mean ts)
each_with mean t (One x) ts = refl
each_with mean t (Then x comma xs) ts = ap (ATerm (with_targets mean t)) (each_with mean t xs ts)

names_with : (mean : DeclKey → Term) (t : Term) (xs : Option (Separated Ident)) (ts : Terms) → terms_with mean (for_names t xs ts) ≡ for_names (with_targets mean t) xs (terms_with mean ts)
names_with mean t None ts = refl
names_with mean t (Some xs) ts = each_with mean t xs ts

module _ (mean : Meaning) (target : DeclKey → Term) (plain : (n : TypeName) → with_targets target (mean n) ≡ through target (mean n)) where
  abbrev meant : Meaning
  meant = λ n. through target (mean n)

  mutual
    -- what is written, with each name's target, is what is written where each name means its target
    pub type_with : (f : InFile) (t : TypeTree) → with_targets target (term_of mean f t) ≡ term_of meant f t
    type_with f (NamedType n) = plain n
    type_with f (Pointer s t) = ap PointerTo (type_with f t)
    type_with f (ParenType a t b) = type_with f t
    type_with f (Struct a b fs c) = ap (StructOf f.path) (fields_tree_with f fs)
    type_with f (Interface a b ms c) = ap (InterfaceOf f.path) (methods_tree_with f ms)

    fields_tree_with : (f : InFile) (fs : FieldTrees) → fields_with target (fields_of_tree mean f fs) ≡ fields_of_tree meant f fs
    fields_tree_with f NoFields = refl
    fields_tree_with f (NamedFields xs t tag semicolon fs) =
        let first = type_with f t in
        let rest = fields_tree_with f fs in
        named_with target f (term_of mean f t) (tag_of tag) xs (fields_of_tree mean f fs) ∙ (λ i. named_fields f (first i) (tag_of tag) xs (rest i))
    fields_tree_with f (EmbeddedField star n tag semicolon fs) =
        let first = starred_with target star (mean n) ∙ ap (term_starred star) (plain n) in
        let rest = fields_tree_with f fs in
        λ i. AField (last_ident n).name (member_place f kinds.Field (last_ident n).span.start) true (first i) (tag_of tag) (rest i)

    methods_tree_with : (f : InFile) (ms : MethodTrees) → methods_with target (methods_of_tree mean f ms) ≡ methods_of_tree meant f ms
    methods_tree_with f NoMethods = refl
    methods_tree_with f (Method x g semicolon ms) =
        let first = signature_with f g in
        let rest = methods_tree_with f ms in
        λ i. AMethod x.name (member_place f kinds.Method x.span.start) (first i) (rest i)

    pub signature_with : (f : InFile) (g : SignatureTree) → sign_with target (signature_of mean f g) ≡ signature_of meant f g
    signature_with f (Signed a ps b r) =
        let first = params_with f ps in
        let rest = results_with f r in
        λ i. SignOf (first i) (rest i)

    results_with : (f : InFile) (r : ResultTree) → terms_with target (results_of_tree mean f r) ≡ results_of_tree meant f r
    results_with f NoResult = refl
    results_with f (OneResult t) = ap (λ u. ATerm u NoTerm) (type_with f t)
    results_with f (Results a ps b) = params_with f ps

    params_with : (f : InFile) (ps : ParamTrees) → terms_with target (params_of_tree mean f ps) ≡ params_of_tree meant f ps
    params_with f NoParams = refl
    params_with f (Param xs t comma ps) =
        let first = type_with f t in
        let rest = params_with f ps in
        names_with target (term_of mean f t) xs (params_of_tree mean f ps) ∙ (λ i. for_names (first i) xs (rest i))
