-- Types that mention some packages alone: by the keys of declared types, and by the packages where struct types and interface types are written.
use Rattle.std.proofs.Common.{ℕ, List, [], ◌∷◌}
use Rattle.std.specs.Prelude.{Option, Some, None, ⊤, ◌||◌}
use Rattle.go_path_core.specs.text_core.Text.{is_blank}
use Rattle.go_path_core.specs.text_core.declared.span.Span.{Span}
use Rattle.go_tree_nodes.specs.declared.names.Ident.{Ident}
use Rattle.go_tree_nodes.specs.declared.types.TypeName.{TypeName}
use Rattle.go_tree_nodes.specs.Trees.{Separated, One, Then, TypeTree, NamedType, Pointer, ParenType, Struct, Interface, FieldTrees, NoFields, NamedFields, EmbeddedField, MethodTrees, NoMethods, Method, SignatureTree, Signed, ResultTree, NoResult, OneResult, Results, ParamTrees, NoParams, Param}
use Rattle.go_term_core.specs.decl_core.declared.keys.DeclKey.{DeclKey}
use Rattle.go_term_core.specs.Terms.{Term, NoType, Predeclared, ErrorType, Defined, PointerTo, StructOf, InterfaceOf, Fields, NoField, AField, Methods, NoMethod, AMethod, Sign, SignOf, Terms, NoTerm, ATerm}
use Rattle.go_term_core.specs.declared.settling.kind.Kind.{Kind}
use Rattle.go_term_core.specs.declared.settling.kind.Kind.TheVariants as kinds
use Rattle.go_term_core.specs.settling.Settled.{is_among_names, repeats_earlier, pointer_to, defined_unless, settled, settled_fields, settled_methods, settled_sign, settled_terms}
use Rattle.go_body_core.specs.typexpr_core.WrittenWritten.{InFile, Meaning, tag_of, term_starred, named_fields, for_each, for_names, term_of, fields_of_tree, methods_of_tree, signature_of, results_of_tree, params_of_tree}
use Rattle.go_snap_core.proofs.NearClosing.{either}

module _ (Inside : List ℕ → Type 0) where
  abbrev mutual
    pub IsTermIn : Term → Type 0
    IsTermIn NoType = ⊤
    IsTermIn (Predeclared b) = ⊤
    IsTermIn ErrorType = ⊤
    IsTermIn (Defined k) = Inside k.path
    IsTermIn (PointerTo t) = IsTermIn t
    IsTermIn (StructOf home fs) = Inside home × AreFieldsIn fs
    IsTermIn (InterfaceOf home ms) = Inside home × AreMethodsIn ms

    pub AreFieldsIn : Fields → Type 0
    AreFieldsIn NoField = ⊤
    AreFieldsIn (AField name place embedded t tag fs) = IsTermIn t × AreFieldsIn fs

    pub AreMethodsIn : Methods → Type 0
    AreMethodsIn NoMethod = ⊤
    AreMethodsIn (AMethod name place g ms) = IsSignIn g × AreMethodsIn ms

    pub IsSignIn : Sign → Type 0
    IsSignIn (SignOf ps rs) = AreTermsIn ps × AreTermsIn rs

    pub AreTermsIn : Terms → Type 0
    AreTermsIn NoTerm = ⊤
    AreTermsIn (ATerm t ts) = IsTermIn t × AreTermsIn ts

  -- as they are written, where names of types mean such types

  starred_in : (s : Option Span) (t : Term) → IsTermIn t → IsTermIn (term_starred s t)
  starred_in None t h = h
  starred_in (Some s) t h = h

  for_each_in : (t : Term) (xs : Separated Ident) (rest : Terms) → IsTermIn t → AreTermsIn rest → AreTermsIn (for_each t xs rest)
  for_each_in t (One x) rest h k = (h, k)
  for_each_in t (Then x comma xs) rest h k = (h, for_each_in t xs rest h k)

  for_names_in : (t : Term) (xs : Option (Separated Ident)) (rest : Terms) → IsTermIn t → AreTermsIn rest → AreTermsIn (for_names t xs rest)
  for_names_in t None rest h k = (h, k)
  for_names_in t (Some xs) rest h k = for_each_in t xs rest h k

  module _ (mean : Meaning) (f : InFile) (named : (n : TypeName) → IsTermIn (mean n)) (own : Inside f.path) where
    named_fields_in : (t : Term) (tag : List ℕ) (xs : Separated Ident) (rest : Fields) → IsTermIn t → AreFieldsIn rest → AreFieldsIn (named_fields f t tag xs rest)
    named_fields_in t tag (One x) rest h k = (h, k)
    named_fields_in t tag (Then x comma xs) rest h k = (h, named_fields_in t tag xs rest h k)

    mutual
      pub term_in : (t : TypeTree) → IsTermIn (term_of mean f t)
      term_in (NamedType n) = named n
      term_in (Pointer s t) = term_in t
      term_in (ParenType a t b) = term_in t
      term_in (Struct a b fs c) = (own, fields_in fs)
      term_in (Interface a b ms c) = (own, methods_in ms)

      fields_in : (fs : FieldTrees) → AreFieldsIn (fields_of_tree mean f fs)
      fields_in NoFields = tt
      fields_in (NamedFields xs t tag semicolon fs) = named_fields_in (term_of mean f t) (tag_of tag) xs (fields_of_tree mean f fs) (term_in t) (fields_in fs)
      fields_in (EmbeddedField star n tag semicolon fs) = (starred_in star (mean n) (named n), fields_in fs)

      methods_in : (ms : MethodTrees) → AreMethodsIn (methods_of_tree mean f ms)
      methods_in NoMethods = tt
      methods_in (Method x g semicolon ms) = (signature_in g, methods_in ms)

      pub signature_in : (g : SignatureTree) → IsSignIn (signature_of mean f g)
      signature_in (Signed a ps b r) = (params_in ps, results_in r)

      results_in : (r : ResultTree) → AreTermsIn (results_of_tree mean f r)
      results_in NoResult = tt
      results_in (OneResult t) = (term_in t, tt)
      results_in (Results a ps b) = params_in ps

      params_in : (ps : ParamTrees) → AreTermsIn (params_of_tree mean f ps)
      params_in NoParams = tt
      params_in (Param xs t comma ps) = for_names_in (term_of mean f t) xs (params_of_tree mean f ps) (term_in t) (params_in ps)

  -- once they are settled

  pointer_in : (t : Term) → IsTermIn t → IsTermIn (pointer_to t)
  pointer_in NoType h = h
  pointer_in (Predeclared b) h = h
  pointer_in ErrorType h = h
  pointer_in (Defined k) h = h
  pointer_in (PointerTo t) h = h
  pointer_in (StructOf path fs) h = h
  pointer_in (InterfaceOf path ms) h = h

  defined_in : (kind : Kind) (k : DeclKey) → Inside k.path → IsTermIn (defined_unless kind k)
  defined_in kinds.Nothing k h = tt
  defined_in kinds.Pointer k h = h
  defined_in kinds.Interface k h = h
  defined_in kinds.Other k h = h

  module _ (kind : DeclKey → Kind) where
    mutual
      pub settled_in : (t : Term) → IsTermIn t → IsTermIn (settled kind t)
      settled_in NoType h = h
      settled_in (Predeclared b) h = h
      settled_in ErrorType h = h
      settled_in (Defined k) h = defined_in (kind k) k h
      settled_in (PointerTo t) h = pointer_in (settled kind t) (settled_in t h)
      settled_in (StructOf path fs) h = (h.0, settled_fields_in [] fs h.1)
      settled_in (InterfaceOf path ms) h = (h.0, settled_methods_in [] ms h.1)

      settled_fields_in : (seen : List (List ℕ)) (fs : Fields) → AreFieldsIn fs → AreFieldsIn (settled_fields kind seen fs)
      settled_fields_in seen NoField h = h
      settled_fields_in seen (AField name place embedded t tag fs) h =
          either AreFieldsIn (repeats_earlier seen name) _ _ (settled_fields_in seen fs h.1) (settled_in t h.0, settled_fields_in (name ∷ seen) fs h.1)

      settled_methods_in : (seen : List (List ℕ)) (ms : Methods) → AreMethodsIn ms → AreMethodsIn (settled_methods kind seen ms)
      settled_methods_in seen NoMethod h = h
      settled_methods_in seen (AMethod name place g ms) h =
          either AreMethodsIn (is_blank name || is_among_names seen name) _ _ (settled_methods_in seen ms h.1) (settled_sign_in g h.0, settled_methods_in (name ∷ seen) ms h.1)

      pub settled_sign_in : (g : Sign) → IsSignIn g → IsSignIn (settled_sign kind g)
      settled_sign_in (SignOf ps rs) h = (settled_terms_in ps h.0, settled_terms_in rs h.1)

      settled_terms_in : (ts : Terms) → AreTermsIn ts → AreTermsIn (settled_terms kind ts)
      settled_terms_in NoTerm h = h
      settled_terms_in (ATerm t ts) h = (settled_in t h.0, settled_terms_in ts h.1)
