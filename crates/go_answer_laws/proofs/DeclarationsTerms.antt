-- Types each of whose fields and methods is declared under its name where it has its place.
use Rattle.std.proofs.Common.{ℕ, List, [], ◌∷◌, ◌++◌}
use Rattle.std.specs.Prelude.{Option, Some, None, ⊤, ◌||◌}
use Rattle.go_site_core.specs.text_core.Text.{is_blank}
use Rattle.go_site_core.specs.text_core.declared.span.Span.{Span}
use Rattle.go_tree_nodes.specs.declared.names.Ident.{Ident}
use Rattle.go_tree_nodes.specs.declared.types.TypeName.{TypeName}
use Rattle.go_tree_nodes.specs.Trees.{Separated, One, Then, TypeTree, NamedType, Pointer, ParenType, Struct, Interface, FieldTrees, NoFields, NamedFields, EmbeddedField, MethodTrees, NoMethods, Method, SignatureTree, Signed, ResultTree, NoResult, OneResult, Results, ParamTrees, NoParams, Param}
use Rattle.go_term_core.specs.decl_core.declared.keys.DeclKey.{DeclKey}
use Rattle.go_term_core.specs.decl_core.declared.places.DeclKind.TheVariants as decl_kinds
use Rattle.go_term_core.specs.decl_core.Outer.{Outer, Part, idents_outers, names_outers, type_outers, fields_outers, methods_outers, signature_outers, result_outers, params_outers}
use Rattle.go_term_core.specs.declared.term.MemberPlace.{MemberPlace}
use Rattle.go_term_core.specs.Terms.{Term, NoType, Predeclared, ErrorType, Defined, PointerTo, StructOf, InterfaceOf, Fields, NoField, AField, Methods, NoMethod, AMethod, Sign, SignOf, Terms, NoTerm, ATerm}
use Rattle.go_term_core.specs.declared.settling.kind.Kind.{Kind}
use Rattle.go_term_core.specs.declared.settling.kind.Kind.TheVariants as kinds
use Rattle.go_term_core.specs.settling.Settled.{is_among_names, repeats_earlier, pointer_to, defined_unless, settled, settled_fields, settled_methods, settled_sign, settled_terms}
use Rattle.go_typexpr_core.specs.written.Written.{InFile, Meaning, member_place, tag_of, term_starred, named_fields, for_each, for_names, term_of, fields_of_tree, methods_of_tree, signature_of, results_of_tree, params_of_tree}
use Rattle.go_answer_laws.proofs.DeclarationsLists.{each_left, each_right, either}
use Rattle.go_stmt_core.specs.statement.Locality.{Each}

-- a member of a type: the path of the package where it is written, its name, and its place
module _ (Stands : List ℕ → List ℕ → MemberPlace → Type 0) where
  abbrev mutual
    pub IsTermIn : Term → Type 0
    IsTermIn NoType = ⊤
    IsTermIn (Predeclared b) = ⊤
    IsTermIn ErrorType = ⊤
    IsTermIn (Defined k) = ⊤
    IsTermIn (PointerTo t) = IsTermIn t
    IsTermIn (StructOf home fs) = AreFieldsIn home fs
    IsTermIn (InterfaceOf home ms) = AreMethodsIn home ms

    pub AreFieldsIn : List ℕ → Fields → Type 0
    AreFieldsIn home NoField = ⊤
    AreFieldsIn home (AField name place embedded t tag fs) = Stands home name place × IsTermIn t × AreFieldsIn home fs

    pub AreMethodsIn : List ℕ → Methods → Type 0
    AreMethodsIn home NoMethod = ⊤
    AreMethodsIn home (AMethod name place g ms) = Stands home name place × IsSignIn g × AreMethodsIn home ms

    pub IsSignIn : Sign → Type 0
    IsSignIn (SignOf ps rs) = AreTermsIn ps × AreTermsIn rs

    pub AreTermsIn : Terms → Type 0
    AreTermsIn NoTerm = ⊤
    AreTermsIn (ATerm t ts) = IsTermIn t × AreTermsIn ts

  -- as they are written, where names of types mean such types

  -- an identifier of a file has its place there
  abbrev pub IsPlacedIn : InFile → Outer → Type 0
  IsPlacedIn f o = Stands f.path o.ident.name (member_place f o.kind o.ident.span.start)

  pub starred_in : (s : Option Span) (t : Term) → IsTermIn t → IsTermIn (term_starred s t)
  starred_in None t h = h
  starred_in (Some s) t h = h

  for_each_in : (t : Term) (xs : Separated Ident) (rest : Terms) → IsTermIn t → AreTermsIn rest → AreTermsIn (for_each t xs rest)
  for_each_in t (One x) rest h k = (h, k)
  for_each_in t (Then x comma xs) rest h k = (h, for_each_in t xs rest h k)

  for_names_in : (t : Term) (xs : Option (Separated Ident)) (rest : Terms) → IsTermIn t → AreTermsIn rest → AreTermsIn (for_names t xs rest)
  for_names_in t None rest h k = (h, k)
  for_names_in t (Some xs) rest h k = for_each_in t xs rest h k

  module _ (mean : Meaning) (f : InFile) (named : (n : TypeName) → IsTermIn (mean n)) where
    named_fields_in : (t : Term) (tag : List ℕ) (xs : Separated Ident) (rest : Fields) → Each (IsPlacedIn f) (idents_outers decl_kinds.Field Part xs) → IsTermIn t → AreFieldsIn f.path rest → AreFieldsIn f.path (named_fields f t tag xs rest)
    named_fields_in t tag (One x) rest p h k = (p.0, h, k)
    named_fields_in t tag (Then x comma xs) rest p h k = (p.0, h, named_fields_in t tag xs rest p.1 h k)

    mutual
      pub term_in : (t : TypeTree) → Each (IsPlacedIn f) (type_outers t) → IsTermIn (term_of mean f t)
      term_in (NamedType n) h = named n
      term_in (Pointer s t) h = term_in t h
      term_in (ParenType a t b) h = term_in t h
      term_in (Struct a b fs c) h = fields_in fs h
      term_in (Interface a b ms c) h = methods_in ms h

      fields_in : (fs : FieldTrees) → Each (IsPlacedIn f) (fields_outers fs) → AreFieldsIn f.path (fields_of_tree mean f fs)
      fields_in NoFields h = tt
      fields_in (NamedFields xs t tag semicolon fs) h =
          let own = idents_outers decl_kinds.Field Part xs in
          let more = each_right (IsPlacedIn f) own (type_outers t ++ fields_outers fs) h in
          named_fields_in (term_of mean f t) (tag_of tag) xs (fields_of_tree mean f fs) (each_left (IsPlacedIn f) own (type_outers t ++ fields_outers fs) h)
          (term_in t (each_left (IsPlacedIn f) (type_outers t) (fields_outers fs) more)) (fields_in fs (each_right (IsPlacedIn f) (type_outers t) (fields_outers fs) more))
      fields_in (EmbeddedField star n tag semicolon fs) h = (h.0, starred_in star (mean n) (named n), fields_in fs h.1)

      methods_in : (ms : MethodTrees) → Each (IsPlacedIn f) (methods_outers ms) → AreMethodsIn f.path (methods_of_tree mean f ms)
      methods_in NoMethods h = tt
      methods_in (Method x g semicolon ms) h =
          (h.0, signature_in g (each_left (IsPlacedIn f) (signature_outers g) (methods_outers ms) h.1), methods_in ms (each_right (IsPlacedIn f) (signature_outers g) (methods_outers ms) h.1))

      pub signature_in : (g : SignatureTree) → Each (IsPlacedIn f) (signature_outers g) → IsSignIn (signature_of mean f g)
      signature_in (Signed a ps b r) h = (params_in ps (each_left (IsPlacedIn f) (params_outers ps) (result_outers r) h), results_in r (each_right (IsPlacedIn f) (params_outers ps) (result_outers r) h))

      results_in : (r : ResultTree) → Each (IsPlacedIn f) (result_outers r) → AreTermsIn (results_of_tree mean f r)
      results_in NoResult h = tt
      results_in (OneResult t) h = (term_in t h, tt)
      results_in (Results a ps b) h = params_in ps h

      params_in : (ps : ParamTrees) → Each (IsPlacedIn f) (params_outers ps) → AreTermsIn (params_of_tree mean f ps)
      params_in NoParams h = tt
      params_in (Param xs t comma ps) h =
          let more = each_right (IsPlacedIn f) (names_outers xs) (type_outers t ++ params_outers ps) h in
          for_names_in (term_of mean f t) xs (params_of_tree mean f ps) (term_in t (each_left (IsPlacedIn f) (type_outers t) (params_outers ps) more))
          (params_in ps (each_right (IsPlacedIn f) (type_outers t) (params_outers ps) more))

  -- once they are settled

  pointer_in : (t : Term) → IsTermIn t → IsTermIn (pointer_to t)
  pointer_in NoType h = h
  pointer_in (Predeclared b) h = h
  pointer_in ErrorType h = h
  pointer_in (Defined k) h = h
  pointer_in (PointerTo t) h = h
  pointer_in (StructOf path fs) h = h
  pointer_in (InterfaceOf path ms) h = h

  defined_in : (kind : Kind) (k : DeclKey) → IsTermIn (defined_unless kind k)
  defined_in kinds.Nothing k = tt
  defined_in kinds.Pointer k = tt
  defined_in kinds.Interface k = tt
  defined_in kinds.Other k = tt

  module _ (kind : DeclKey → Kind) where
    mutual
      pub settled_in : (t : Term) → IsTermIn t → IsTermIn (settled kind t)
      settled_in NoType h = h
      settled_in (Predeclared b) h = h
      settled_in ErrorType h = h
      settled_in (Defined k) h = defined_in (kind k) k
      settled_in (PointerTo t) h = pointer_in (settled kind t) (settled_in t h)
      settled_in (StructOf path fs) h = settled_fields_in path [] fs h
      settled_in (InterfaceOf path ms) h = settled_methods_in path [] ms h

      settled_fields_in : (path : List ℕ) (seen : List (List ℕ)) (fs : Fields) → AreFieldsIn path fs → AreFieldsIn path (settled_fields kind seen fs)
      settled_fields_in path seen NoField h = h
      settled_fields_in path seen (AField name place embedded t tag fs) h =
          either (AreFieldsIn path) (repeats_earlier seen name) _ _ (settled_fields_in path seen fs h.2) (h.0, settled_in t h.1, settled_fields_in path (name ∷ seen) fs h.2)

      settled_methods_in : (path : List ℕ) (seen : List (List ℕ)) (ms : Methods) → AreMethodsIn path ms → AreMethodsIn path (settled_methods kind seen ms)
      settled_methods_in path seen NoMethod h = h
      settled_methods_in path seen (AMethod name place g ms) h =
          either (AreMethodsIn path) (is_blank name || is_among_names seen name) _ _ (settled_methods_in path seen ms h.2) (h.0, settled_sign_in g h.1, settled_methods_in path (name ∷ seen) ms h.2)

      pub settled_sign_in : (g : Sign) → IsSignIn g → IsSignIn (settled_sign kind g)
      settled_sign_in (SignOf ps rs) h = (settled_terms_in ps h.0, settled_terms_in rs h.1)

      settled_terms_in : (ts : Terms) → AreTermsIn ts → AreTermsIn (settled_terms kind ts)
      settled_terms_in NoTerm h = h
      settled_terms_in (ATerm t ts) h = (settled_in t h.0, settled_terms_in ts h.1)
