-- The terms of types as they are written.
use Rattle.std.specs.Prelude.{ℕ, Bool, true, false, List, [], ◌∷◌, ◌++◌, Option, Some, None, nat_eq, if◌then◌else◌}
use Rattle.go_path_core.specs.text_core.declared.span.Span.{Span}
use Rattle.go_tree_nodes.specs.declared.names.Ident.{Ident}
use Rattle.go_tree_nodes.specs.declared.names.TextLiteral.{TextLiteral}
use Rattle.go_tree_nodes.specs.declared.types.TypeName.{TypeName}
use Rattle.go_tree_nodes.specs.declared.types.TypeName.TheVariants as type_names
use Rattle.go_tree_nodes.specs.Terminals.{value_of}
use Rattle.go_tree_nodes.specs.Trees.{Separated, One, Then, TypeTree, NamedType, Pointer, ParenType, Struct, Interface, FieldTrees, NoFields, NamedFields, EmbeddedField, MethodTrees, NoMethods, Method, SignatureTree, Signed, ResultTree, NoResult, OneResult, Results, ParamTrees, NoParams, Param}
use Rattle.go_term_core.specs.decl_core.declared.places.DeclKind.{DeclKind}
use Rattle.go_term_core.specs.decl_core.declared.places.DeclKind.TheVariants as kinds
use Rattle.go_term_core.specs.decl_core.declared.places.Place.{Place}
use Rattle.go_term_core.specs.decl_core.Outer.{last_ident}
use Rattle.go_term_core.specs.declared.term.MemberPlace.{MemberPlace}
use Rattle.go_term_core.specs.declared.term.MemberPlace.TheVariants as places
use Rattle.go_term_core.specs.Terms.{Term, PointerTo, StructOf, InterfaceOf, Fields, NoField, AField, Methods, NoMethod, AMethod, Sign, SignOf, Terms, NoTerm, ATerm}
use Rattle.go_typexpr_core.specs.declared.written.names.WrittenIn.{WrittenIn}

-- the file in which a type is written: the path of its package, its number there, the identifiers that it declares outside bodies
pub record InFile : Type 0 where
  pub path : List ℕ
  pub file : ℕ
  pub places : List Place

abbrev pub in_file : WrittenIn → InFile
in_file w = record { path = w.path.now; file = w.file; places = w.places.now }

-- what the names of types mean
abbrev pub Meaning : Type 0
Meaning = TypeName → Term

-- the number of the identifier at an offset, counted from one on
abbrev pub number_from : ℕ → List Place → ℕ → Option ℕ
number_from n [] offset = None
number_from n (p ∷ ps) offset = if nat_eq p.at offset then Some n else number_from (Rattle.std.specs.Prelude.ℕ.suc n) ps offset

abbrev pub written_member_place : InFile → DeclKind → ℕ → Option ℕ → MemberPlace
written_member_place f kind offset None = places.Local (record { file = f.file; offset = offset })
written_member_place f kind offset (Some n) = places.Declared (record { file = f.file; number = n; kind = kind })

-- where an identifier is declared: under its number in the file, or inside a body at its offset
abbrev pub member_place : InFile → DeclKind → ℕ → MemberPlace
member_place f kind offset = written_member_place f kind offset (number_from 0 f.places offset)

abbrev pub term_starred : Option Span → Term → Term
term_starred None t = t
term_starred (Some s) t = PointerTo t

abbrev pub tag_of : Option TextLiteral → List ℕ
tag_of None = []
tag_of (Some t) = value_of t

-- a field for each name, before others
abbrev pub named_fields : InFile → Term → List ℕ → Separated Ident → Fields → Fields
named_fields f t tag (One x) rest = AField x.name (member_place f kinds.Field x.span.start) false t tag rest
named_fields f t tag (Then x comma xs) rest = AField x.name (member_place f kinds.Field x.span.start) false t tag (named_fields f t tag xs rest)

-- a type for each name, or one where there is none, before others
abbrev pub for_each : Term → Separated Ident → Terms → Terms
for_each t (One x) rest = ATerm t rest
for_each t (Then x comma xs) rest = ATerm t (for_each t xs rest)

abbrev pub for_names : Term → Option (Separated Ident) → Terms → Terms
for_names t None rest = ATerm t rest
for_names t (Some xs) rest = for_each t xs rest

abbrev mutual
  -- the type that is written
  pub term_of : Meaning → InFile → TypeTree → Term
  term_of mean f (NamedType n) = mean n
  term_of mean f (Pointer s t) = PointerTo (term_of mean f t)
  term_of mean f (ParenType a t b) = term_of mean f t
  term_of mean f (Struct a b fs c) = StructOf f.path (fields_of_tree mean f fs)
  term_of mean f (Interface a b ms c) = InterfaceOf f.path (methods_of_tree mean f ms)

  pub fields_of_tree : Meaning → InFile → FieldTrees → Fields
  fields_of_tree mean f NoFields = NoField
  fields_of_tree mean f (NamedFields xs t tag semicolon fs) = named_fields f (term_of mean f t) (tag_of tag) xs (fields_of_tree mean f fs)
  fields_of_tree mean f (EmbeddedField star n tag semicolon fs) =
      AField (last_ident n).name (member_place f kinds.Field (last_ident n).span.start) true (term_starred star (mean n)) (tag_of tag) (fields_of_tree mean f fs)

  pub methods_of_tree : Meaning → InFile → MethodTrees → Methods
  methods_of_tree mean f NoMethods = NoMethod
  methods_of_tree mean f (Method x g semicolon ms) = AMethod x.name (member_place f kinds.Method x.span.start) (signature_of mean f g) (methods_of_tree mean f ms)

  pub signature_of : Meaning → InFile → SignatureTree → Sign
  signature_of mean f (Signed a ps b r) = SignOf (params_of_tree mean f ps) (results_of_tree mean f r)

  pub results_of_tree : Meaning → InFile → ResultTree → Terms
  results_of_tree mean f NoResult = NoTerm
  results_of_tree mean f (OneResult t) = ATerm (term_of mean f t) NoTerm
  results_of_tree mean f (Results a ps b) = params_of_tree mean f ps

  pub params_of_tree : Meaning → InFile → ParamTrees → Terms
  params_of_tree mean f NoParams = NoTerm
  params_of_tree mean f (Param xs t comma ps) = for_names (term_of mean f t) xs (params_of_tree mean f ps)
