-- What a written type is once it is known which declared types are none, which are pointer types and which are interface types.
use Rattle.std.specs.Prelude.{ℕ, Bool, true, false, not, ◌&&◌, ◌||◌, List, [], ◌∷◌, if◌then◌else◌}
use Rattle.std.specs.Str.{bytes_eq}
use Rattle.go_decl_core.specs.declared.keys.DeclKey.{DeclKey}
use Rattle.go_tree_nodes.specs.text_core.Text.{is_blank}
use Rattle.go_term_core.specs.Terms.{Term, NoType, Predeclared, ErrorType, Defined, PointerTo, StructOf, InterfaceOf, Fields, NoField, AField, Methods, NoMethod, AMethod, Sign, SignOf, Terms, NoTerm, ATerm}
use Rattle.go_term_core.specs.declared.settling.kind.Kind.{Kind}
use Rattle.go_term_core.specs.declared.settling.kind.Kind.TheVariants as kinds

-- the kind of a type that is no name
abbrev pub kind_of_term : Term → Kind
kind_of_term NoType = kinds.Nothing
kind_of_term (Predeclared b) = kinds.Other
kind_of_term ErrorType = kinds.Interface
kind_of_term (Defined k) = kinds.Other
kind_of_term (PointerTo t) = kinds.Pointer
kind_of_term (StructOf path fs) = kinds.Other
kind_of_term (InterfaceOf path ms) = kinds.Interface

-- a type that a field may embed by its name
abbrev pub is_no_pointer : Kind → Bool
is_no_pointer kinds.Nothing = true
is_no_pointer kinds.Pointer = false
is_no_pointer kinds.Interface = true
is_no_pointer kinds.Other = true

-- a type that a field may embed by a star and its name
abbrev pub can_be_pointed : Kind → Bool
can_be_pointed kinds.Nothing = true
can_be_pointed kinds.Pointer = false
can_be_pointed kinds.Interface = false
can_be_pointed kinds.Other = true

abbrev pub can_point : (DeclKey → Kind) → Term → Bool
can_point kind NoType = true
can_point kind (Predeclared b) = true
can_point kind ErrorType = false
can_point kind (Defined k) = can_be_pointed (kind k)
can_point kind (PointerTo t) = false
can_point kind (StructOf path fs) = true
can_point kind (InterfaceOf path ms) = false

-- whether a field of this type may be embedded
abbrev pub can_be_embedded : (DeclKey → Kind) → Term → Bool
can_be_embedded kind NoType = true
can_be_embedded kind (Predeclared b) = true
can_be_embedded kind ErrorType = true
can_be_embedded kind (Defined k) = is_no_pointer (kind k)
can_be_embedded kind (PointerTo t) = can_point kind t
can_be_embedded kind (StructOf path fs) = true
can_be_embedded kind (InterfaceOf path ms) = true

-- a pointer to what is no type is none
abbrev pub pointer_to : Term → Term
pointer_to NoType = NoType
pointer_to (Predeclared b) = PointerTo (Predeclared b)
pointer_to ErrorType = PointerTo ErrorType
pointer_to (Defined k) = PointerTo (Defined k)
pointer_to (PointerTo t) = PointerTo (PointerTo t)
pointer_to (StructOf path fs) = PointerTo (StructOf path fs)
pointer_to (InterfaceOf path ms) = PointerTo (InterfaceOf path ms)

abbrev pub defined_unless : Kind → DeclKey → Term
defined_unless kinds.Nothing k = NoType
defined_unless kinds.Pointer k = Defined k
defined_unless kinds.Interface k = Defined k
defined_unless kinds.Other k = Defined k

-- a name stands among others
abbrev pub is_among_names : List (List ℕ) → List ℕ → Bool
is_among_names [] name = false
is_among_names (n ∷ ns) name = if bytes_eq n name then true else is_among_names ns name

-- a name that is not blank stands among earlier ones
abbrev pub repeats_earlier : List (List ℕ) → List ℕ → Bool
repeats_earlier seen name = not (is_blank name) && is_among_names seen name

abbrev mutual
  pub settled : (DeclKey → Kind) → Term → Term
  settled kind NoType = NoType
  settled kind (Predeclared b) = Predeclared b
  settled kind ErrorType = ErrorType
  settled kind (Defined k) = defined_unless (kind k) k
  settled kind (PointerTo t) = pointer_to (settled kind t)
  settled kind (StructOf path fs) = StructOf path (settled_fields kind [] fs)
  settled kind (InterfaceOf path ms) = InterfaceOf path (settled_methods kind [] ms)

  -- the fields that repeat no earlier name; those that may not be embedded are plain
  pub settled_fields : (DeclKey → Kind) → List (List ℕ) → Fields → Fields
  settled_fields kind seen NoField = NoField
  settled_fields kind seen (AField name place embedded t tag fs) =
      if repeats_earlier seen name then settled_fields kind seen fs
      else AField name place (embedded && can_be_embedded kind t) (settled kind t) tag (settled_fields kind (name ∷ seen) fs)

  -- the methods that are not blank and repeat no earlier name
  pub settled_methods : (DeclKey → Kind) → List (List ℕ) → Methods → Methods
  settled_methods kind seen NoMethod = NoMethod
  settled_methods kind seen (AMethod name place g ms) =
      if is_blank name || is_among_names seen name then settled_methods kind seen ms
      else AMethod name place (settled_sign kind g) (settled_methods kind (name ∷ seen) ms)

  pub settled_sign : (DeclKey → Kind) → Sign → Sign
  settled_sign kind (SignOf ps rs) = SignOf (settled_terms kind ps) (settled_terms kind rs)

  pub settled_terms : (DeclKey → Kind) → Terms → Terms
  settled_terms kind NoTerm = NoTerm
  settled_terms kind (ATerm t ts) = ATerm (settled kind t) (settled_terms kind ts)
