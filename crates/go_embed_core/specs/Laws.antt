-- Laws of members and faults.
use Rattle.std.specs.Prelude.{◌≡◌, ◌<◌, ◌⊎◌, ◌↔◌, ℕ, zero, suc, Bool, true, false, List, [], ◌∷◌, ◌++◌, Option, None, Contains, ⊤, if◌then◌else◌}
use Rattle.go_collections_core.specs.text_core.Text.{SameId, is_blank}
use Rattle.go_collections_core.specs.text_core.declared.rule.Rule.TheVariants as rules
use Rattle.go_term_core.specs.decl_core.declared.keys.DeclKey.{DeclKey}
use Rattle.go_term_core.specs.declared.term.MemberPlace.{MemberPlace}
use Rattle.go_term_core.specs.Terms.{Term, NoType, Predeclared, ErrorType, Defined, PointerTo, StructOf, InterfaceOf, Fields, NoField, AField, Methods, NoMethod, AMethod, Sign, SignOf, Terms, NoTerm, ATerm, term_keys}
use Rattle.go_term_core.specs.declared.settling.kind.Kind.{Kind}
use Rattle.go_term_core.specs.declared.settling.kind.Kind.TheVariants as kinds
use Rattle.go_type_core.specs.table_core.Entries.{Member, EntryLook, underlying_in, declared_methods, has_method}
use Rattle.go_type_core.specs.table_core.Methods.{is_before}
use Rattle.go_type_core.specs.Built.{unrepeated_methods}
use Rattle.go_embed_core.specs.Owners.{EmbeddedEdge, owner_in, path_of_term, off, is_starred, embedded_in}
use Rattle.go_embed_core.specs.Faults.{member_fault, first_place, is_shared, term_faults, hidden_faults}

-- the field of that number
abbrev pub IsField : Fields → ℕ → List ℕ → MemberPlace → Bool → Term → Type 0
IsField NoField i name place embedded t = ⊥
IsField (AField name' place' embedded' t' tag fs) zero name place embedded t = (name' ≡ name) × (place' ≡ place) × (embedded' ≡ embedded) × (t' ≡ t)
IsField (AField name' place' embedded' t' tag fs) (suc i) name place embedded t = IsField fs i name place embedded t

-- an embedded field of a type
pub record IsStep (look : EntryLook) (t : Term) (e : EmbeddedEdge) : Type 0 where
  pub path : List ℕ
  pub fields : Fields
  pub under : underlying_in look t ≡ StructOf path fields
  pub name : List ℕ
  pub place : MemberPlace
  pub term : Term
  pub field : IsField fields e.position name place true term
  pub shows : has_method (path_of_term t) (declared_methods look t) name path ≡ false
  pub pointer : e.pointer ≡ is_starred term
  pub target : e.target ≡ off term

abbrev pub EmbeddingIsAStep : Type 0
EmbeddingIsAStep = (look : EntryLook) (t : Term) (e : EmbeddedEdge) → Contains (embedded_in (owner_in look t)) e ↔ IsStep look t e

-- the members of a type depend on what is known of the type that it names
abbrev pub OwnerIsLocal : Type 0
OwnerIsLocal = (look other : EntryLook) (t : Term) → ((k : DeclKey) → t ≡ Defined k → look k ≡ other k) → owner_in look t ≡ owner_in other t

abbrev pub FaultsAreLocal : Type 0
FaultsAreLocal = (one other : DeclKey → Kind) (t : Term) → ((k : DeclKey) → Contains (term_keys t) k → one k ≡ other k) → term_faults one t ≡ term_faults other t

-- the places of the members that a type declares, in order. A type that is written once for several names declares its members once
abbrev mutual
  pub term_places : Term → List MemberPlace
  term_places NoType = []
  term_places (Predeclared b) = []
  term_places ErrorType = []
  term_places (Defined k) = []
  term_places (PointerTo t) = term_places t
  term_places (StructOf path fs) = fields_places None fs
  term_places (InterfaceOf path ms) = methods_places ms

  pub fields_places : Option MemberPlace → Fields → List MemberPlace
  fields_places last NoField = []
  fields_places last (AField name place embedded t tag fs) = place ∷ ((if is_shared last t then [] else term_places t) ++ fields_places (first_place t) fs)

  pub methods_places : Methods → List MemberPlace
  methods_places NoMethod = []
  methods_places (AMethod name place g ms) = place ∷ (sign_places g ++ methods_places ms)

  pub sign_places : Sign → List MemberPlace
  sign_places (SignOf ps rs) = terms_places None ps ++ terms_places None rs

  pub terms_places : Option MemberPlace → Terms → List MemberPlace
  terms_places last NoTerm = []
  terms_places last (ATerm t ts) = (if is_shared last t then [] else term_places t) ++ terms_places (first_place t) ts

abbrev pub line_places : Option MemberPlace → Term → List MemberPlace
line_places last t = if is_shared last t then [] else term_places t

-- no two items of a list are one
abbrev pub AreApart : {X : Type 0} → List X → Type 0
AreApart [] = ⊤
AreApart (x ∷ xs) = (Contains xs x → ⊥) × AreApart xs

-- a field of the name stands before that of the number, and the name is not blank
abbrev pub IsRepeated : Fields → ℕ → List ℕ → Type 0
IsRepeated fs i name =
    (is_blank name ≡ false) × ((j : ℕ) × (place : MemberPlace) × (embedded : Bool) × (t : Term) × (j < i) × IsField fs j name place embedded t)

-- a field of a struct type repeats a name exactly where an earlier one of that struct type has it. The members of a type have places
-- of their own, as they have in a file
abbrev pub RepeatedIsTold : Type 0
RepeatedIsTold =
    (kind : DeclKey → Kind) (path : List ℕ) (fs : Fields) (i : ℕ) (name : List ℕ) (place : MemberPlace) (embedded : Bool) (t : Term)
    → AreApart (fields_places None fs) → IsField fs i name place embedded t
    → Contains (term_faults kind (StructOf path fs)) (member_fault place rules.B5) ↔ IsRepeated fs i name

-- the list of a type's faults names each place with each rule once
abbrev pub EachFaultOnce : Type 0
EachFaultOnce = (kind : DeclKey → Kind) (t : Term) → AreApart (term_places t) → AreApart (term_faults kind t)

-- the kind of a type as its name is written
abbrev pub written_kind : (DeclKey → Kind) → Term → Kind
written_kind kind NoType = kinds.Nothing
written_kind kind (Predeclared b) = kinds.Other
written_kind kind ErrorType = kinds.Interface
written_kind kind (Defined k) = kind k
written_kind kind (PointerTo t) = kinds.Pointer
written_kind kind (StructOf path fs) = kinds.Other
written_kind kind (InterfaceOf path ms) = kinds.Interface

-- a pointer type, or a star before a pointer type or an interface type
abbrev pub MayNotBeEmbedded : (DeclKey → Kind) → Term → Type 0
MayNotBeEmbedded kind (PointerTo t) = (written_kind kind t ≡ kinds.Pointer) ⊎ (written_kind kind t ≡ kinds.Interface)
MayNotBeEmbedded kind NoType = ⊥
MayNotBeEmbedded kind (Predeclared b) = ⊥
MayNotBeEmbedded kind ErrorType = ⊥
MayNotBeEmbedded kind (Defined k) = kind k ≡ kinds.Pointer
MayNotBeEmbedded kind (StructOf path fs) = ⊥
MayNotBeEmbedded kind (InterfaceOf path ms) = ⊥

-- an embedded field of a struct type is refused exactly where its type is a pointer type by its name, or has a star and is a pointer type
-- or an interface type without it
abbrev pub StarredInterfaceIsTold : Type 0
StarredInterfaceIsTold =
    (kind : DeclKey → Kind) (path : List ℕ) (fs : Fields) (i : ℕ) (name : List ℕ) (place : MemberPlace) (embedded : Bool) (t : Term)
    → AreApart (fields_places None fs) → IsField fs i name place embedded t
    → Contains (term_faults kind (StructOf path fs)) (member_fault place rules.Y2) ↔ ((embedded ≡ true) × MayNotBeEmbedded kind t)

-- the places of the fields of a struct type
abbrev pub own_places : Fields → List MemberPlace
own_places NoField = []
own_places (AField name place embedded t tag fs) = place ∷ own_places fs

-- a field of the struct type over which a defined type of the package of a path is defined, and the methods that are declared of it. Two fields
-- have two places, and of a field and a method one stands before the other, as two declarations of a package do
pub record IsOwnField (path home : List ℕ) (fs : Fields) (ms : List Member) (name : List ℕ) (place : MemberPlace) : Type 0 where
  pub number : ℕ
  pub embedded : Bool
  pub term : Term
  pub field : IsField fs number name place embedded term
  pub apart : AreApart (own_places fs)
  pub ordered : (m : Member) → Contains ms m → (is_before m.place place ≡ true) ⊎ (is_before place m.place ≡ true)

-- a method that a type keeps has the field's identifier and stands before it
abbrev pub IsBehindMethod : (DeclKey → Kind) → List ℕ → List ℕ → Fields → List Member → List ℕ → MemberPlace → Type 0
IsBehindMethod kind path home fs ms name place =
    (m : Member) × Contains (unrepeated_methods kind path (StructOf home fs) [] ms) m × SameId m.name path name home × (is_before m.place place ≡ true)

pub record HiddenIsTold : Type 0 where
  -- the fault stands at a field exactly where a method of its identifier stands before it that the type keeps: so of the two one is kept
  pub before : (kind : DeclKey → Kind) (path home : List ℕ) (fs : Fields) (ms : List Member) (name : List ℕ) (place : MemberPlace) → IsOwnField path home fs ms name place
      → Contains (hidden_faults path (StructOf home fs) ms) (member_fault place rules.B5) ↔ IsBehindMethod kind path home fs ms name place
  -- and exactly where the field is left out of the members of the type
  pub left_out : (kind : DeclKey → Kind) (path home : List ℕ) (fs : Fields) (ms : List Member) (name : List ℕ) (place : MemberPlace) → IsOwnField path home fs ms name place
      → Contains (hidden_faults path (StructOf home fs) ms) (member_fault place rules.B5) ↔ (has_method path (unrepeated_methods kind path (StructOf home fs) [] ms) name home ≡ true)
