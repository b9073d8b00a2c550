-- Laws of tables of types.
use Rattle.std.specs.Prelude.{◌≡◌, ◌⊎◌, ◌↔◌, Bool, true, IsTrue, List, [], ◌∷◌, ◌++◌, Some, None, Contains}
use Rattle.go_term_core.specs.decl_core.declared.keys.DeclKey.{DeclKey}
use Rattle.go_term_core.specs.declared.term.Basic.TheVariants as basics
use Rattle.go_term_core.specs.Terms.{Term, NoType, Predeclared, ErrorType, Defined, term_keys}
use Rattle.go_term_core.specs.Identity.{Identical, IdenticalBy}
use Rattle.go_table_core.specs.Entries.{Entry, EntryLook, find_entry, underlying_in, declared_methods, members_keys, entry_keys}
use Rattle.go_table_core.specs.Underlying.{IsErrorInterface, IdenticalUnder}
use Rattle.go_table_core.specs.Assign.{Assigned, AValue, ANil, AnInteger, AText, ABoolean, IsNamed, IsInterface, IsPointer, IsType, IsTermAssignable}

-- the types on the list, each mentioned by the one before, lead from the types that are mentioned to k
abbrev pub LeadsTo : EntryLook → List DeclKey → List DeclKey → DeclKey → Type 0
LeadsTo look mentioned [] k = Contains mentioned k
LeadsTo look mentioned (j ∷ js) k = Contains mentioned j × ((e : Entry) × (look j ≡ Some e) × LeadsTo look (entry_keys e) js k)

-- a defined type that is reached from a type: mentioned by it, or by what is reached
abbrev pub IsReached : EntryLook → Term → DeclKey → Type 0
IsReached look t k = (through : List DeclKey) × LeadsTo look (term_keys t) through k

-- two tables have the same of all that is reached from a type
abbrev pub AgreeFrom : EntryLook → EntryLook → Term → Type 0
AgreeFrom look other t = (k : DeclKey) → IsReached look t k → look k ≡ other k

-- a type's underlying type depends on what it mentions alone, and mentions what is reached alone
pub record UnderlyingIsLocal : Type 0 where
  pub same : (look other : EntryLook) (t : Term) → AgreeFrom look other t → underlying_in look t ≡ underlying_in other t
  pub methods : (look other : EntryLook) (t : Term) → AgreeFrom look other t → declared_methods look t ≡ declared_methods other t
  pub inside : (look : EntryLook) (t : Term) (k : DeclKey) → Contains (term_keys (underlying_in look t)) k → IsReached look t k

-- what the operand mentions
abbrev pub AssignedAgrees : EntryLook → EntryLook → Assigned → Type 0
AssignedAgrees look other (AValue v) = AgreeFrom look other v
AssignedAgrees look other _ = Unit {0}

abbrev pub AssignableIsLocal : Type 0
AssignableIsLocal =
    (look other : EntryLook) (a : Assigned) (t : Term) (implements : Bool) → AssignedAgrees look other a → AgreeFrom look other t
    → IsTermAssignable look a t (IsTrue implements) ↔ IsTermAssignable other a t (IsTrue implements)

-- a value of a type is assignable to that type, be it an interface type or not
abbrev pub AssignableToItself : Type 0
AssignableToItself = (look : EntryLook) (t : Term) (implements : Bool) → IsType look t → IsTermAssignable look (AValue t) t (IsTrue implements)

-- nothing is assignable to what is no type, and no value of what is no type is assignable
pub record NothingToNoType : Type 0 where
  pub target : (look : EntryLook) (a : Assigned) (t : Term) (implements : Bool) → underlying_in look t ≡ NoType → IsTermAssignable look a t (IsTrue implements) → ⊥
  pub operand : (look : EntryLook) (v t : Term) (implements : Bool) → underlying_in look v ≡ NoType → IsTermAssignable look (AValue v) t (IsTrue implements) → ⊥

-- what is reached from what is reached is reached, and two tables that agree on it reach the same
pub record ReachIsClosed : Type 0 where
  pub itself : (look : EntryLook) (k : DeclKey) → IsReached look (Defined k) k
  pub onward : (look : EntryLook) (t : Term) (j k : DeclKey) → IsReached look t j → IsReached look (Defined j) k → IsReached look t k
  pub underlying : (look : EntryLook) (t : Term) (k : DeclKey) → IsReached look (underlying_in look t) k → IsReached look t k
  pub methods : (look : EntryLook) (t : Term) (k : DeclKey) → Contains (members_keys (declared_methods look t)) k → IsReached look t k
  pub same : (look other : EntryLook) (t : Term) (k : DeclKey) → AgreeFrom look other t → IsReached look t k ↔ IsReached other t k
  pub turned : (look other : EntryLook) (t : Term) → AgreeFrom look other t → AgreeFrom other look t

-- a type that is no name, or another that is none
abbrev pub IsOneUnnamed : Term → Term → Type 0
IsOneUnnamed v t = (IsNamed v → ⊥) ⊎ (IsNamed t → ⊥)

-- an untyped value of a type goes to types that are defined by it, and to interface types that it implements
abbrev pub TakesUntyped : EntryLook → Term → Term → Bool → Type 0
TakesUntyped look basic t implements = (underlying_in look t ≡ basic) ⊎ (IsInterface (underlying_in look t) × IsTrue implements)

-- the rules by which a value is assignable to a type, and no others. For a value of a type: the types are identical; their underlying types
-- are, and one of the two is not named; the type is an interface type that the value implements
pub record AssignabilityByRule : Type 0 where
  pub value : (look : EntryLook) (v t : Term) (implements : Bool) → IsType look v
      → IsTermAssignable look (AValue v) t (IsTrue implements)
      ↔ (Identical v t ⊎ ((IdenticalUnder true (underlying_in look v) (underlying_in look t) × IsOneUnnamed v t) ⊎ (IsInterface (underlying_in look t) × IsTrue implements)))
  pub nil : (look : EntryLook) (t : Term) (implements : Bool) → IsTermAssignable look ANil t (IsTrue implements) ↔ (IsPointer (underlying_in look t) ⊎ IsInterface (underlying_in look t))
  pub integer : (look : EntryLook) (t : Term) (implements : Bool) → IsTermAssignable look AnInteger t (IsTrue implements) ↔ TakesUntyped look (Predeclared basics.Int) t implements
  pub text : (look : EntryLook) (t : Term) (implements : Bool) → IsTermAssignable look AText t (IsTrue implements) ↔ TakesUntyped look (Predeclared basics.Text) t implements
  pub boolean : (look : EntryLook) (t : Term) (implements : Bool) → IsTermAssignable look ABoolean t (IsTrue implements) ↔ TakesUntyped look (Predeclared basics.Bool) t implements
  -- so a value of a defined type goes to no other defined type but interface types, however the two are defined
  pub defined_types : (look : EntryLook) (k j : DeclKey) (implements : Bool) → (k ≡ j → ⊥) → (IsInterface (underlying_in look (Defined j)) → ⊥) → IsTermAssignable look (AValue (Defined k)) (Defined j) (IsTrue implements) → ⊥

-- types that are added to a table behind others change nothing of what it had, and are found where it had none
pub record AddingKeeps : Type 0 where
  pub found : (es more : List Entry) (k : DeclKey) (e : Entry) → find_entry es k ≡ Some e → find_entry (es ++ more) k ≡ Some e
  pub added : (es more : List Entry) (k : DeclKey) → find_entry es k ≡ None → find_entry (es ++ more) k ≡ find_entry more k

-- the underlying type of `error` is the interface type with the one method `Error() string`. So a type whose underlying type it is is alike to the types
-- whose underlying type is `error`'s or an interface type with exactly that method, from both sides, whether tags count or not; of all others
-- identity decides. `error` itself is identical to itself alone, as each named type
pub record ErrorIsAnInterface : Type 0 where
  pub left : (look : EntryLook) (tags : Bool) (t u : Term) → underlying_in look t ≡ ErrorType
      → IdenticalUnder tags (underlying_in look t) (underlying_in look u) ↔ ((underlying_in look u ≡ ErrorType) ⊎ IsErrorInterface (underlying_in look u))
  pub right : (look : EntryLook) (tags : Bool) (t u : Term) → underlying_in look u ≡ ErrorType
      → IdenticalUnder tags (underlying_in look t) (underlying_in look u) ↔ ((underlying_in look t ≡ ErrorType) ⊎ IsErrorInterface (underlying_in look t))
  pub others : (look : EntryLook) (tags : Bool) (t u : Term) → (underlying_in look t ≡ ErrorType → ⊥) → (underlying_in look u ≡ ErrorType → ⊥)
      → IdenticalUnder tags (underlying_in look t) (underlying_in look u) ↔ IdenticalBy tags (underlying_in look t) (underlying_in look u)
  pub itself : (t : Term) → Identical ErrorType t ↔ (t ≡ ErrorType)
