-- Laws of identity.
use Rattle.std.specs.Prelude.{◌≡◌, ◌↔◌, ℕ, zero, suc, Bool, List, ⊤}
use Rattle.go_decl_core.specs.declared.keys.DeclKey.{DeclKey}
use Rattle.go_term_core.specs.declared.term.MemberPlace.{MemberPlace}
use Rattle.go_term_core.specs.Terms.{Term, NoType, Predeclared, ErrorType, Defined, PointerTo, StructOf, InterfaceOf, Fields, NoField, AField, Methods, NoMethod, AMethod, Sign, SignOf, Terms, NoTerm, ATerm}
use Rattle.go_term_core.specs.Identity.{Identical}

-- no method of this name
abbrev pub HasNone : List ℕ → Methods → Type 0
HasNone name NoMethod = ⊤
HasNone name (AMethod other place g ms) = (name ≡ other → ⊥) × HasNone name ms

-- the methods of each interface type differ by name
abbrev mutual
  pub IsApart : Term → Type 0
  IsApart NoType = ⊤
  IsApart (Predeclared b) = ⊤
  IsApart ErrorType = ⊤
  IsApart (Defined k) = ⊤
  IsApart (PointerTo t) = IsApart t
  IsApart (StructOf path fs) = FieldsApart fs
  IsApart (InterfaceOf path ms) = MethodsApart ms

  pub FieldsApart : Fields → Type 0
  FieldsApart NoField = ⊤
  FieldsApart (AField name place embedded t tag fs) = IsApart t × FieldsApart fs

  pub MethodsApart : Methods → Type 0
  MethodsApart NoMethod = ⊤
  MethodsApart (AMethod name place g ms) = HasNone name ms × SignApart g × MethodsApart ms

  pub SignApart : Sign → Type 0
  SignApart (SignOf ps rs) = TermsApart ps × TermsApart rs

  pub TermsApart : Terms → Type 0
  TermsApart NoTerm = ⊤
  TermsApart (ATerm t ts) = IsApart t × TermsApart ts

pub record IdentityIsEquivalence : Type 0 where
  pub reflexive : (t : Term) → Identical t t
  pub symmetric : (t u : Term) → IsApart t → IsApart u → Identical t u → Identical u t
  pub transitive : (t u v : Term) → Identical t u → Identical u v → Identical t v

-- a defined type is identical to itself alone
abbrev pub DefinedByKey : Type 0
DefinedByKey = (k : DeclKey) (t : Term) → Identical (Defined k) t ↔ (t ≡ Defined k)

-- two struct types of one field that differ in its tag alone
abbrev pub TagsAreCompared : Type 0
TagsAreCompared =
    (path name : List ℕ) (place : MemberPlace) (embedded : Bool) (t : Term) (tag other : List ℕ) → (tag ≡ other → ⊥)
    → Identical (StructOf path (AField name place embedded t tag NoField)) (StructOf path (AField name place embedded t other NoField)) → ⊥

-- the methods, with the one at a place and the next one in turned order
abbrev pub swapped : ℕ → Methods → Methods
swapped zero (AMethod name place g (AMethod name' place' g' ms)) = AMethod name' place' g' (AMethod name place g ms)
swapped zero ms = ms
swapped (suc k) (AMethod name place g ms) = AMethod name place g (swapped k ms)
swapped (suc k) NoMethod = NoMethod

-- an interface type, and the one in which two methods that follow one another have changed places
abbrev pub OrderDoesNotCount : Type 0
OrderDoesNotCount = (path : List ℕ) (ms : Methods) (k : ℕ) → Identical (InterfaceOf path ms) (InterfaceOf path (swapped k ms))
