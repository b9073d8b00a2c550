-- Which types implement an interface type: the Go specification, "Implementing an interface".
use Rattle.std.specs.Prelude.{◌≡◌, ℕ, List, [], Result, Ok, Err, codes}
use Rattle.std.specs.Ordering.{nat_cmp}
use Rattle.std.specs.Cmp.Lexicographic.{slice_cmp}
use Rattle.std.specs.declared.cmp.Ordering.TheVariants.{Less}
use Rattle.go_term_core.specs.declared.term.Basic.TheVariants as basics
use Rattle.go_term_core.specs.declared.term.MemberPlace.{MemberPlace}
use Rattle.go_term_core.specs.Terms.{Term, Predeclared, ErrorType, InterfaceOf, Sign, SignOf, NoTerm, ATerm}
use Rattle.go_term_core.specs.Identity.{IsMethod, SameSign}
use Rattle.go_select_core.specs.table_core.Entries.{EntryLook, underlying_in}
use Rattle.go_select_core.specs.embed_core.Owners.{Found, AFieldOf, AMethodOf, AnInterfaces, TheErrorMethod}
use Rattle.go_mset_core.specs.declared.interface.Missing.{Missing}
use Rattle.go_mset_core.specs.MethodSets.{IsInMethodSet}

-- the signature of the method `Error() string` of `error`
abbrev pub error_sign : Sign
error_sign = SignOf NoTerm (ATerm (Predeclared basics.Text) NoTerm)

-- a method whose signature is identical to g
abbrev pub IsSigned : Found → Sign → Type 0
IsSigned (AFieldOf path place t) g = ⊥
IsSigned (AMethodOf path place pointer h) g = SameSign h g
IsSigned (AnInterfaces path place h) g = SameSign h g
IsSigned TheErrorMethod g = SameSign error_sign g

-- an underlying type has a method of this identifier and signature as an interface type
abbrev pub IsOfInterface : Term → List ℕ → List ℕ → Sign → Type 0
IsOfInterface ErrorType name from g = (name ≡ codes "Error") × (from ≡ []) × (g ≡ error_sign)
IsOfInterface (InterfaceOf path ms) name from g = (from ≡ path) × ((place : MemberPlace) × IsMethod ms name place g)
IsOfInterface _ name from g = ⊥

-- the method set of t has a method of the identifier with a signature identical to g
abbrev pub HasMethod : EntryLook → Term → List ℕ → List ℕ → Sign → Type 0
HasMethod look t name from g = (path : List ℕ) × (m : Found) × IsInMethodSet look t name from path m × IsSigned m g

-- t has each method of the underlying type u
abbrev pub HasMethodsOf : EntryLook → Term → Term → Type 0
HasMethodsOf look t u = (name from : List ℕ) (g : Sign) → IsOfInterface u name from g → HasMethod look t name from g

-- t has not a method of u of that name, and has each of those before it by the bytes of their names
pub record IsFirstMissing (look : EntryLook) (t u : Term) (name : List ℕ) : Type 0 where
  pub from : List ℕ
  pub sign : Sign
  pub of_interface : IsOfInterface u name from sign
  pub lacks : HasMethod look t name from sign → ⊥
  pub first : (other other_from : List ℕ) (g : Sign) → IsOfInterface u other other_from g → slice_cmp nat_cmp other name ≡ Less → HasMethod look t other other_from g

-- what is answered to the question whether t has each method of u
abbrev pub IsImplementsAnswer : {A : Type 0} → EntryLook → Term → Term → Result A Missing → Type 0
IsImplementsAnswer look t u (Ok _) = HasMethodsOf look t u
IsImplementsAnswer look t u (Err missing) = IsFirstMissing look t u missing.name.now

-- t implements the interface type i
abbrev pub Implements : EntryLook → Term → Term → Type 0
Implements look t i = HasMethodsOf look t (underlying_in look i)

-- what is answered to the question whether t implements i
abbrev pub IsImplementing : {A : Type 0} → EntryLook → Term → Term → Result A Missing → Type 0
IsImplementing look t i answer = IsImplementsAnswer look t (underlying_in look i) answer
