-- Types in which nothing is amiss.
use Rattle.std.specs.Prelude.{◌≡◌, ℕ, true, false, List, ⊤}
use Rattle.go_decl_core.specs.declared.keys.DeclKey.{DeclKey}
use Rattle.go_tree_nodes.specs.text_core.Text.{is_blank}
use Rattle.go_term_core.specs.Terms.{Term, NoType, Predeclared, ErrorType, Defined, PointerTo, StructOf, InterfaceOf, Fields, NoField, AField, Methods, NoMethod, AMethod, Sign, SignOf, Terms, NoTerm, ATerm}
use Rattle.go_term_core.specs.Laws.{HasNone}
use Rattle.go_term_core.specs.declared.settling.kind.Kind.{Kind}
use Rattle.go_term_core.specs.declared.settling.kind.Kind.TheVariants as kinds
use Rattle.go_term_core.specs.settling.Settled.{can_be_embedded, settled}

-- no field of this name
abbrev pub HasNoField : List ℕ → Fields → Type 0
HasNoField name NoField = ⊤
HasNoField name (AField other place embedded t tag fs) = (name ≡ other → ⊥) × HasNoField name fs

-- each name is of a type, no pointer is to what is none, no field that is not blank repeats a name, a field that is embedded may be, and
-- no method is blank or repeats a name
abbrev mutual
  pub IsClean : (DeclKey → Kind) → Term → Type 0
  IsClean kind NoType = ⊤
  IsClean kind (Predeclared b) = ⊤
  IsClean kind ErrorType = ⊤
  IsClean kind (Defined k) = (kind k ≡ kinds.Nothing) → ⊥
  IsClean kind (PointerTo t) = (t ≡ NoType → ⊥) × IsClean kind t
  IsClean kind (StructOf path fs) = FieldsClean kind fs
  IsClean kind (InterfaceOf path ms) = MethodsClean kind ms

  pub FieldsClean : (DeclKey → Kind) → Fields → Type 0
  FieldsClean kind NoField = ⊤
  FieldsClean kind (AField name place embedded t tag fs) =
      (embedded ≡ true → can_be_embedded kind t ≡ true) × (is_blank name ≡ false → HasNoField name fs) × IsClean kind t × FieldsClean kind fs

  pub MethodsClean : (DeclKey → Kind) → Methods → Type 0
  MethodsClean kind NoMethod = ⊤
  MethodsClean kind (AMethod name place g ms) = (is_blank name ≡ false) × HasNone name ms × SignClean kind g × MethodsClean kind ms

  pub SignClean : (DeclKey → Kind) → Sign → Type 0
  SignClean kind (SignOf ps rs) = TermsClean kind ps × TermsClean kind rs

  pub TermsClean : (DeclKey → Kind) → Terms → Type 0
  TermsClean kind NoTerm = ⊤
  TermsClean kind (ATerm t ts) = IsClean kind t × TermsClean kind ts

-- nothing is amiss in a settled type, and a type in which nothing is amiss is settled
pub record SettlingCleans : Type 0 where
  pub cleans : (kind : DeclKey → Kind) (t : Term) → IsClean kind (settled kind t)
  pub keeps : (kind : DeclKey → Kind) (t : Term) → IsClean kind t → settled kind t ≡ t
