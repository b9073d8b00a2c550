-- Identity form by form, in the words of the Go specification, "Type identity", and what is left of a type where tags are ignored.
use Rattle.std.specs.Prelude.{◌≡◌, ◌↔◌, ℕ, zero, suc, Bool, List, []}
use Rattle.go_tree_nodes.specs.text_core.Text.{SameId}
use Rattle.go_term_core.specs.declared.term.Basic.{Basic}
use Rattle.go_term_core.specs.declared.term.MemberPlace.{MemberPlace}
use Rattle.go_term_core.specs.Terms.{Term, NoType, Predeclared, ErrorType, Defined, PointerTo, StructOf, InterfaceOf, Fields, NoField, AField, Methods, NoMethod, AMethod, Sign, SignOf, Terms, NoTerm, ATerm}
use Rattle.go_term_core.specs.Identity.{Identical, IdenticalButForTags, IsMethod, SameSign, SameTerms}
use Rattle.go_term_core.specs.Laws.{IsApart, MethodsApart}

-- the field of that number, from 0
abbrev pub IsFieldAt : Fields → ℕ → List ℕ → Bool → Term → List ℕ → Type 0
IsFieldAt NoField i name embedded t tag = ⊥
IsFieldAt (AField name' place' embedded' t' tag' fs) zero name embedded t tag = (name' ≡ name) × (embedded' ≡ embedded) × (t' ≡ t) × (tag' ≡ tag)
IsFieldAt (AField name' place' embedded' t' tag' fs) (suc i) name embedded t tag = IsFieldAt fs i name embedded t tag

abbrev pub field_count : Fields → ℕ
field_count NoField = 0
field_count (AField name place embedded t tag fs) = suc (field_count fs)

-- the type of that number, from 0
abbrev pub IsTermAt : Terms → ℕ → Term → Type 0
IsTermAt NoTerm i t = ⊥
IsTermAt (ATerm u ts) zero t = u ≡ t
IsTermAt (ATerm u ts) (suc i) t = IsTermAt ts i t

abbrev pub term_count : Terms → ℕ
term_count NoTerm = 0
term_count (ATerm t ts) = suc (term_count ts)

-- the same sequence of fields: corresponding ones have the same names, identical types, identical tags, and are embedded, both or neither
pub record AreFieldsAlike (p : List ℕ) (fs : Fields) (q : List ℕ) (gs : Fields) : Type 0 where
  pub as_many : field_count fs ≡ field_count gs
  pub each : (i : ℕ) (name name' : List ℕ) (embedded embedded' : Bool) (t t' : Term) (tag tag' : List ℕ) → IsFieldAt fs i name embedded t tag → IsFieldAt gs i name' embedded' t' tag'
      → SameId name p name' q × (embedded ≡ embedded') × Identical t t' × (tag ≡ tag')

-- as many types, and corresponding ones are identical
pub record AreTermsAlike (ts us : Terms) : Type 0 where
  pub as_many : term_count ts ≡ term_count us
  pub each : (i : ℕ) (t u : Term) → IsTermAt ts i t → IsTermAt us i u → Identical t u

-- each method of the one interface type is one of the other: with the same name, and with a signature of identical types
abbrev pub AreAmong : List ℕ → Methods → List ℕ → Methods → Type 0
AreAmong p ms q ns =
    (name : List ℕ) (place : MemberPlace) (g : Sign) → IsMethod ms name place g
    → (name' : List ℕ) × (place' : MemberPlace) × (g' : Sign) × IsMethod ns name' place' g' × SameId name p name' q × SameSign g g'

-- to what a type of each form is identical
pub record IdentityByForm : Type 0 where
  pub none : (t : Term) → Identical NoType t ↔ (t ≡ NoType)
  pub predeclared : (b : Basic) (t : Term) → Identical (Predeclared b) t ↔ (t ≡ Predeclared b)
  pub error : (t : Term) → Identical ErrorType t ↔ (t ≡ ErrorType)
  pub pointer : (t u : Term) → Identical (PointerTo t) u ↔ ((v : Term) × (u ≡ PointerTo v) × Identical t v)
  pub struct : (p : List ℕ) (fs : Fields) (u : Term) → Identical (StructOf p fs) u ↔ ((q : List ℕ) × (gs : Fields) × (u ≡ StructOf q gs) × AreFieldsAlike p fs q gs)
  pub interface : (p : List ℕ) (ms : Methods) (u : Term) → MethodsApart ms → IsApart u
      → Identical (InterfaceOf p ms) u ↔ ((q : List ℕ) × (ns : Methods) × (u ≡ InterfaceOf q ns) × AreAmong p ms q ns × AreAmong q ns p ms)
  pub types : (ts us : Terms) → SameTerms ts us ↔ AreTermsAlike ts us
  pub signature : (ps rs qs us : Terms) → SameSign (SignOf ps rs) (SignOf qs us) ↔ (AreTermsAlike ps qs × AreTermsAlike rs us)

-- a type without the tags of its fields, at any depth
abbrev mutual
  pub without_tags : Term → Term
  without_tags NoType = NoType
  without_tags (Predeclared b) = Predeclared b
  without_tags ErrorType = ErrorType
  without_tags (Defined k) = Defined k
  without_tags (PointerTo t) = PointerTo (without_tags t)
  without_tags (StructOf path fs) = StructOf path (fields_without fs)
  without_tags (InterfaceOf path ms) = InterfaceOf path (methods_without ms)

  pub fields_without : Fields → Fields
  fields_without NoField = NoField
  fields_without (AField name place embedded t tag fs) = AField name place embedded (without_tags t) [] (fields_without fs)

  pub methods_without : Methods → Methods
  methods_without NoMethod = NoMethod
  methods_without (AMethod name place g ms) = AMethod name place (sign_without g) (methods_without ms)

  pub sign_without : Sign → Sign
  sign_without (SignOf ps rs) = SignOf (terms_without ps) (terms_without rs)

  pub terms_without : Terms → Terms
  terms_without NoTerm = NoTerm
  terms_without (ATerm t ts) = ATerm (without_tags t) (terms_without ts)

-- where tags are ignored, those types are identical that are so without their tags; that is an equivalence too
pub record TagsDoNotCount : Type 0 where
  pub ignored : (t u : Term) → IdenticalButForTags t u ↔ Identical (without_tags t) (without_tags u)
  pub weaker : (t u : Term) → Identical t u → IdenticalButForTags t u
  pub reflexive : (t : Term) → IdenticalButForTags t t
  pub symmetric : (t u : Term) → IsApart t → IsApart u → IdenticalButForTags t u → IdenticalButForTags u t
  pub transitive : (t u v : Term) → IdenticalButForTags t u → IdenticalButForTags u v → IdenticalButForTags t v
