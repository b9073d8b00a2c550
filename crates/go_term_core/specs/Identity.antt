-- Which types are identical: the Go specification, "Type identity".
use Rattle.std.specs.Prelude.{◌≡◌, ◌⊎◌, ℕ, suc, Bool, true, false, List, ⊤}
use Rattle.go_tree_nodes.specs.text_core.Text.{SameId}
use Rattle.go_term_core.specs.declared.term.MemberPlace.{MemberPlace}
use Rattle.go_term_core.specs.Terms.{Term, NoType, Predeclared, ErrorType, Defined, PointerTo, StructOf, InterfaceOf, Fields, NoField, AField, Methods, NoMethod, AMethod, Sign, SignOf, Terms, NoTerm, ATerm}

-- a method of an interface type
abbrev pub IsMethod : Methods → List ℕ → MemberPlace → Sign → Type 0
IsMethod NoMethod name place g = ⊥
IsMethod (AMethod name' place' g' ms) name place g = ((name' ≡ name) × (place' ≡ place) × (g' ≡ g)) ⊎ IsMethod ms name place g

abbrev pub method_count : Methods → ℕ
method_count NoMethod = 0
method_count (AMethod name place g ms) = suc (method_count ms)

-- the same tags, where tags count
abbrev pub TagsAgree : Bool → List ℕ → List ℕ → Type 0
TagsAgree true tag tag' = tag ≡ tag'
TagsAgree false tag tag' = ⊤

-- types that are identical, where tags count or do not
abbrev mutual
  pub IdenticalBy : Bool → Term → Term → Type 0
  IdenticalBy tags NoType NoType = ⊤
  IdenticalBy tags (Predeclared b) (Predeclared c) = b ≡ c
  IdenticalBy tags ErrorType ErrorType = ⊤
  IdenticalBy tags (Defined k) (Defined j) = k ≡ j
  IdenticalBy tags (PointerTo t) (PointerTo u) = IdenticalBy tags t u
  IdenticalBy tags (StructOf p fs) (StructOf q gs) = SameFieldsBy tags p fs q gs
  IdenticalBy tags (InterfaceOf p ms) (InterfaceOf q ns) = (method_count ms ≡ method_count ns) × HasAllBy tags p ms q ns
  IdenticalBy tags _ _ = ⊥

  -- the same fields in order, each of identical types, embedded alike, with the same tag
  pub SameFieldsBy : Bool → List ℕ → Fields → List ℕ → Fields → Type 0
  SameFieldsBy tags p NoField q NoField = ⊤
  SameFieldsBy tags p (AField name place embedded t tag fs) q (AField name' place' embedded' t' tag' gs) =
      SameId name p name' q × (embedded ≡ embedded') × IdenticalBy tags t t' × TagsAgree tags tag tag' × SameFieldsBy tags p fs q gs
  SameFieldsBy tags p _ q _ = ⊥

  -- each method of the one is a method of the other
  pub HasAllBy : Bool → List ℕ → Methods → List ℕ → Methods → Type 0
  HasAllBy tags p NoMethod q ns = ⊤
  HasAllBy tags p (AMethod name place g ms) q ns =
      ((name' : List ℕ) × (place' : MemberPlace) × (g' : Sign) × IsMethod ns name' place' g' × SameId name p name' q × SameSignBy tags g g') × HasAllBy tags p ms q ns

  -- as many parameters and as many results, of identical types
  pub SameSignBy : Bool → Sign → Sign → Type 0
  SameSignBy tags (SignOf ps rs) (SignOf qs us) = SameTermsBy tags ps qs × SameTermsBy tags rs us

  pub SameTermsBy : Bool → Terms → Terms → Type 0
  SameTermsBy tags NoTerm NoTerm = ⊤
  SameTermsBy tags (ATerm t ts) (ATerm u us) = IdenticalBy tags t u × SameTermsBy tags ts us
  SameTermsBy tags _ _ = ⊥

-- identical types
abbrev pub Identical : Term → Term → Type 0
Identical t u = IdenticalBy true t u

-- as many types, each identical to the other's at its place
abbrev pub SameTerms : Terms → Terms → Type 0
SameTerms ts us = SameTermsBy true ts us

-- signatures of identical types
abbrev pub SameSign : Sign → Sign → Type 0
SameSign g g' = SameSignBy true g g'

-- types that are identical, were it not for tags of fields at any depth: the Go specification, "Conversions"
abbrev pub IdenticalButForTags : Term → Term → Type 0
IdenticalButForTags t u = IdenticalBy false t u
