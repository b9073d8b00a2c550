-- Types that are equal, form by form.
use Rattle.std.specs.Prelude.{◌≡◌, false, [], ⊤}
use Rattle.go_term_core.specs.declared.term.Field.{Field}
use Rattle.go_term_core.specs.declared.term.Method.{Method}
use Rattle.go_term_core.specs.Terms.{Term, NoType, Predeclared, ErrorType, Defined, PointerTo, StructOf, InterfaceOf, Fields, NoField, AField, Methods, NoMethod, AMethod, Sign, SignOf, Terms, NoTerm, ATerm}
use Rattle.go_term_core.specs.Shapes.{Line, sign_of}

abbrev mutual
  pub EqualTerm : Term → Term → Type 0
  EqualTerm NoType NoType = ⊤
  EqualTerm (Predeclared b) (Predeclared c) = b ≡ c
  EqualTerm ErrorType ErrorType = ⊤
  EqualTerm (Defined k) (Defined j) = k ≡ j
  EqualTerm (PointerTo t) (PointerTo u) = EqualTerm t u
  EqualTerm (StructOf p fs) (StructOf q gs) = (p ≡ q) × EqualFields fs gs
  EqualTerm (InterfaceOf p ms) (InterfaceOf q ns) = (p ≡ q) × EqualMethods ms ns
  EqualTerm _ _ = ⊥

  pub EqualFields : Fields → Fields → Type 0
  EqualFields NoField NoField = ⊤
  EqualFields (AField name place embedded t tag fs) (AField name' place' embedded' t' tag' gs) =
      (name ≡ name') × (place ≡ place') × (embedded ≡ embedded') × EqualTerm t t' × (tag ≡ tag') × EqualFields fs gs
  EqualFields _ _ = ⊥

  pub EqualMethods : Methods → Methods → Type 0
  EqualMethods NoMethod NoMethod = ⊤
  EqualMethods (AMethod name place g ms) (AMethod name' place' g' ns) = (name ≡ name') × (place ≡ place') × EqualSign g g' × EqualMethods ms ns
  EqualMethods _ _ = ⊥

  pub EqualSign : Sign → Sign → Type 0
  EqualSign (SignOf ps rs) (SignOf qs us) = EqualTerms ps qs × EqualTerms rs us

  pub EqualTerms : Terms → Terms → Type 0
  EqualTerms NoTerm NoTerm = ⊤
  EqualTerms (ATerm t ts) (ATerm u us) = EqualTerm t u × EqualTerms ts us
  EqualTerms _ _ = ⊥

-- lines whose fields are of equal types, embedded alike, with the same tag
abbrev pub IsEqualLine : Line → Line → Type 0
IsEqualLine l k = (l.embedded ≡ k.embedded) × EqualTerm l.term k.term × (l.tag ≡ k.tag)

-- a line as one that is not there
abbrev pub IsEqualToNoLine : Line → Type 0
IsEqualToNoLine l = (l.embedded ≡ false) × (l.term ≡ NoType) × (l.tag ≡ [])

abbrev pub IsEqualHead : Field → Field → Type 0
IsEqualHead f g = (f.name ≡ g.name) × (f.place ≡ g.place)

abbrev pub IsEqualMethod : Method → Method → Type 0
IsEqualMethod m n = (m.name ≡ n.name) × (m.place ≡ n.place) × EqualSign (sign_of m.signature) (sign_of n.signature)
