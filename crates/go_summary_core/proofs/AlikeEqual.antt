-- Types that are equal form by form are one, and the other way round.
use Rattle.std.proofs.Common.{◌≡◌, ◌↔◌, IsTrue, refl, ap, subst, Bool}
use Rattle.go_term_core.specs.Terms.{Term, NoType, Predeclared, ErrorType, Defined, PointerTo, StructOf, InterfaceOf, Fields, NoField, AField, Methods, NoMethod, AMethod, Sign, SignOf, Terms, NoTerm, ATerm}
use Rattle.go_summary_core.specs.alike.mirrors.Equality.{EqualTerm, EqualFields, EqualMethods, EqualSign, EqualTerms}

mutual
  pub one_term : (t u : Term) → EqualTerm t u → t ≡ u
  one_term NoType NoType h = refl
  one_term NoType (Predeclared c) h = absurd h
  one_term NoType ErrorType h = absurd h
  one_term NoType (Defined j) h = absurd h
  one_term NoType (PointerTo u) h = absurd h
  one_term NoType (StructOf q gs) h = absurd h
  one_term NoType (InterfaceOf q ns) h = absurd h
  one_term (Predeclared b) NoType h = absurd h
  one_term (Predeclared b) (Predeclared c) h = ap Predeclared h
  one_term (Predeclared b) ErrorType h = absurd h
  one_term (Predeclared b) (Defined j) h = absurd h
  one_term (Predeclared b) (PointerTo u) h = absurd h
  one_term (Predeclared b) (StructOf q gs) h = absurd h
  one_term (Predeclared b) (InterfaceOf q ns) h = absurd h
  one_term ErrorType NoType h = absurd h
  one_term ErrorType (Predeclared c) h = absurd h
  one_term ErrorType ErrorType h = refl
  one_term ErrorType (Defined j) h = absurd h
  one_term ErrorType (PointerTo u) h = absurd h
  one_term ErrorType (StructOf q gs) h = absurd h
  one_term ErrorType (InterfaceOf q ns) h = absurd h
  one_term (Defined k) NoType h = absurd h
  one_term (Defined k) (Predeclared c) h = absurd h
  one_term (Defined k) ErrorType h = absurd h
  one_term (Defined k) (Defined j) h = ap Defined h
  one_term (Defined k) (PointerTo u) h = absurd h
  one_term (Defined k) (StructOf q gs) h = absurd h
  one_term (Defined k) (InterfaceOf q ns) h = absurd h
  one_term (PointerTo t) NoType h = absurd h
  one_term (PointerTo t) (Predeclared c) h = absurd h
  one_term (PointerTo t) ErrorType h = absurd h
  one_term (PointerTo t) (Defined j) h = absurd h
  one_term (PointerTo t) (PointerTo u) h = ap PointerTo (one_term t u h)
  one_term (PointerTo t) (StructOf q gs) h = absurd h
  one_term (PointerTo t) (InterfaceOf q ns) h = absurd h
  one_term (StructOf p fs) NoType h = absurd h
  one_term (StructOf p fs) (Predeclared c) h = absurd h
  one_term (StructOf p fs) ErrorType h = absurd h
  one_term (StructOf p fs) (Defined j) h = absurd h
  one_term (StructOf p fs) (PointerTo u) h = absurd h
  one_term (StructOf p fs) (StructOf q gs) h = (let rest = one_fields fs gs h.1 in λ i. StructOf (h.0 i) (rest i))
  one_term (StructOf p fs) (InterfaceOf q ns) h = absurd h
  one_term (InterfaceOf p ms) NoType h = absurd h
  one_term (InterfaceOf p ms) (Predeclared c) h = absurd h
  one_term (InterfaceOf p ms) ErrorType h = absurd h
  one_term (InterfaceOf p ms) (Defined j) h = absurd h
  one_term (InterfaceOf p ms) (PointerTo u) h = absurd h
  one_term (InterfaceOf p ms) (StructOf q gs) h = absurd h
  one_term (InterfaceOf p ms) (InterfaceOf q ns) h = (let rest = one_methods ms ns h.1 in λ i. InterfaceOf (h.0 i) (rest i))

  pub one_fields : (fs gs : Fields) → EqualFields fs gs → fs ≡ gs
  one_fields NoField NoField h = refl
  one_fields NoField (AField name place embedded t tag gs) h = absurd h
  one_fields (AField name place embedded t tag fs) NoField h = absurd h
  one_fields (AField name place embedded t tag fs) (AField name' place' embedded' t' tag' gs) h = (
      let type = one_term t t' h.3 in
      let rest = one_fields fs gs h.5 in
      λ i. AField (h.0 i) (h.1 i) (h.2 i) (type i) (h.4 i) (rest i))

  pub one_methods : (ms ns : Methods) → EqualMethods ms ns → ms ≡ ns
  one_methods NoMethod NoMethod h = refl
  one_methods NoMethod (AMethod name place g ns) h = absurd h
  one_methods (AMethod name place g ms) NoMethod h = absurd h
  one_methods (AMethod name place g ms) (AMethod name' place' g' ns) h = (
      let sign = one_sign g g' h.2 in
      let rest = one_methods ms ns h.3 in
      λ i. AMethod (h.0 i) (h.1 i) (sign i) (rest i))

  pub one_sign : (g k : Sign) → EqualSign g k → g ≡ k
  one_sign (SignOf ps rs) (SignOf qs us) h = (
      let params = one_terms ps qs h.0 in
      let results = one_terms rs us h.1 in
      λ i. SignOf (params i) (results i))

  pub one_terms : (ts us : Terms) → EqualTerms ts us → ts ≡ us
  one_terms NoTerm NoTerm h = refl
  one_terms NoTerm (ATerm u us) h = absurd h
  one_terms (ATerm t ts) NoTerm h = absurd h
  one_terms (ATerm t ts) (ATerm u us) h = (
      let first = one_term t u h.0 in
      let rest = one_terms ts us h.1 in
      λ i. ATerm (first i) (rest i))

mutual
  pub own_term : (t : Term) → EqualTerm t t
  own_term NoType = tt
  own_term (Predeclared b) = refl
  own_term ErrorType = tt
  own_term (Defined k) = refl
  own_term (PointerTo t) = own_term t
  own_term (StructOf p fs) = (refl, own_fields fs)
  own_term (InterfaceOf p ms) = (refl, own_methods ms)

  pub own_fields : (fs : Fields) → EqualFields fs fs
  own_fields NoField = tt
  own_fields (AField name place embedded t tag fs) = (refl, refl, refl, own_term t, refl, own_fields fs)

  pub own_methods : (ms : Methods) → EqualMethods ms ms
  own_methods NoMethod = tt
  own_methods (AMethod name place g ms) = (refl, refl, own_sign g, own_methods ms)

  pub own_sign : (g : Sign) → EqualSign g g
  own_sign (SignOf ps rs) = (own_terms ps, own_terms rs)

  pub own_terms : (ts : Terms) → EqualTerms ts ts
  own_terms NoTerm = tt
  own_terms (ATerm t ts) = (own_term t, own_terms ts)

-- an answer about the one is one about the other
pub term_answered : (t u : Term) (r : Bool) → (IsTrue r ↔ EqualTerm t u) → IsTrue r ↔ (t ≡ u)
term_answered t u r h = (λ is. one_term t u (h.0 is), λ e. h.1 (subst (λ (x : Term). EqualTerm t x) e (own_term t)))

pub sign_answered : (g k : Sign) (r : Bool) → (IsTrue r ↔ EqualSign g k) → IsTrue r ↔ (g ≡ k)
sign_answered g k r h = (λ is. one_sign g k (h.0 is), λ e. h.1 (subst (λ (x : Sign). EqualSign g x) e (own_sign g)))
