-- What is declared in such places is declared in any that have these.
use Rattle.std.proofs.Common.{◌≡◌, ℕ, List, [], ◌∷◌}
use Rattle.std.specs.Prelude.{Option, Some, None}
use Rattle.go_term_core.specs.declared.term.MemberPlace.{MemberPlace}
use Rattle.go_term_core.specs.Terms.{Term, NoType, Predeclared, ErrorType, Defined, PointerTo, StructOf, InterfaceOf, Fields, NoField, AField, Methods, NoMethod, AMethod, Sign, SignOf, Terms, NoTerm, ATerm}
use Rattle.go_value_core.specs.table_core.Entries.{Entry, Member}
use Rattle.go_cursor_core.specs.operand_core.declared.types.Operand.{Operand}
use Rattle.go_cursor_core.specs.operand_core.declared.types.ValueType.{ValueType}
use Rattle.go_cursor_core.specs.operand_core.declared.types.ValueType.TheVariants as value_types
use Rattle.go_query_core.specs.declared_core.declared.face.Face.TheVariants as faces
use Rattle.go_query_core.specs.declared_core.Faces.{TheFace}
use Rattle.go_query_core.specs.snap_core.NearNear.{IfAny, NearOperand, NearValue}
use Rattle.go_answer_laws.proofs.DeclarationsTerms.{AreFieldsIn, AreMethodsIn, AreTermsIn, IsSignIn, IsTermIn}
use Rattle.go_answer_laws.proofs.DeclarationsTables.{AreEntriesIn, AreMembersIn}

-- what a declaration is has its members in such places
abbrev pub IsFaceIn : (List ℕ → List ℕ → MemberPlace → Type 0) → TheFace → Type 0
IsFaceIn Stands (faces.«Type» t) = IfAny (IsTermIn Stands) t
IsFaceIn Stands (faces.Func g) = IsSignIn Stands g
IsFaceIn Stands (faces.«Value» o) = IfAny (NearOperand (IsTermIn Stands)) o

abbrev pub IsAnyIn : (List ℕ → List ℕ → MemberPlace → Type 0) → Option TheFace → Type 0
IsAnyIn Stands o = IfAny (IsFaceIn Stands) o

module _ (Stands Wider : List ℕ → List ℕ → MemberPlace → Type 0) (wider : (home name : List ℕ) (place : MemberPlace) → Stands home name place → Wider home name place) where
  mutual
    pub term_wider : (t : Term) → IsTermIn Stands t → IsTermIn Wider t
    term_wider NoType h = tt
    term_wider (Predeclared b) h = tt
    term_wider ErrorType h = tt
    term_wider (Defined k) h = tt
    term_wider (PointerTo t) h = term_wider t h
    term_wider (StructOf home fs) h = fields_wider home fs h
    term_wider (InterfaceOf home ms) h = methods_wider home ms h

    fields_wider : (home : List ℕ) (fs : Fields) → AreFieldsIn Stands home fs → AreFieldsIn Wider home fs
    fields_wider home NoField h = tt
    fields_wider home (AField name place embedded t tag fs) h = (wider home name place h.0, term_wider t h.1, fields_wider home fs h.2)

    methods_wider : (home : List ℕ) (ms : Methods) → AreMethodsIn Stands home ms → AreMethodsIn Wider home ms
    methods_wider home NoMethod h = tt
    methods_wider home (AMethod name place g ms) h = (wider home name place h.0, sign_wider g h.1, methods_wider home ms h.2)

    sign_wider : (g : Sign) → IsSignIn Stands g → IsSignIn Wider g
    sign_wider (SignOf ps rs) h = (terms_wider ps h.0, terms_wider rs h.1)

    terms_wider : (ts : Terms) → AreTermsIn Stands ts → AreTermsIn Wider ts
    terms_wider NoTerm h = tt
    terms_wider (ATerm t ts) h = (term_wider t h.0, terms_wider ts h.1)

  members_wider : (home : List ℕ) (ms : List Member) → AreMembersIn Stands home ms → AreMembersIn Wider home ms
  members_wider home [] h = tt
  members_wider home (m ∷ ms) h = (wider home m.name m.place h.0, sign_wider m.sign h.1, members_wider home ms h.2)

  pub entries_wider : (es : List Entry) → AreEntriesIn Stands es → AreEntriesIn Wider es
  entries_wider [] h = tt
  entries_wider (e ∷ es) h = ((term_wider e.term h.0.0, members_wider e.key.path e.methods h.0.1), entries_wider es h.1)

  type_wider : (o : Option Term) → IfAny (IsTermIn Stands) o → IfAny (IsTermIn Wider) o
  type_wider None h = tt
  type_wider (Some t) h = term_wider t h

  value_wider : (v : ValueType Term) → NearValue (IsTermIn Stands) v → NearValue (IsTermIn Wider) v
  value_wider (value_types.Typed t) h = term_wider t h
  value_wider value_types.UntypedInt h = tt
  value_wider value_types.UntypedText h = tt
  value_wider value_types.UntypedBool h = tt
  value_wider value_types.Nil h = tt

  operand_wider : (o : Option (Operand Term)) → IfAny (NearOperand (IsTermIn Stands)) o → IfAny (NearOperand (IsTermIn Wider)) o
  operand_wider None h = tt
  operand_wider (Some o) h = value_wider o.value_type h

  face_wider : (f : TheFace) → IsFaceIn Stands f → IsFaceIn Wider f
  face_wider (faces.«Type» t) h = type_wider t h
  face_wider (faces.Func g) h = sign_wider g h
  face_wider (faces.«Value» o) h = operand_wider o h

  pub any_wider : (o : Option TheFace) → IsAnyIn Stands o → IsAnyIn Wider o
  any_wider None h = tt
  any_wider (Some f) h = face_wider f h
