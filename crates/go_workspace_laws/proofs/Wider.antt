-- What mentions some packages alone mentions those of any list alone that has these.
use Rattle.std.proofs.Common.{◌≡◌, ℕ, List, [], ◌∷◌}
use Rattle.std.specs.Prelude.{Option, Some, None}
use Rattle.go_term_core.specs.decl_core.declared.keys.DeclRef.{DeclRef}
use Rattle.go_term_core.specs.Terms.{Term, NoType, Predeclared, ErrorType, Defined, PointerTo, StructOf, InterfaceOf, Fields, NoField, AField, Methods, NoMethod, AMethod, Sign, SignOf, Terms, NoTerm, ATerm}
use Rattle.go_body_core.specs.table_core.Entries.{Entry, Member}
use Rattle.go_report_core.specs.operand_core.declared.types.Operand.{Operand}
use Rattle.go_report_core.specs.operand_core.declared.types.ValueType.{ValueType}
use Rattle.go_report_core.specs.operand_core.declared.types.ValueType.TheVariants as value_types
use Rattle.go_emit_core.specs.declared_core.declared.face.Face.TheVariants as faces
use Rattle.go_emit_core.specs.declared_core.Faces.{TheFace}
use Rattle.go_emit_core.specs.declared_core.Packages.{face_by}
use Rattle.go_snap_core.specs.near.Near.{IfAny, NearOperand, NearValue}
use Rattle.go_report_core.specs.summary_core.Summaries.{SummaryModel}
use Rattle.go_workspace_laws.proofs.Terms.{AreFieldsIn, AreMethodsIn, AreTermsIn, IsSignIn, IsTermIn}
use Rattle.go_workspace_laws.proofs.Tables.{AreEntriesIn, AreMembersIn}
use Rattle.go_workspace_laws.proofs.Meanings.{IsFaceIn}

-- what a package tells mentions these packages alone
pub record IsToldIn (Inside : List ℕ → Type 0) (s : SummaryModel) : Type 0 where
  pub types : AreEntriesIn Inside s.types.entries
  pub faces : (d : DeclRef) (f : TheFace) → face_by s.faces d ≡ Some f → IsFaceIn Inside f

module _ (Inside Wider : List ℕ → Type 0) (wider : (path : List ℕ) → Inside path → Wider path) where
  mutual
    term_wider : (t : Term) → IsTermIn Inside t → IsTermIn Wider t
    term_wider NoType h = tt
    term_wider (Predeclared b) h = tt
    term_wider ErrorType h = tt
    term_wider (Defined k) h = wider k.path h
    term_wider (PointerTo t) h = term_wider t h
    term_wider (StructOf home fs) h = (wider home h.0, fields_wider fs h.1)
    term_wider (InterfaceOf home ms) h = (wider home h.0, methods_wider ms h.1)

    fields_wider : (fs : Fields) → AreFieldsIn Inside fs → AreFieldsIn Wider fs
    fields_wider NoField h = tt
    fields_wider (AField name place embedded t tag fs) h = (term_wider t h.0, fields_wider fs h.1)

    methods_wider : (ms : Methods) → AreMethodsIn Inside ms → AreMethodsIn Wider ms
    methods_wider NoMethod h = tt
    methods_wider (AMethod name place g ms) h = (sign_wider g h.0, methods_wider ms h.1)

    sign_wider : (g : Sign) → IsSignIn Inside g → IsSignIn Wider g
    sign_wider (SignOf ps rs) h = (terms_wider ps h.0, terms_wider rs h.1)

    terms_wider : (ts : Terms) → AreTermsIn Inside ts → AreTermsIn Wider ts
    terms_wider NoTerm h = tt
    terms_wider (ATerm t ts) h = (term_wider t h.0, terms_wider ts h.1)

  members_wider : (ms : List Member) → AreMembersIn Inside ms → AreMembersIn Wider ms
  members_wider [] h = tt
  members_wider (m ∷ ms) h = (sign_wider m.sign h.0, members_wider ms h.1)

  entries_wider : (es : List Entry) → AreEntriesIn Inside es → AreEntriesIn Wider es
  entries_wider [] h = tt
  entries_wider (e ∷ es) h = ((wider e.key.path h.0.0, term_wider e.term h.0.1, members_wider e.methods h.0.2), entries_wider es h.1)

  type_wider : (o : Option Term) → IfAny (IsTermIn Inside) o → IfAny (IsTermIn Wider) o
  type_wider None h = tt
  type_wider (Some t) h = term_wider t h

  value_wider : (v : ValueType Term) → NearValue (IsTermIn Inside) v → NearValue (IsTermIn Wider) v
  value_wider (value_types.Typed t) h = term_wider t h
  value_wider value_types.UntypedInt h = tt
  value_wider value_types.UntypedText h = tt
  value_wider value_types.UntypedBool h = tt
  value_wider value_types.Nil h = tt

  operand_wider : (o : Option (Operand Term)) → IfAny (NearOperand (IsTermIn Inside)) o → IfAny (NearOperand (IsTermIn Wider)) o
  operand_wider None h = tt
  operand_wider (Some o) h = value_wider o.value_type h

  face_wider : (f : TheFace) → IsFaceIn Inside f → IsFaceIn Wider f
  face_wider (faces.«Type» t) h = type_wider t h
  face_wider (faces.Func g) h = sign_wider g h
  face_wider (faces.«Value» o) h = operand_wider o h

  pub told_wider : (s : SummaryModel) → IsToldIn Inside s → IsToldIn Wider s
  told_wider s h = record { types = entries_wider s.types.entries h.types; faces = λ d f is. face_wider f (h.faces d f is) }
