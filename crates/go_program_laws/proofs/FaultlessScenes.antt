-- What the occurrences of a package come to is the same over what two lists of packages tell, where these tell the same of those that are named.
use Rattle.std.proofs.Common.{◌≡◌, ℕ, suc, List, [], ◌∷◌, ◌++◌, refl, ap, ◌∙◌, if◌then◌else◌}
use Rattle.std.specs.Prelude.{Option, Some, None, not, nat_eq, ◌&&◌, slice_index_or}
use Rattle.std.specs.Map.{lookup}
use Rattle.std.specs.Str.{bytes_eq}
use Rattle.go_term_core.specs.decl_core.declared.keys.DeclKey.{DeclKey}
use Rattle.go_term_core.specs.decl_core.declared.keys.DeclRef.{DeclRef}
use Rattle.go_term_core.specs.declared.term.MemberPlace.{MemberPlace}
use Rattle.go_term_core.specs.declared.term.MemberPlace.TheVariants as places
use Rattle.go_term_core.specs.Terms.{Term, NoType, Predeclared, ErrorType, Defined, PointerTo, StructOf, InterfaceOf, Sign, SignOf, Terms, NoTerm, ATerm, is_no_type}
use Rattle.go_body_core.specs.table_core.Entries.{Entry, Member, find_entry, term_in, underlying_in}
use Rattle.go_meaning_laws.specs.handle_core.DecidingConversion.{is_type_term}
use Rattle.go_meaning_laws.specs.handle_core.DecidingRules.{all_typed, form_under}
use Rattle.go_report_core.specs.operand_core.declared.types.Operand.{Operand}
use Rattle.go_report_core.specs.operand_core.declared.types.ValueType.{ValueType}
use Rattle.go_report_core.specs.operand_core.declared.types.ValueType.TheVariants as value_types
use Rattle.go_report_core.specs.denote_core.declared.things.Outcome.{Outcome}
use Rattle.go_report_core.specs.denote_core.declared.things.Outcome.TheVariants as outcomes
use Rattle.go_meaning_laws.specs.handle_core.Declarations.{Declaration, Universe, OfError, Package, InFile}
use Rattle.go_emit_core.specs.declared_core.declared.face.Face.TheVariants as faces
use Rattle.go_emit_core.specs.declared_core.Faces.{TheFace}
use Rattle.go_emit_core.specs.declared_core.Packages.{PackageFacesModel, face_in}
use Rattle.go_body_core.specs.Notes.{TheLocal, TheUse}
use Rattle.go_snap_core.specs.near.Near.{IfAny, NearOperand, NearValue}
use Rattle.go_snap_core.proofs.NearClosing.{either}
use Rattle.go_code_core.specs.declared.fragments.names.Meaning.{Meaning}
use Rattle.go_code_core.specs.declared.fragments.names.Meaning.TheVariants as meanings
use Rattle.go_emit_core.specs.meaning.Words.{form_word, results_give, sign_gives, some_word, value_word, word_in}
use Rattle.go_emit_core.specs.meaning.Meanings.{constant_meaning_or, face_meaning, local_meaning, some_face_meaning, type_meaning, variable_meaning}
use Rattle.go_emit_core.specs.meaning.Looking.{locals_meant, looks_of, uses_meant}
use Rattle.go_emit_core.specs.lookup.Looking.{looks_with, meaning_or_other}
use Rattle.go_emit_core.specs.meaning.Scenes.{CodeScene, declared_meaning, method_at, method_meaning, method_spotted, methods_spotted, outcome_meaning, own_or, own_spotted, place_meaning, scene_by, selected_meaning}
use Rattle.go_emit_core.specs.lookup.Places.{spotted_meaning, decl_spot}
use Rattle.go_workspace_laws.proofs.Terms.{AreTermsIn, IsSignIn, IsTermIn}
use Rattle.go_workspace_laws.proofs.Tables.{AreEntriesIn, AreMembersIn}
use Rattle.go_workspace_laws.proofs.Answers.{IsDeclIn, IsOutcomeIn}
use Rattle.go_workspace_laws.proofs.Uses.{IsUseIn}
use Rattle.go_workspace_laws.proofs.Functions.{IsLocalIn}
use Rattle.go_workspace_laws.proofs.Meanings.{IsAnyIn, IsFaceIn}
use Rattle.go_body_core.specs.stmt_core.StatementLocality.{Each}

module _ (Inside : List ℕ → Type 0) (es fs : List Entry) (same : (k : DeclKey) → Inside k.path → find_entry es k ≡ find_entry fs k) where
  -- types

  pub under_same : (t : Term) → IsTermIn Inside t → underlying_in (find_entry es) t ≡ underlying_in (find_entry fs) t
  under_same NoType h = refl
  under_same (Predeclared b) h = refl
  under_same ErrorType h = refl
  under_same (Defined k) h = ap term_in (same k h)
  under_same (PointerTo t) h = refl
  under_same (StructOf home fields) h = refl
  under_same (InterfaceOf home ms) h = refl

  word_same : (t : Term) → IsTermIn Inside t → word_in es t ≡ word_in fs t
  word_same t h = ap (λ u. form_word (form_under u)) (under_same t h)

  some_word_same : (o : Option Term) → IfAny (IsTermIn Inside) o → some_word es o ≡ some_word fs o
  some_word_same None h = refl
  some_word_same (Some t) h = word_same t h

  value_word_same : (v : ValueType Term) → NearValue (IsTermIn Inside) v → value_word es v ≡ value_word fs v
  value_word_same (value_types.Typed t) h = word_same t h
  value_word_same value_types.UntypedInt h = refl
  value_word_same value_types.UntypedText h = refl
  value_word_same value_types.UntypedBool h = refl
  value_word_same value_types.Nil h = refl

  -- signatures

  pub all_in : (ts : Terms) → AreTermsIn Inside ts → Each (IfAny (IsTermIn Inside)) (all_typed (find_entry es) ts)
  all_in NoTerm h = tt
  all_in (ATerm t ts) h = (either (IfAny (IsTermIn Inside)) (is_type_term (find_entry es) t) _ _ h.0 tt, all_in ts h.1)

  pub all_same : (ts : Terms) → AreTermsIn Inside ts → all_typed (find_entry es) ts ≡ all_typed (find_entry fs) ts
  all_same NoTerm h = refl
  all_same (ATerm t ts) h = λ j. (if not (is_no_type (under_same t h.0 j)) then Some t else None) ∷ all_same ts h.1 j

  results_same : (ts : List (Option Term)) → Each (IfAny (IsTermIn Inside)) ts → results_give es ts ≡ results_give fs ts
  results_same [] h = refl
  results_same (t ∷ []) h = (let same : some_word es t ≡ some_word fs t = some_word_same t h.0 in cc)
  results_same (t ∷ (u ∷ ts)) h = refl

  pub sign_same : (g : Sign) → IsSignIn Inside g → sign_gives es g ≡ sign_gives fs g
  sign_same (SignOf ps rs) h = results_same (all_typed (find_entry es) rs) (all_in rs h.1) ∙ ap (results_give fs) (all_same rs h.1)

  -- declarations

  face_same : (f : TheFace) → IsFaceIn Inside f → face_meaning es f ≡ face_meaning fs f
  face_same (faces.«Type» t) h = ap type_meaning (some_word_same t h)
  face_same (faces.Func g) h = ap (λ r. meanings.Function r) (sign_same g h)
  face_same (faces.«Value» o) h = refl

  some_same : (o : Option TheFace) → IsAnyIn Inside o → some_face_meaning es o ≡ some_face_meaning fs o
  some_same None h = refl
  some_same (Some f) h = face_same f h

  own_same : (path : List ℕ) (ds : List DeclRef) (known : List (Option TheFace)) → ((n : ℕ) → IsAnyIn Inside (slice_index_or known n None)) → own_spotted es path ds known ≡ own_spotted fs path ds known
  own_same path [] known h = refl
  own_same path (d ∷ ds) [] h = refl
  own_same path (d ∷ ds) (f ∷ known) h = λ j. (decl_spot path d, some_same f (h 0) j) ∷ own_same path ds known (λ n. h (suc n)) j

  -- locals

  local_same : (at : ℕ) (o : Option (Operand Term)) → IfAny (NearOperand (IsTermIn Inside)) o → local_meaning es at o ≡ local_meaning fs at o
  local_same at None h = refl
  local_same at (Some o) h = ap (λ w. constant_meaning_or o.constant (variable_meaning at w)) (value_word_same o.value_type h)

  locals_same : (ls : List TheLocal) → Each (IsLocalIn Inside) ls → locals_meant es ls ≡ locals_meant fs ls
  locals_same [] h = refl
  locals_same (l ∷ ls) h = λ j. (l.offset, local_same l.offset l.value h.0 j) ∷ locals_same ls h.1 j

  -- methods

  place_same : (q : List ℕ) (m : Member) (p : MemberPlace) → IsSignIn Inside m.sign → method_at es q m p ≡ method_at fs q m p
  place_same q m (places.Declared d) h = λ j. (decl_spot q d, meanings.Method (sign_same m.sign h j)) ∷ []
  place_same q m (places.Local l) h = refl

  members_same : (q : List ℕ) (ms : List Member) → AreMembersIn Inside ms → method_spotted es q ms ≡ method_spotted fs q ms
  members_same q [] h = refl
  members_same q (m ∷ ms) h = λ j. place_same q m m.place h.0 j ++ members_same q ms h.1 j

  pub methods_same : (xs : List Entry) → AreEntriesIn Inside xs → methods_spotted es xs ≡ methods_spotted fs xs
  methods_same [] h = refl
  methods_same (e ∷ xs) h = λ j. members_same e.key.path e.methods h.0.2 j ++ methods_same xs h.1 j

  module _ (path : List ℕ) (ds : List DeclRef) (known : List (Option TheFace)) (known_in : (n : ℕ) → IsAnyIn Inside (slice_index_or known n None)) (others again : List PackageFacesModel)
      (named : (q : List ℕ) (d : DeclRef) (f : TheFace) → Inside q → face_in others q d ≡ Some f → IsFaceIn Inside f)
      (shown : (q : List ℕ) (d : DeclRef) → Inside q → face_in others q d ≡ face_in again q d)
      (selected : (q : List ℕ) (d : DeclRef) → Inside q → spotted_meaning (methods_spotted es es) (decl_spot q d) ≡ spotted_meaning (methods_spotted fs fs) (decl_spot q d)) where
    abbrev here : CodeScene
    here = scene_by path ds known es others

    abbrev there : CodeScene
    there = scene_by path ds known fs again

    named_any : (q : List ℕ) (d : DeclRef) (o : Option TheFace) → Inside q → face_in others q d ≡ o → IsAnyIn Inside o
    named_any q d None h e = tt
    named_any q d (Some f) h e = named q d f h e

    shown_same : (q : List ℕ) (d : DeclRef) → Inside q → some_face_meaning es (face_in others q d) ≡ some_face_meaning fs (face_in again q d)
    shown_same q d h = some_same (face_in others q d) (named_any q d (face_in others q d) h refl) ∙ ap (some_face_meaning fs) (shown q d h)

    module _ (file : ℕ) (locals : List TheLocal) (locals_in : Each (IsLocalIn Inside) locals) where
      abbrev mine : List (ℕ × Meaning)
      mine = locals_meant es locals

      abbrev theirs : List (ℕ × Meaning)
      theirs = locals_meant fs locals

      declared_place : (q : List ℕ) (p : MemberPlace) → Inside q → place_meaning here file mine q p ≡ place_meaning there file theirs q p
      declared_place q (places.Declared d) h = λ j. own_or (spotted_meaning (own_same path ds known known_in j) (decl_spot q d)) (shown_same q d h j)
      declared_place q (places.Local l) h = λ j. if bytes_eq q path && nat_eq l.file file then meaning_or_other (lookup (nat_eq l.offset) (locals_same locals locals_in j)) else meanings.Other

      declared_same : (d : Declaration) → IsDeclIn Inside d → declared_meaning here file mine d ≡ declared_meaning there file theirs d
      declared_same (Universe p) h = refl
      declared_same OfError h = refl
      declared_same (Package q) h = refl
      declared_same (InFile q p) h = declared_place q p h

      method_place_same : (q : List ℕ) (p : MemberPlace) → Inside q → method_meaning here (InFile q p) ≡ method_meaning there (InFile q p)
      method_place_same q (places.Declared d) h = ap meaning_or_other (selected q d h)
      method_place_same q (places.Local l) h = refl

      method_same : (d : Declaration) → IsDeclIn Inside d → method_meaning here d ≡ method_meaning there d
      method_same (Universe p) h = refl
      method_same OfError h = refl
      method_same (Package q) h = refl
      method_same (InFile q p) h = method_place_same q p h

      selected_same : (d : Declaration) (through : List ℕ) → IsDeclIn Inside d → selected_meaning here d through ≡ selected_meaning there d through
      selected_same d [] h = method_same d h
      selected_same d (n ∷ through) h = refl

      outcome_same : (o : Outcome Declaration (List ℕ)) → IsOutcomeIn Inside o → outcome_meaning here file mine o ≡ outcome_meaning there file theirs o
      outcome_same (outcomes.Declared d) h = declared_same d h
      outcome_same (outcomes.Selected d through) h = selected_same d through h
      outcome_same (outcomes.Refused rule) h = refl

      uses_same : (us : List TheUse) → Each (IsUseIn Inside) us → uses_meant here file mine us ≡ uses_meant there file theirs us
      uses_same [] h = refl
      uses_same (u ∷ us) h = λ j. (u.offset, outcome_same u.outcome h.0 j) ∷ uses_same us h.1 j

      pub looks_same : (us : List TheUse) → Each (IsUseIn Inside) us → looks_of here file us locals ≡ looks_of there file us locals
      looks_same us h = λ j before. looks_with (uses_same us h j) (locals_same locals locals_in j) before
