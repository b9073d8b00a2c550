-- A package with what is decided of its types, worked out by hand.
use Rattle.std.specs.Prelude.{◌≡◌, ℕ, Bool, true, false, List, [], ◌∷◌, Ok, Err, Some, None, codes}
use Rattle.go_denote_core.specs.text_core.declared.rule.Rule.TheVariants as rules
use Rattle.go_term_core.specs.decl_core.declared.places.DeclKind.TheVariants as kinds
use Rattle.go_term_core.specs.decl_core.declared.keys.DeclKey.{DeclKey}
use Rattle.go_term_core.specs.declared.term.Basic.TheVariants as basics
use Rattle.go_term_core.specs.declared.term.MemberPlace.{MemberPlace}
use Rattle.go_term_core.specs.declared.term.MemberPlace.TheVariants as places
use Rattle.go_term_core.specs.Terms.{Term, NoType, Predeclared, ErrorType, Defined, PointerTo, StructOf, InterfaceOf, Fields, NoField, AField, NoMethod, AMethod, Sign, SignOf, NoTerm, ATerm}
use Rattle.go_table_core.specs.Entries.{Member, Entry, find_entry}
use Rattle.go_table_core.specs.Assign.{AValue, ANil, AnInteger, AText, ABoolean}
use Rattle.go_mset_core.specs.embed_core.Owners.{AFieldOf, AMethodOf, AnInterfaces, TheErrorMethod}
use Rattle.go_mset_core.specs.Implementing.{error_sign}
use Rattle.go_denote_core.specs.operand_core.declared.types.TypeForm.TheVariants as forms
use Rattle.go_denote_core.specs.declared.things.Selection.TheVariants as selections
use Rattle.go_handle_core.specs.deciding.Identity.{identical_of, identical_but_for_tags_of, same_sign_of}
use Rattle.go_handle_core.specs.deciding.Conversion.{convertible_of}
use Rattle.go_handle_core.specs.deciding.Selecting.{choice, selected_of}
use Rattle.go_handle_core.specs.deciding.Implementing.{has_method_of, implements_of}
use Rattle.go_handle_core.specs.deciding.Assigning.{assignable_of}
use Rattle.go_handle_core.specs.deciding.Rules.{form_of, selection_of, param_types_of, results_of}

abbrev pub p : List ℕ
p = codes "p"

abbrev pub q : List ℕ
q = codes "q"

abbrev pub sample_decl_key : ℕ → DeclKey
sample_decl_key n = record { path = p; decl = record { file = 0; number = n; kind = kinds.Type } }

abbrev pub sample_member_place : ℕ → MemberPlace
sample_member_place n = places.Declared (record { file = 0; number = n; kind = kinds.Field })

abbrev pub int : Term
int = Predeclared basics.Int

abbrev pub text_term : Term
text_term = Predeclared basics.Text

abbrev pub empty_sign : Sign
empty_sign = SignOf NoTerm NoTerm

abbrev pub field : List ℕ → ℕ → Term → Fields → Fields
field name n t fs = AField name (sample_member_place n) false t [] fs

abbrev pub embedded : List ℕ → ℕ → Term → Fields → Fields
embedded name n t fs = AField name (sample_member_place n) true t [] fs

abbrev pub sample_entry : ℕ → List ℕ → Term → List Member → Entry
sample_entry n name t ms = record { key = sample_decl_key n; name = name; term = t; methods = ms }

abbrev pub sample_member : List ℕ → ℕ → Bool → Sign → Member
sample_member name n pointer g = record { name = name; place = sample_member_place n; pointer = pointer; sign = g }

abbrev pub sample_type : ℕ → Term
sample_type n = Defined (sample_decl_key n)

-- struct { x int; y int "t" }, with that tag or with none
abbrev pub plane : List ℕ → Term
plane tag = StructOf p (AField (codes "x") (sample_member_place 10) false int [] (AField (codes "y") (sample_member_place 11) false int tag NoField))

abbrev pub mover : Term
mover = InterfaceOf p (AMethod (codes "Move") (sample_member_place 20) empty_sign NoMethod)

abbrev pub keeper : Term
keeper = InterfaceOf p (AMethod (codes "keep") (sample_member_place 21) empty_sign (AMethod (codes "Move") (sample_member_place 22) empty_sign NoMethod))

abbrev pub failure : Term
failure = InterfaceOf p (AMethod (codes "Error") (sample_member_place 26) error_sign NoMethod)

-- type Point struct { x int; y int "t" }; func (p *Point) Move(); func (p Point) keep()
-- type Label string; func (l Label) Error() string
-- type Box struct { *Point; Label; *Box }
-- type Left struct { x int; Left int }
-- type Both struct { Point; Left }
-- type Mover interface { Move() }
-- type Ptr *Point
-- type Bad Missing
-- type Far struct { Both; x bool }
-- type Held struct { Mover; error }
-- type Failure interface { Error() string }
-- type Trouble error
abbrev pub table : List Entry
table =
    sample_entry 0 (codes "Point") (plane (codes "t")) (sample_member (codes "Move") 30 true empty_sign ∷ (sample_member (codes "keep") 31 false empty_sign ∷ []))
    ∷ (sample_entry 1 (codes "Label") text_term (sample_member (codes "Error") 32 false error_sign ∷ [])
    ∷ (sample_entry 2 (codes "Box") (StructOf p (embedded (codes "Point") 12 (PointerTo (sample_type 0)) (embedded (codes "Label") 13 (sample_type 1) (embedded (codes "Box") 14 (PointerTo (sample_type 2)) NoField)))) []
    ∷ (sample_entry 3 (codes "Left") (StructOf p (field (codes "x") 15 int (field (codes "Left") 16 int NoField))) []
    ∷ (sample_entry 4 (codes "Both") (StructOf p (embedded (codes "Point") 17 (sample_type 0) (embedded (codes "Left") 18 (sample_type 3) NoField))) []
    ∷ (sample_entry 5 (codes "Mover") mover []
    ∷ (sample_entry 6 (codes "Ptr") (PointerTo (sample_type 0)) []
    ∷ (sample_entry 7 (codes "Bad") NoType []
    ∷ (sample_entry 8 (codes "Far") (StructOf p (embedded (codes "Both") 19 (sample_type 4) (field (codes "x") 23 (Predeclared basics.Bool) NoField))) []
    ∷ (sample_entry 9 (codes "Held") (StructOf p (embedded (codes "Mover") 24 (sample_type 5) (embedded (codes "error") 25 ErrorType NoField))) []
    ∷ (sample_entry 10 (codes "Failure") failure []
    ∷ (sample_entry 11 (codes "Trouble") ErrorType [] ∷ [])))))))))))

-- struct { x int; y int }, written in another package
abbrev pub elsewhere : Term
elsewhere = StructOf q (field (codes "x") 10 int (field (codes "y") 11 int NoField))

abbrev pub one_field : List ℕ → List ℕ → Term
one_field path name = StructOf path (field name 10 int NoField)

pub record WorkedTypes : Type 0 where
  -- identity
  pub own_names : identical_of (sample_type 0) (sample_type 0) ≡ true
  pub other_names : identical_of (sample_type 0) (sample_type 3) ≡ false
  pub name_and_literal : identical_of (sample_type 0) (plane (codes "t")) ≡ false
  pub tags : identical_of (plane []) (plane (codes "t")) ≡ false
  pub but_for_tags : identical_but_for_tags_of (plane []) (plane (codes "t")) ≡ true
  pub hidden_fields : identical_of (plane []) elsewhere ≡ false
  pub exported_fields : identical_of (one_field p (codes "X")) (one_field q (codes "X")) ≡ true
  pub embedded_fields : identical_of (one_field p (codes "X")) (StructOf p (embedded (codes "X") 10 int NoField)) ≡ false
  pub fewer_fields : identical_of (one_field p (codes "x")) (plane []) ≡ false
  pub pointers : identical_of (PointerTo (sample_type 0)) (PointerTo (sample_type 0)) ≡ true
  pub more_stars : identical_of (PointerTo (PointerTo int)) (PointerTo int) ≡ false
  pub methods_turned : identical_of keeper (InterfaceOf p (AMethod (codes "Move") (sample_member_place 40) empty_sign (AMethod (codes "keep") (sample_member_place 41) empty_sign NoMethod))) ≡ true
  pub other_signature : identical_of mover (InterfaceOf p (AMethod (codes "Move") (sample_member_place 40) error_sign NoMethod)) ≡ false
  pub fewer_methods : identical_of mover keeper ≡ false
  pub signatures : same_sign_of error_sign (SignOf NoTerm (ATerm text_term NoTerm)) ≡ true
  pub turned_signature : same_sign_of error_sign (SignOf (ATerm text_term NoTerm) NoTerm) ≡ false
  pub error_by_name : identical_of ErrorType failure ≡ false
  -- conversions
  pub text_of_label : convertible_of (find_entry table) (sample_type 1) text_term ≡ true
  pub label_of_text : convertible_of (find_entry table) text_term (sample_type 1) ≡ true
  pub untagged : convertible_of (find_entry table) (plane []) (sample_type 0) ≡ true
  pub pointer_to_untagged : convertible_of (find_entry table) (PointerTo (plane [])) (PointerTo (sample_type 0)) ≡ true
  pub named_pointer : convertible_of (find_entry table) (PointerTo (plane [])) (sample_type 6) ≡ false
  pub other_fields : convertible_of (find_entry table) (sample_type 3) (sample_type 0) ≡ false
  pub none_to_none : convertible_of (find_entry table) (sample_type 7) (sample_type 7) ≡ false
  pub pointers_to_none : convertible_of (find_entry table) (PointerTo (sample_type 7)) (PointerTo NoType) ≡ false
  pub pointer_to_error : convertible_of (find_entry table) (PointerTo (sample_type 10)) (PointerTo ErrorType) ≡ true
  pub pointer_from_error : convertible_of (find_entry table) (PointerTo ErrorType) (PointerTo (sample_type 10)) ≡ true
  pub pointers_through_error : convertible_of (find_entry table) (PointerTo (sample_type 11)) (PointerTo (sample_type 10)) ≡ true
  pub pointer_to_other_methods : convertible_of (find_entry table) (PointerTo ErrorType) (PointerTo (sample_type 5)) ≡ false
  pub two_stars_to_error : convertible_of (find_entry table) (PointerTo (PointerTo (sample_type 10))) (PointerTo (PointerTo ErrorType)) ≡ false
  -- assignability
  pub label_to_text : assignable_of table (AValue (sample_type 1)) text_term ≡ false
  pub constant_to_label : assignable_of table AText (sample_type 1) ≡ true
  pub integer_to_label : assignable_of table AnInteger (sample_type 1) ≡ false
  pub literal_to_name : assignable_of table (AValue (plane (codes "t"))) (sample_type 0) ≡ true
  pub untagged_to_name : assignable_of table (AValue (plane [])) (sample_type 0) ≡ false
  pub pointer_to_name : assignable_of table (AValue (PointerTo (sample_type 0))) (sample_type 6) ≡ true
  pub nil_to_interface : assignable_of table ANil (sample_type 5) ≡ true
  pub nil_to_pointer : assignable_of table ANil (sample_type 6) ≡ true
  pub nil_to_struct : assignable_of table ANil (sample_type 0) ≡ false
  pub method_by_pointer : assignable_of table (AValue (PointerTo (sample_type 0))) (sample_type 5) ≡ true
  pub method_by_value : assignable_of table (AValue (sample_type 0)) (sample_type 5) ≡ false
  pub label_to_error : assignable_of table (AValue (sample_type 1)) ErrorType ≡ true
  pub text_to_error : assignable_of table AText ErrorType ≡ false
  pub error_to_literal : assignable_of table (AValue ErrorType) failure ≡ true
  pub boolean_to_any : assignable_of table ABoolean (InterfaceOf p NoMethod) ≡ true
  pub none_to_any : assignable_of table (AValue (sample_type 7)) (InterfaceOf p NoMethod) ≡ false
  pub none_to_itself : assignable_of table (AValue (sample_type 7)) (sample_type 7) ≡ false
  -- forms
  pub struct_form : form_of (find_entry table) (sample_type 2) ≡ forms.Struct
  pub pointer_form : form_of (find_entry table) (sample_type 6) ≡ forms.Pointer (sample_type 0)
  pub basic_form : form_of (find_entry table) (sample_type 1) ≡ forms.Basic basics.Text
  pub interface_form : form_of (find_entry table) (sample_type 5) ≡ forms.Interface
  pub error_form : form_of (find_entry table) ErrorType ≡ forms.Interface
  pub no_form : form_of (find_entry table) (sample_type 7) ≡ forms.Nothing
  pub missing_form : form_of (find_entry table) (sample_type 50) ≡ forms.Nothing
  pub parameters : param_types_of (find_entry table) (SignOf (ATerm int (ATerm (sample_type 7) NoTerm)) NoTerm) ≡ Some int ∷ (None ∷ [])
  pub results : results_of (find_entry table) error_sign ≡ Some text_term ∷ []

pub record WorkedMembers : Type 0 where
  -- by a star, at the depth of one field
  pub promoted : selected_of table (sample_type 2) (codes "x") p ≡ Ok (choice (0 ∷ []) true (AFieldOf p (sample_member_place 10) int))
  pub own : selected_of table (sample_type 0) (codes "y") p ≡ Ok (choice [] false (AFieldOf p (sample_member_place 11) int))
  pub through_pointer : selected_of table (PointerTo (sample_type 0)) (codes "y") p ≡ Ok (choice [] true (AFieldOf p (sample_member_place 11) int))
  pub method : selected_of table (PointerTo (sample_type 4)) (codes "Move") p ≡ Ok (choice (0 ∷ []) true (AMethodOf p (sample_member_place 30) true empty_sign))
  pub second_field : selected_of table (sample_type 2) (codes "Error") q ≡ Ok (choice (1 ∷ []) false (AMethodOf p (sample_member_place 32) false error_sign))
  pub nearer : selected_of table (sample_type 8) (codes "x") p ≡ Ok (choice [] false (AFieldOf p (sample_member_place 23) (Predeclared basics.Bool)))
  pub deeper : selected_of table (sample_type 8) (codes "y") p ≡ Ok (choice (0 ∷ (0 ∷ [])) false (AFieldOf p (sample_member_place 11) int))
  pub of_field_name : selected_of table (sample_type 4) (codes "Left") p ≡ Ok (choice [] false (AFieldOf p (sample_member_place 18) (sample_type 3)))
  pub of_interface : selected_of table (sample_type 9) (codes "Move") q ≡ Ok (choice (0 ∷ []) false (AnInterfaces p (sample_member_place 20) empty_sign))
  pub of_error : selected_of table (sample_type 9) (codes "Error") q ≡ Ok (choice (1 ∷ []) false TheErrorMethod)
  pub behind_name : selected_of table (sample_type 6) (codes "x") p ≡ Ok (choice [] true (AFieldOf p (sample_member_place 10) int))
  -- rules
  pub two : selected_of table (sample_type 4) (codes "x") p ≡ Err rules.S2
  pub none : selected_of table (sample_type 4) (codes "z") p ≡ Err rules.S1
  pub none_in_circle : selected_of table (sample_type 2) (codes "z") p ≡ Err rules.S1
  pub of_other_package : selected_of table (sample_type 2) (codes "x") q ≡ Err rules.S3
  pub no_type : selected_of table (sample_type 7) (codes "x") p ≡ Err rules.S4
  pub two_stars : selected_of table (PointerTo (sample_type 6)) (codes "x") p ≡ Err rules.S6
  pub star_of_interface : selected_of table (PointerTo (sample_type 5)) (codes "Move") p ≡ Err rules.S6
  pub method_behind_name : selected_of table (sample_type 6) (codes "Move") p ≡ Err rules.S7
  pub blank : selected_of table (sample_type 0) (codes "_") p ≡ Err rules.S8
  -- implementation
  pub by_value : implements_of table (sample_type 0) (sample_type 5) ≡ false
  pub by_pointer : implements_of table (PointerTo (sample_type 0)) (sample_type 5) ≡ true
  pub by_star : implements_of table (sample_type 2) (sample_type 5) ≡ true
  pub by_interface : implements_of table (sample_type 9) (sample_type 5) ≡ true
  pub errors : implements_of table (sample_type 1) ErrorType ≡ true
  pub no_errors : implements_of table (sample_type 0) ErrorType ≡ false
  pub two_methods : implements_of table (PointerTo (sample_type 0)) keeper ≡ true
  pub one_lacking : implements_of table (sample_type 5) keeper ≡ false
  pub of_own_package : has_method_of table (sample_type 0) (codes "keep") q empty_sign ≡ false
  pub other_signature : has_method_of table (sample_type 0) (codes "keep") p error_sign ≡ false
  -- what is handed on
  pub chosen_field : selection_of {D = ℕ} {P = List ℕ} (λ f. 7) (λ path. path) (find_entry table) (selected_of table (sample_type 2) (codes "x") p) ≡ selections.«Field» 7 (0 ∷ []) (Some int) true
  pub chosen_method : selection_of {D = ℕ} {P = List ℕ} (λ f. 7) (λ path. path) (find_entry table) (selected_of table (PointerTo (sample_type 4)) (codes "Move") p) ≡ selections.Method 7 (0 ∷ []) empty_sign true true
  pub refused : selection_of {D = ℕ} {P = List ℕ} (λ f. 7) (λ path. path) (find_entry table) (selected_of table (sample_type 4) (codes "x") p) ≡ selections.Missing rules.S2
