-- The faults of struct types, interface types, methods and receivers: B5, Y2, B6. The terms are as they are written.
use Rattle.std.specs.Prelude.{ℕ, Bool, true, false, not, ◌&&◌, ◌||◌, List, [], ◌∷◌, ◌++◌, Option, Some, None, nat_eq, if◌then◌else◌}
use Rattle.std.specs.Str.{bytes_eq}
use Rattle.go_collections_core.specs.text_core.Text.{is_blank}
use Rattle.go_collections_core.specs.text_core.declared.rule.Rule.{Rule}
use Rattle.go_collections_core.specs.text_core.declared.rule.Rule.TheVariants as rules
use Rattle.go_term_core.specs.decl_core.declared.keys.DeclKey.{DeclKey}
use Rattle.go_term_core.specs.declared.term.MemberPlace.{MemberPlace}
use Rattle.go_term_core.specs.declared.term.MemberPlace.TheVariants as places
use Rattle.go_term_core.specs.Terms.{Term, NoType, Predeclared, ErrorType, Defined, PointerTo, StructOf, InterfaceOf, Fields, NoField, AField, Methods, NoMethod, AMethod, Sign, SignOf, Terms, NoTerm, ATerm}
use Rattle.go_term_core.specs.declared.settling.kind.Kind.{Kind}
use Rattle.go_term_core.specs.settling.Settled.{can_be_embedded, is_among_names, repeats_earlier}
use Rattle.go_type_core.specs.table_core.Entries.{Member, same_decl}
use Rattle.go_type_core.specs.table_core.Methods.{has_field_before}
use Rattle.go_embed_core.specs.declared.faults.MemberFault.{MemberFault}
use Rattle.go_term_core.specs.settling.Settled.{can_be_pointed}

abbrev pub member_fault : MemberPlace → Rule → MemberFault
member_fault place rule = record { place = place; rule = rule }

abbrev pub member_fault_if : Bool → MemberPlace → Rule → List MemberFault
member_fault_if b place rule = if b then member_fault place rule ∷ [] else []

-- two places are one
abbrev pub same_place : MemberPlace → MemberPlace → Bool
same_place (places.Declared a) (places.Declared b) = same_decl a b
same_place (places.Declared a) (places.Local b) = false
same_place (places.Local a) (places.Declared b) = false
same_place (places.Local a) (places.Local b) = nat_eq a.file b.file && nat_eq a.offset b.offset

abbrev pub first_field : Fields → Option MemberPlace
first_field NoField = None
first_field (AField name place embedded t tag fs) = Some place

abbrev pub first_method : Methods → Option MemberPlace
first_method NoMethod = None
first_method (AMethod name place g ms) = Some place

-- the place of the first member that a type declares, or none where it declares none
abbrev pub first_place : Term → Option MemberPlace
first_place NoType = None
first_place (Predeclared b) = None
first_place ErrorType = None
first_place (Defined k) = None
first_place (PointerTo t) = first_place t
first_place (StructOf path fs) = first_field fs
first_place (InterfaceOf path ms) = first_method ms

abbrev pub same_first : Option MemberPlace → Option MemberPlace → Bool
same_first None q = false
same_first (Some p) None = false
same_first (Some p) (Some q) = same_place p q

-- a type is written once for a field or a parameter and for the one before it, as in `a, b struct{ f int }`: they have the first member in
-- common, of which `last` is the place in the type before
abbrev pub is_shared : Option MemberPlace → Term → Bool
is_shared last t = same_first last (first_place t)

abbrev mutual
  -- the faults in a type, in the order in which it is written. A type that is written once for several names has its faults once
  pub term_faults : (DeclKey → Kind) → Term → List MemberFault
  term_faults kind NoType = []
  term_faults kind (Predeclared b) = []
  term_faults kind ErrorType = []
  term_faults kind (Defined k) = []
  term_faults kind (PointerTo t) = term_faults kind t
  term_faults kind (StructOf path fs) = fields_faults kind [] None fs
  term_faults kind (InterfaceOf path ms) = methods_faults kind [] ms

  -- a field that is not blank and repeats a name; an embedded one whose type may not be embedded
  pub fields_faults : (DeclKey → Kind) → List (List ℕ) → Option MemberPlace → Fields → List MemberFault
  fields_faults kind seen last NoField = []
  fields_faults kind seen last (AField name place embedded t tag fs) =
      member_fault_if (repeats_earlier seen name) place rules.B5
      ++ (member_fault_if (embedded && not (can_be_embedded kind t)) place rules.Y2 ++ ((if is_shared last t then [] else term_faults kind t) ++ fields_faults kind (name ∷ seen) (first_place t) fs))

  -- an interface's method that is blank or repeats a name
  pub methods_faults : (DeclKey → Kind) → List (List ℕ) → Methods → List MemberFault
  methods_faults kind seen NoMethod = []
  methods_faults kind seen (AMethod name place g ms) =
      member_fault_if (is_blank name || is_among_names seen name) place rules.B5 ++ (sign_faults kind g ++ methods_faults kind (name ∷ seen) ms)

  pub sign_faults : (DeclKey → Kind) → Sign → List MemberFault
  sign_faults kind (SignOf ps rs) = terms_faults kind None ps ++ terms_faults kind None rs

  pub terms_faults : (DeclKey → Kind) → Option MemberPlace → Terms → List MemberFault
  terms_faults kind last NoTerm = []
  terms_faults kind last (ATerm t ts) = (if is_shared last t then [] else term_faults kind t) ++ terms_faults kind (first_place t) ts

-- the faults in the type of a field or a parameter behind another
abbrev pub line_faults : (DeclKey → Kind) → Option MemberPlace → Term → List MemberFault
line_faults kind last t = if is_shared last t then [] else term_faults kind t

-- a declared method that is not blank and repeats an earlier one's name, or stands behind a field of the same identifier; u is the
-- type's underlying type
abbrev pub declared_faults : (DeclKey → Kind) → List ℕ → Term → List (List ℕ) → List Member → List MemberFault
declared_faults kind path u seen [] = []
declared_faults kind path u seen (m ∷ ms) =
    member_fault_if (not (is_blank m.name) && (is_among_names seen m.name || has_field_before path u m)) m.place rules.B5
    ++ (sign_faults kind m.sign ++ declared_faults kind path u (m.name ∷ seen) ms)

-- a method that is blank, or stands behind a field of the same identifier
abbrev pub is_left_out : List ℕ → Term → Member → Bool
is_left_out path u m = is_blank m.name || has_field_before path u m

-- the names of the other methods
abbrev pub own_names : List ℕ → Term → List Member → List (List ℕ)
own_names path u [] = []
own_names path u (m ∷ ms) = if is_left_out path u m then own_names path u ms else m.name ∷ own_names path u ms

-- the fields that have one of these names
abbrev pub named_faults : List (List ℕ) → Fields → List MemberFault
named_faults names NoField = []
named_faults names (AField name place embedded t tag fs) = member_fault_if (is_among_names names name) place rules.B5 ++ named_faults names fs

-- the fields that a defined type of the package of a path has over u, its underlying type, which stand behind a method of the same identifier:
-- those of a struct type that is written in that package. A field of another package comes before the methods
abbrev pub hidden_faults : List ℕ → Term → List Member → List MemberFault
hidden_faults path NoType ms = []
hidden_faults path (Predeclared b) ms = []
hidden_faults path ErrorType ms = []
hidden_faults path (Defined k) ms = []
hidden_faults path (PointerTo t) ms = []
hidden_faults path (StructOf home fs) ms = if bytes_eq home path then named_faults (own_names path (StructOf home fs) ms) fs else []
hidden_faults path (InterfaceOf home methods) ms = []

-- whether a type, as its name is written, may be the base of a receiver in the package of a path. A refused name, which is no type, breaks no
-- rule
abbrev pub can_be_base : (DeclKey → Kind) → List ℕ → Term → Bool
can_be_base kind path NoType = true
can_be_base kind path (Predeclared b) = false
can_be_base kind path ErrorType = false
can_be_base kind path (Defined k) = bytes_eq k.path path && can_be_pointed (kind k)
can_be_base kind path (PointerTo t) = false
can_be_base kind path (StructOf p fs) = false
can_be_base kind path (InterfaceOf p ms) = false
