-- What the types of a package are, from what is written of them and from what is known of other packages' types.
use Rattle.std.specs.Prelude.{◌≡◌, ◌⊎◌, ◌↔◌, ℕ, suc, Bool, true, false, ◌||◌, IsTrue, List, [], ◌∷◌, ◌++◌, Some, None, slice_get, slice_index_or, Contains, if◌then◌else◌, ⊤}
use Rattle.go_term_core.specs.text_core.Text.{is_blank}
use Rattle.go_term_core.specs.text_core.declared.rule.Rule.TheVariants as rules
use Rattle.go_term_core.specs.decl_core.declared.keys.DeclKey.{DeclKey}
use Rattle.go_term_core.specs.Terms.{Term, NoType, Predeclared, ErrorType, Defined, PointerTo, StructOf, InterfaceOf, Fields, NoField, AField}
use Rattle.go_term_core.specs.declared.settling.kind.Kind.{Kind}
use Rattle.go_term_core.specs.declared.settling.kind.Kind.TheVariants as kinds
use Rattle.go_term_core.specs.settling.Settled.{kind_of_term, is_among_names, settled, settled_sign}
use Rattle.go_type_core.specs.declared.build.TypeFault.{TypeFault}
use Rattle.go_table_core.specs.Entries.{Member, Entry, EntryLook, find_entry, IsUnnamed}
use Rattle.go_table_core.specs.Methods.{has_field_before}

-- 1. Types that reach themselves.

-- the defined types that a type uses outside pointers and interfaces
abbrev mutual
  pub direct_keys : Term → List DeclKey
  direct_keys NoType = []
  direct_keys (Predeclared b) = []
  direct_keys ErrorType = []
  direct_keys (Defined k) = k ∷ []
  direct_keys (PointerTo t) = []
  direct_keys (StructOf path fs) = direct_fields fs
  direct_keys (InterfaceOf path ms) = []

  pub direct_fields : Fields → List DeclKey
  direct_fields NoField = []
  direct_fields (AField name place embedded t tag fs) = direct_keys t ++ direct_fields fs

-- a type of the package uses another directly
abbrev pub Uses : List Entry → DeclKey → DeclKey → Type 0
Uses written k j = (e : Entry) × (find_entry written k ≡ Some e) × Contains (direct_keys e.term) j

-- each uses the next: k, those of the list, j
abbrev pub UsesAlong : List Entry → DeclKey → List DeclKey → DeclKey → Type 0
UsesAlong written k [] j = Uses written k j
UsesAlong written k (m ∷ ms) j = Uses written k m × UsesAlong written m ms j

-- a type that reaches itself
abbrev pub IsLooped : List Entry → DeclKey → Type 0
IsLooped written k = (between : List DeclKey) × UsesAlong written k between k

-- marks of the types of a list that reach themselves, by their places there
abbrev pub AreLoopedEntries : List Entry → List Bool → Type 0
AreLoopedEntries written marks = (i : ℕ) (w : Entry) → slice_get written i ≡ Some w → (slice_index_or marks i false ≡ true) ↔ IsLooped written w.key

-- 2. What is no type.

-- a type with all its stars taken off
abbrev pub base : Term → Term
base NoType = NoType
base (Predeclared b) = Predeclared b
base ErrorType = ErrorType
base (Defined k) = Defined k
base (PointerTo t) = base t
base (StructOf path fs) = StructOf path fs
base (InterfaceOf path ms) = InterfaceOf path ms

-- a name of what is none: of a type of the package that reaches itself, or of another package's that is none or is not known
abbrev pub NamesNothing : List Entry → EntryLook → DeclKey → Type 0
NamesNothing written far k =
    IsLooped written k ⊎ ((find_entry written k ≡ None) × ((far k ≡ None) ⊎ ((e : Entry) × (far k ≡ Some e) × (e.term ≡ NoType))))

-- the types of the package on the list, each defined by the next through names and stars, lead from t to what is none
abbrev pub IsNothingBy : List Entry → EntryLook → Term → List DeclKey → Type 0
IsNothingBy written far t [] = (base t ≡ NoType) ⊎ ((k : DeclKey) × (base t ≡ Defined k) × NamesNothing written far k)
IsNothingBy written far t (k ∷ ks) = (base t ≡ Defined k) × ((e : Entry) × (find_entry written k ≡ Some e) × IsNothingBy written far e.term ks)

abbrev pub IsNoTypeHere : List Entry → EntryLook → Term → Type 0
IsNoTypeHere written far t = (through : List DeclKey) × IsNothingBy written far t through

-- 3. Underlying types.

-- the types of the package on the list, each defined as the next, lead from t to a type that is no name, settled, or to another
-- package's
abbrev pub IsUnderBy : List Entry → EntryLook → (DeclKey → Kind) → Term → List DeclKey → Term → Type 0
IsUnderBy written far kind t [] u =
    (IsUnnamed t × (u ≡ settled kind t))
    ⊎ ((k : DeclKey) × (e : Entry) × (t ≡ Defined k) × (find_entry written k ≡ None) × (far k ≡ Some e) × (u ≡ e.term))
IsUnderBy written far kind t (k ∷ ks) u = (t ≡ Defined k) × ((e : Entry) × (find_entry written k ≡ Some e) × IsUnderBy written far kind e.term ks u)

abbrev pub IsUnder : List Entry → EntryLook → (DeclKey → Kind) → Term → Term → Type 0
IsUnder written far kind t u = (through : List DeclKey) × IsUnderBy written far kind t through u

-- the underlying type of a defined type: none where it is none
abbrev pub IsUnderlying : List Entry → EntryLook → (DeclKey → Kind) → DeclKey → Term → Type 0
IsUnderlying written far kind k u =
    (IsNoTypeHere written far (Defined k) × (u ≡ NoType))
    ⊎ ((IsNoTypeHere written far (Defined k) → ⊥) × IsUnder written far kind (Defined k) u)

-- 4. Methods.

abbrev pub settled_member : (DeclKey → Kind) → Member → Member
settled_member kind m = record { name = m.name; place = m.place; pointer = m.pointer; sign = settled_sign kind m.sign }

-- the methods of a type over its underlying type: those that are not blank, repeat no earlier method's name and stand behind no field
-- of the same identifier
abbrev pub unrepeated_methods : (DeclKey → Kind) → List ℕ → Term → List (List ℕ) → List Member → List Member
unrepeated_methods kind path u seen [] = []
unrepeated_methods kind path u seen (m ∷ ms) =
    if is_blank m.name || (is_among_names seen m.name || has_field_before path u m) then unrepeated_methods kind path u seen ms
    else settled_member kind m ∷ unrepeated_methods kind path u (m.name ∷ seen) ms

-- a pointer type and an interface type have no methods of their own
abbrev pub kept_over : Kind → (DeclKey → Kind) → List ℕ → Term → List Member → List Member
kept_over kinds.Nothing kind path u ms = unrepeated_methods kind path u [] ms
kept_over kinds.Pointer kind path u ms = []
kept_over kinds.Interface kind path u ms = []
kept_over kinds.Other kind path u ms = unrepeated_methods kind path u [] ms

-- 5. The types of a package.

-- what a table has of a type that is written so
pub record IsEntry (written : List Entry) (far : EntryLook) (kind : DeclKey → Kind) (w e : Entry) : Type 0 where
  pub key : e.key ≡ w.key
  pub name : e.name ≡ w.name
  pub term : IsUnderlying written far kind w.key e.term
  pub methods : e.methods ≡ kept_over (kind_of_term e.term) kind w.key.path e.term w.methods

abbrev pub AreEntries : List Entry → EntryLook → (DeclKey → Kind) → List Entry → List Entry → Type 0
AreEntries written far kind [] [] = ⊤
AreEntries written far kind (w ∷ ws) (e ∷ es) = IsEntry written far kind w e × AreEntries written far kind ws es
AreEntries written far kind _ _ = ⊥

-- the kind of a defined type is that of its underlying type
abbrev pub AreKinds : List Entry → EntryLook → (DeclKey → Kind) → Type 0
AreKinds written far kind = (k : DeclKey) (u : Term) → IsUnderlying written far kind k u → kind k ≡ kind_of_term u

-- the faults of types that reach themselves, numbered from a place on
abbrev pub looped_faults : (DeclKey → Bool) → ℕ → List Entry → List TypeFault
looped_faults looped i [] = []
looped_faults looped i (w ∷ ws) =
    if looped w.key then record { entry = i; rule = rules.Y1 } ∷ looped_faults looped (suc i) ws else looped_faults looped (suc i) ws

-- the types of a package and the faults of those that reach themselves
pub record IsBuilt (far : EntryLook) (written types : List Entry) (faults : List TypeFault) : Type 0 where
  pub kind : DeclKey → Kind
  pub kinds_are : AreKinds written far kind
  pub nothing_is : (k : DeclKey) → (kind k ≡ kinds.Nothing) ↔ IsNoTypeHere written far (Defined k)
  pub entries : AreEntries written far kind written types
  pub looped : DeclKey → Bool
  pub looped_are : (k : DeclKey) → IsTrue (looped k) ↔ IsLooped written k
  pub faults_are : faults ≡ looped_faults looped 0 written
