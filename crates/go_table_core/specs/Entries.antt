-- Defined types, and what a table has of them.
use denote.Enum.Bare.{sameb}
use Rattle.std.specs.Prelude.{ℕ, Bool, false, ◌&&◌, ◌||◌, List, [], ◌∷◌, ◌++◌, Option, Some, None, nat_eq, if◌then◌else◌}
use Rattle.std.specs.Str.{bytes_eq, chars}
use Rattle.go_collections_core.specs.text_core.Text.{exported}
use Rattle.go_term_core.specs.decl_core.contracts.places.DeclKind as decl_kind
use Rattle.go_term_core.specs.decl_core.declared.keys.DeclKey.{DeclKey}
use Rattle.go_term_core.specs.decl_core.declared.keys.DeclRef.{DeclRef}
use Rattle.go_term_core.specs.declared.term.MemberPlace.{MemberPlace}
use Rattle.go_term_core.specs.declared.settling.kind.Kind.{Kind}
use Rattle.go_term_core.specs.settling.Settled.{kind_of_term}
use Rattle.go_term_core.specs.Terms.{Term, NoType, Predeclared, ErrorType, Defined, PointerTo, StructOf, InterfaceOf, Sign, term_keys, sign_keys}

-- a method that is declared: its name, its place, whether its receiver is a pointer, its signature
pub record Member : Type 0 where
  pub name : List ℕ
  pub place : MemberPlace
  pub pointer : Bool
  pub sign : Sign

-- a defined type: as it is written, what it is defined by and all its methods; in a table, its underlying type and those of its
-- methods that are kept
pub record Entry : Type 0 where
  pub key : DeclKey
  pub name : List ℕ
  pub term : Term
  pub methods : List Member

-- what is known of defined types
abbrev pub EntryLook : Type 0
EntryLook = DeclKey → Option Entry

abbrev pub same_decl : DeclRef → DeclRef → Bool
same_decl a b = nat_eq a.file b.file && (nat_eq a.number b.number && sameb decl_kind.the_type a.kind b.kind)

abbrev pub same_key : DeclKey → DeclKey → Bool
same_key a b = bytes_eq a.path b.path && same_decl a.decl b.decl

-- the entry of a key in a list: the first
abbrev pub find_entry : List Entry → EntryLook
find_entry [] k = None
find_entry (e ∷ es) k = if same_key e.key k then Some e else find_entry es k

-- what a type of a table is, with names passed: its underlying type, or none
abbrev pub term_in : Option Entry → Term
term_in None = NoType
term_in (Some e) = e.term

abbrev pub underlying_in : EntryLook → Term → Term
underlying_in look NoType = NoType
underlying_in look (Predeclared b) = Predeclared b
underlying_in look ErrorType = ErrorType
underlying_in look (Defined k) = term_in (look k)
underlying_in look (PointerTo t) = PointerTo t
underlying_in look (StructOf path fs) = StructOf path fs
underlying_in look (InterfaceOf path ms) = InterfaceOf path ms

abbrev pub methods_in : Option Entry → List Member
methods_in None = []
methods_in (Some e) = e.methods

-- the methods that are declared of a type
abbrev pub declared_methods : EntryLook → Term → List Member
declared_methods look NoType = []
declared_methods look (Predeclared b) = []
declared_methods look ErrorType = []
declared_methods look (Defined k) = methods_in (look k)
declared_methods look (PointerTo t) = []
declared_methods look (StructOf path fs) = []
declared_methods look (InterfaceOf path ms) = []

abbrev pub members_keys : List Member → List DeclKey
members_keys [] = []
members_keys (m ∷ ms) = sign_keys m.sign ++ members_keys ms

-- the defined types that an entry mentions
abbrev pub entry_keys : Entry → List DeclKey
entry_keys e = term_keys e.term ++ members_keys e.methods

-- a type that is no name; and what is none
abbrev pub IsUnnamed : Term → Type 0
IsUnnamed (Defined k) = ⊥
IsUnnamed _ = Unit {0}

-- the same identifier, of two that are written in packages
abbrev pub same_id : List ℕ → List ℕ → List ℕ → List ℕ → Bool
same_id a a_path b b_path = bytes_eq a b && (exported (chars a) || bytes_eq a_path b_path)

-- a method of a type has the identifier
abbrev pub has_method : List ℕ → List Member → List ℕ → List ℕ → Bool
has_method path [] name from = false
has_method path (m ∷ ms) name from = same_id m.name path name from || has_method path ms name from

-- the kinds of the types of a table
abbrev pub kinds_in : List Entry → DeclKey → Kind
kinds_in es k = kind_of_term (term_in (find_entry es k))
