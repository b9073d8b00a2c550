-- What a type has of its own: fields, methods, embedded fields.
use Rattle.std.specs.Prelude.{◌≡◌, ℕ, suc, Bool, true, false, not, ◌&&◌, List, [], ◌∷◌, ◌++◌, Option, Some, None, Contains, codes, nat_eq, if◌then◌else◌}
use Rattle.std.specs.Str.{bytes_eq}
use Rattle.go_collections_core.specs.text_core.Text.{SameId}
use Rattle.go_term_core.specs.declared.term.MemberPlace.{MemberPlace}
use Rattle.go_term_core.specs.Terms.{Term, NoType, Predeclared, ErrorType, Defined, PointerTo, StructOf, InterfaceOf, Fields, NoField, AField, Methods, NoMethod, AMethod, Sign}
use Rattle.go_type_core.specs.table_core.Entries.{Member, EntryLook, underlying_in, declared_methods, has_method}
use Rattle.go_term_core.specs.Forms.{field_count}

-- a type as a table has it: the path of its package and the methods that are declared of it where it is a defined type, and its
-- underlying type
pub record OwnerModel : Type 0 where
  pub path : List ℕ
  pub methods : List Member
  pub underlying : Term

-- an owner without methods, so one that keeps no field from a type
abbrev pub nobody : OwnerModel
nobody = record { path = []; methods = []; underlying = NoType }

abbrev pub path_of_term : Term → List ℕ
path_of_term (Defined k) = k.path
path_of_term _ = []

abbrev pub owner_in : EntryLook → Term → OwnerModel
owner_in look t = record { path = path_of_term t; methods = declared_methods look t; underlying = underlying_in look t }

-- a type with one star taken off, and whether it has one
abbrev pub off : Term → Term
off (PointerTo t) = t
off t = t

abbrev pub is_starred : Term → Bool
is_starred (PointerTo t) = true
is_starred _ = false

-- an embedded field: its place among the fields, whether it has a star, the type without it
pub record EmbeddedEdge : Type 0 where
  pub position : ℕ
  pub pointer : Bool
  pub target : Term

abbrev pub embedded_edge : ℕ → Term → EmbeddedEdge
embedded_edge i t = record { position = i; pointer = is_starred t; target = off t }

-- the embedded fields of a struct type of a package, numbered from a place on, that no method of the owner keeps from it
abbrev pub embedded_edges : OwnerModel → List ℕ → ℕ → Fields → List EmbeddedEdge
embedded_edges o path i NoField = []
embedded_edges o path i (AField name place embedded t tag fs) =
    if embedded && not (has_method o.path o.methods name path) then embedded_edge i t ∷ embedded_edges o path (suc i) fs else embedded_edges o path (suc i) fs

abbrev pub term_embedded : OwnerModel → Term → List EmbeddedEdge
term_embedded o (StructOf path fs) = embedded_edges o path 0 fs
term_embedded o _ = []

abbrev pub embedded_in : OwnerModel → List EmbeddedEdge
embedded_in o = term_embedded o o.underlying

abbrev pub edge_at : List EmbeddedEdge → ℕ → Option EmbeddedEdge
edge_at [] i = None
edge_at (e ∷ es) i = if nat_eq e.position i then Some e else edge_at es i

abbrev pub embeds_at : OwnerModel → ℕ → Option EmbeddedEdge
embeds_at o i = edge_at (embedded_in o) i

abbrev pub term_field_count : Term → ℕ
term_field_count (StructOf path fs) = field_count fs
term_field_count _ = 0

abbrev pub owner_field_count : OwnerModel → ℕ
owner_field_count o = term_field_count o.underlying

-- a member: a field with its type, a declared method with its receiver and signature, an interface's method, the method of `error`.
-- Each has the path of the package where it is written, and its place there
pub data Found : Type 0 where
  AFieldOf : List ℕ → MemberPlace → Term → Found
  AMethodOf : List ℕ → MemberPlace → Bool → Sign → Found
  AnInterfaces : List ℕ → MemberPlace → Sign → Found
  TheErrorMethod : Found

-- the members of a type, each with its name and the path of the package where the name is written, in order

abbrev pub Named : Type 0
Named = List ℕ × (List ℕ × Found)

abbrev pub fields_found : OwnerModel → List ℕ → Fields → List Named
fields_found o path NoField = []
fields_found o path (AField name place embedded t tag fs) =
    if has_method o.path o.methods name path then fields_found o path fs else (name, (path, AFieldOf path place t)) ∷ fields_found o path fs

abbrev pub methods_found : List ℕ → Methods → List Named
methods_found path NoMethod = []
methods_found path (AMethod name place g ms) = (name, (path, AnInterfaces path place g)) ∷ methods_found path ms

abbrev pub declared_found : List ℕ → List Member → List Named
declared_found path [] = []
declared_found path (m ∷ ms) = (m.name, (path, AMethodOf path m.place m.pointer m.sign)) ∷ declared_found path ms

abbrev pub term_found : OwnerModel → Term → List Named
term_found o NoType = []
term_found o (Predeclared b) = []
term_found o ErrorType = (codes "Error", ([], TheErrorMethod)) ∷ []
term_found o (Defined k) = []
term_found o (PointerTo t) = []
term_found o (StructOf path fs) = fields_found o path fs
term_found o (InterfaceOf path ms) = methods_found path ms

abbrev pub members_of : OwnerModel → List Named
members_of o = declared_found o.path o.methods ++ term_found o o.underlying

-- a member that an identifier names which is written in a package
abbrev pub Has : OwnerModel → List ℕ → List ℕ → Found → Type 0
Has o name from f = (n : Named) × Contains (members_of o) n × SameId n.0 n.1.0 name from × (n.1.1 ≡ f)

abbrev pub is_spelled_in : List Named → List ℕ → Bool
is_spelled_in [] name = false
is_spelled_in (n ∷ ns) name = if bytes_eq n.0 name then true else is_spelled_in ns name

abbrev pub has_spelled : OwnerModel → List ℕ → Bool
has_spelled o name = is_spelled_in (members_of o) name
