-- Chains of types that are defined by one another, by their numbers.
use Rattle.std.specs.Prelude.{◌≡◌, ◌↔◌, ℕ, Bool, true, false, ◌||◌, List, Option, Some, None, length, slice_get, slice_index_or}
use Rattle.go_term_core.specs.decl_core.declared.keys.DeclKey.{DeclKey}
use Rattle.go_digraph_core.specs.chain.Chains.{AreEnds}
use Rattle.go_term_core.specs.declared.settling.kind.Kind.{Kind}
use Rattle.go_term_core.specs.declared.settling.kind.Kind.TheVariants as kinds
use Rattle.go_term_core.specs.settling.Settled.{kind_of_term, settled}
use Rattle.go_term_core.specs.Terms.{Term, NoType, Predeclared, ErrorType, Defined, PointerTo, StructOf, InterfaceOf, is_no_type}
use Rattle.go_table_core.specs.Entries.{Entry, EntryLook, term_in}
use Rattle.go_type_core.specs.Built.{base, IsNoTypeHere}
use Rattle.go_type_core.specs.mirrors.Numbers.{keys_of, number_of, term_at, IsTable}

-- the number of the type of the package that a type names
abbrev pub named_number : List DeclKey → Term → Option ℕ
named_number keys NoType = None
named_number keys (Predeclared b) = None
named_number keys ErrorType = None
named_number keys (Defined k) = number_of keys k
named_number keys (PointerTo t) = None
named_number keys (StructOf path fs) = None
named_number keys (InterfaceOf path ms) = None

abbrev pub next_unless : Bool → Option ℕ → Option ℕ
next_unless true n = None
next_unless false n = n

-- the type that the type with a number is defined by through its name alone, but for types that reach themselves
abbrev pub next_named : List DeclKey → List Bool → List Entry → ℕ → Option ℕ
next_named keys looped written i = next_unless (slice_index_or looped i false) (named_number keys (term_at written i))

-- the same through stars too
abbrev pub next_bare : List DeclKey → List Bool → List Entry → ℕ → Option ℕ
next_bare keys looped written i = next_unless (slice_index_or looped i false) (named_number keys (base (term_at written i)))

-- no type, or the name of another package's type that is none or is not known
abbrev pub is_lacking : EntryLook → Term → Bool
is_lacking far NoType = true
is_lacking far (Predeclared b) = false
is_lacking far ErrorType = false
is_lacking far (Defined k) = is_no_type (term_in (far k))
is_lacking far (PointerTo t) = false
is_lacking far (StructOf path fs) = false
is_lacking far (InterfaceOf path ms) = false

-- a chain that ends here leads to what is no type
abbrev pub is_bad_end : EntryLook → List Bool → List Entry → ℕ → Bool
is_bad_end far looped written e = slice_index_or looped e false || is_lacking far (base (term_at written e))

abbrev pub is_bad_at : EntryLook → List Bool → List Entry → Option ℕ → Bool
is_bad_at far looped written None = false
is_bad_at far looped written (Some e) = is_bad_end far looped written e

-- whether the type with a number is none, by the ends of chains through names and stars
abbrev pub nothing_at : EntryLook → List Bool → List Entry → List (Option ℕ) → ℕ → Bool
nothing_at far looped written ends i = is_bad_at far looped written (slice_index_or ends i None)

abbrev pub AreNothing : List Entry → EntryLook → List Bool → Type 0
AreNothing written far marks = (i : ℕ) (w : Entry) → slice_get written i ≡ Some w → (slice_index_or marks i false ≡ true) ↔ IsNoTypeHere written far (Defined w.key)

-- the kind of what is defined as another package's type, or by a type that is no name
abbrev pub root_kind : EntryLook → Term → Kind
root_kind far NoType = kinds.Nothing
root_kind far (Predeclared b) = kinds.Other
root_kind far ErrorType = kinds.Interface
root_kind far (Defined k) = kind_of_term (term_in (far k))
root_kind far (PointerTo t) = kinds.Pointer
root_kind far (StructOf path fs) = kinds.Other
root_kind far (InterfaceOf path ms) = kinds.Interface

-- the underlying type of such
abbrev pub root_term : EntryLook → (DeclKey → Kind) → Term → Term
root_term far kind NoType = NoType
root_term far kind (Predeclared b) = Predeclared b
root_term far kind ErrorType = ErrorType
root_term far kind (Defined k) = term_in (far k)
root_term far kind (PointerTo t) = settled kind (PointerTo t)
root_term far kind (StructOf path fs) = settled kind (StructOf path fs)
root_term far kind (InterfaceOf path ms) = settled kind (InterfaceOf path ms)

abbrev pub number_or : ℕ → Option ℕ → ℕ
number_or i None = i
number_or i (Some r) = r

-- the number at which the chain of names from a number ends
abbrev pub root_at : List (Option ℕ) → ℕ → ℕ
root_at ends i = number_or i (slice_index_or ends i None)

abbrev pub kind_unless : Bool → Kind → Kind
kind_unless true k = kinds.Nothing
kind_unless false k = k

abbrev pub term_unless : Bool → Term → Term
term_unless true t = NoType
term_unless false t = t

-- the kind of the type with a number
abbrev pub kind_at : EntryLook → List Bool → List Entry → List (Option ℕ) → ℕ → Kind
kind_at far nothing written ends i = kind_unless (slice_index_or nothing i false) (root_kind far (term_at written (root_at ends i)))

-- the underlying type of the type with a number
abbrev pub under_at : EntryLook → (DeclKey → Kind) → List Bool → List Entry → List (Option ℕ) → ℕ → Term
under_at far kind nothing written ends i = term_unless (slice_index_or nothing i false) (root_term far kind (term_at written (root_at ends i)))

-- the kind of a defined type: by its number, where it is of the package, and else by what another package has of it
abbrev pub kind_by : List Kind → Option ℕ → Option Entry → Kind
kind_by ks None e = kind_of_term (term_in e)
kind_by ks (Some i) e = slice_index_or ks i kinds.Nothing

abbrev pub known_kind : List DeclKey → List Kind → EntryLook → DeclKey → Kind
known_kind keys ks far k = kind_by ks (number_of keys k) (far k)

-- the ends of the chains of names
pub record AreRootEnds (written : List Entry) (looped : List Bool) (ends : List (Option ℕ)) : Type 0 where
  pub next : List (Option ℕ)
  pub table : IsTable next (length written) (next_named (keys_of written) looped written)
  pub ends_are : AreEnds next ends
