-- Laws of the types of a package.
use Rattle.std.specs.Prelude.{◌≡◌, ◌⊎◌, List, [], ◌∷◌, ◌++◌, Option, Some, None, Contains}
use Rattle.go_term_core.specs.decl_core.declared.keys.DeclKey.{DeclKey}
use Rattle.go_term_core.specs.Terms.{NoType, Defined, term_keys}
use Rattle.go_term_core.specs.declared.settling.kind.Kind.{Kind}
use Rattle.go_term_core.specs.settling.Settled.{kind_of_term, settled}
use Rattle.go_table_core.specs.Entries.{Entry, EntryLook, find_entry, term_in, underlying_in, entry_keys}
use Rattle.go_type_core.specs.declared.build.TypeFault.{TypeFault}
use Rattle.go_type_core.specs.Built.{IsLooped, IsBuilt}

-- what is written of a package, over the same of other packages, has one list of types and of faults
abbrev pub OneSettled : Type 0
OneSettled =
    (far : EntryLook) (written one other : List Entry) (faults others : List TypeFault) → IsBuilt far written one faults → IsBuilt far written other others
    → (one ≡ other) × (faults ≡ others)

-- what is known of a package's own types, and of others
abbrev pub or_far : Option Entry → Option Entry → Option Entry
or_far None o = o
or_far (Some e) o = Some e

abbrev pub together : List Entry → EntryLook → EntryLook
together types far k = or_far (find_entry types k) (far k)

-- the kind of a defined type, by what is known of it
abbrev pub kind_in : EntryLook → DeclKey → Kind
kind_in look k = kind_of_term (term_in (look k))

-- the underlying type of a declared type is that of the type by which it is defined; a type that reaches itself has none
pub record UnderlyingAsDefined : Type 0 where
  pub defined : (far : EntryLook) (written types : List Entry) (faults : List TypeFault) → IsBuilt far written types faults
      → (k : DeclKey) (w : Entry) → find_entry written k ≡ Some w → (IsLooped written k → ⊥)
      → underlying_in (together types far) (Defined k) ≡ underlying_in (together types far) (settled (kind_in (together types far)) w.term)
  pub looped : (far : EntryLook) (written types : List Entry) (faults : List TypeFault) → IsBuilt far written types faults
      → (k : DeclKey) → IsLooped written k → underlying_in (together types far) (Defined k) ≡ NoType

-- the defined types that the declarations of a package mention
abbrev pub written_keys : List Entry → List DeclKey
written_keys [] = []
written_keys (w ∷ ws) = entry_keys w ++ written_keys ws

-- the same is known of the other packages' types that are mentioned
abbrev pub AgreeOutside : List Entry → EntryLook → EntryLook → Type 0
AgreeOutside written far other = (k : DeclKey) → Contains (written_keys written) k → find_entry written k ≡ None → far k ≡ other k

-- what the types of a package are depends, of other packages, on the types that its declarations mention alone
abbrev pub BuildingIsLocal : Type 0
BuildingIsLocal =
    (far other : EntryLook) (written types : List Entry) (faults : List TypeFault) → AgreeOutside written far other → IsBuilt far written types faults → IsBuilt other written types faults

-- the underlying type of another package's type that the declarations of a package mention, mentions it
abbrev pub FarMentions : EntryLook → List Entry → DeclKey → Type 0
FarMentions far written j = (k : DeclKey) × (e : Entry) × Contains (written_keys written) k × (far k ≡ Some e) × Contains (term_keys e.term) j

-- the types of a package mention what its declarations do, and what underlying types of other packages' types do that these mention
abbrev pub BuiltMentionsWritten : Type 0
BuiltMentionsWritten =
    (far : EntryLook) (written types : List Entry) (faults : List TypeFault) → IsBuilt far written types faults → (e : Entry) → Contains types e → (j : DeclKey) → Contains (entry_keys e) j
    → Contains (written_keys written) j ⊎ FarMentions far written j
