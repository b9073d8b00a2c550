-- What values of the program hold of the members of types.
use Rattle.std.specs.Prelude.{◌≡◌, ℕ, List, [], Some, slice_get, codes}
use Rattle.go_collections_core.specs.text_core.Text.{SameId}
use Rattle.go_term_core.specs.Terms.{NoType}
use Rattle.go_term_core.specs.Shapes.{shape, sign_of}
use Rattle.go_type_core.specs.table_core.Entries.{Entry}
use Rattle.go_type_core.specs.table_core.Shown.{line_shown}
use Rattle.go_embed_core.specs.declared.owner.Owner.{Owner}
use Rattle.go_embed_core.specs.declared.owner.Source.{Source}
use Rattle.go_embed_core.specs.declared.owner.Source.TheVariants as sources
use Rattle.go_embed_core.specs.declared.owner.Embedded.{Embedded}
use Rattle.go_embed_core.specs.declared.member.Hits.{Hits}
use Rattle.go_embed_core.specs.declared.member.Hits.TheVariants as hits
use Rattle.go_embed_core.specs.declared.member.Member.{Member}
use Rattle.go_embed_core.specs.declared.member.Member.TheVariants as members
use Rattle.go_embed_core.specs.Owners.{OwnerModel, EmbeddedEdge, Found, AFieldOf, AMethodOf, AnInterfaces, TheErrorMethod, Named, members_of}

-- a defined type of a table
abbrev pub entry_owner : Entry → OwnerModel
entry_owner e = record { path = e.key.path; methods = e.methods; underlying = e.term }

-- a defined type of a table, one that the table has not, and any other type, which is its own underlying type
abbrev pub source_shown : Source → OwnerModel
source_shown (sources.Entry d) = entry_owner d.now
source_shown (sources.Missing path) = record { path = path.now; methods = []; underlying = NoType }
source_shown (sources.Plain t) = record { path = []; methods = []; underlying = shape t.now }

abbrev pub owner_shown : Owner → OwnerModel
owner_shown o = source_shown o.source

abbrev pub embedded_shown : Embedded → EmbeddedEdge
embedded_shown e = record { position = e.position; pointer = e.pointer; target = shape e.target.now }

abbrev pub found_shown : Member → Found
found_shown (members.Field path f) = AFieldOf path.now f.field.now.place (line_shown f.line).term
found_shown (members.Method path m) = AMethodOf path.now m.now.place m.now.pointer (sign_of m.now.signature)
found_shown (members.InterfaceMethod path m) = AnInterfaces path.now m.now.place (sign_of m.now.signature)
found_shown members.ErrorMethod = TheErrorMethod

-- its name, and the path of the package where the name is written
abbrev pub name_shown : Member → List ℕ
name_shown (members.Field path f) = f.field.now.name
name_shown (members.Method path m) = m.now.name
name_shown (members.InterfaceMethod path m) = m.now.name
name_shown members.ErrorMethod = codes "Error"

abbrev pub member_package_shown : Member → List ℕ
member_package_shown (members.Field path f) = path.now
member_package_shown (members.Method path m) = path.now
member_package_shown (members.InterfaceMethod path m) = path.now
member_package_shown members.ErrorMethod = []

abbrev pub named_shown : Member → Named
named_shown m = (name_shown m, (member_package_shown m, found_shown m))

-- a member that an identifier names: at one place of the list
abbrev pub IsNamedAt : OwnerModel → List ℕ → List ℕ → ℕ → Found → Type 0
IsNamedAt o name from i f = (n : Named) × (slice_get (members_of o) i ≡ Some n) × SameId n.0 n.1.0 name from × (n.1.1 ≡ f)

-- the members that an identifier names: none, one alone, or two at different places
abbrev pub AreHits : OwnerModel → List ℕ → List ℕ → Hits → Type 0
AreHits o name from hits.Nothing = (i : ℕ) (f : Found) → IsNamedAt o name from i f → ⊥
AreHits o name from (hits.One m) = (i : ℕ) × IsNamedAt o name from i (found_shown m) × ((j : ℕ) (f : Found) → IsNamedAt o name from j f → i ≡ j)
AreHits o name from hits.More = (i : ℕ) × (f : Found) × IsNamedAt o name from i f × ((j : ℕ) × (g : Found) × IsNamedAt o name from j g × (i ≡ j → ⊥))
