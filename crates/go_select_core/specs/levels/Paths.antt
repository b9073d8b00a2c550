-- Paths of embedded fields of every length, and what they lead to: the Go specification, "Selectors".
use Rattle.std.specs.Prelude.{◌≡◌, ◌<◌, ◌⊎◌, ℕ, Bool, false, ◌||◌, List, [], ◌∷◌, length, Contains, IsTrue}
use Rattle.go_term_core.specs.Terms.{Term}
use Rattle.go_embed_core.specs.table_core.Entries.{EntryLook}
use Rattle.go_embed_core.specs.Owners.{EmbeddedEdge, owner_in, embedded_in, Found, has_spelled}
use Rattle.go_embed_core.specs.OwnersShown.{IsNamedAt}

-- the embedded field at place i of t leads to u, with a star or without
unfoldable pub Step : EntryLook → Term → ℕ → Bool → Term → Type 0
Step look t i pointer u = (e : EmbeddedEdge) × Contains (embedded_in (owner_in look t)) e × (e.position ≡ i) × (e.pointer ≡ pointer) × (e.target ≡ u)

-- the path leads from t to u; whether a field on it has a star
abbrev pub FieldsLead : EntryLook → Term → List ℕ → Bool → Term → Type 0
FieldsLead look t [] pointer u = (t ≡ u) × (pointer ≡ false)
FieldsLead look t (i ∷ path) pointer u =
    (v : Term) × (first : Bool) × (rest : Bool) × Step look t i first v × FieldsLead look v path rest u × (pointer ≡ first || rest)

-- a member that the identifier names, of the type to which a path leads; the member is known by its number among those of its type
pub record Hit (look : EntryLook) (t : Term) (name from : List ℕ) (path : List ℕ) (pointer : Bool) (number : ℕ) (f : Found) : Type 0 where
  pub at : Term
  pub leads : FieldsLead look t path pointer at
  pub has : IsNamedAt (owner_in look at) name from number f

abbrev pub HasHit : EntryLook → Term → List ℕ → List ℕ → Type 0
HasHit look t name from = (path : List ℕ) × (pointer : Bool) × (number : ℕ) × (f : Found) × Hit look t name from path pointer number f

-- the hit whose path is shorter than that of every other
pub record IsSelected (look : EntryLook) (t : Term) (name from : List ℕ) (path : List ℕ) (pointer : Bool) (f : Found) : Type 0 where
  pub number : ℕ
  pub hit : Hit look t name from path pointer number f
  pub shortest : (q : List ℕ) (p : Bool) (m : ℕ) (g : Found) → Hit look t name from q p m g → ((q ≡ path) × (m ≡ number)) ⊎ (length path < length q)

-- there are hits, and none is selected
pub record IsAmbiguous (look : EntryLook) (t : Term) (name from : List ℕ) : Type 0 where
  pub some : HasHit look t name from
  pub none : (path : List ℕ) (pointer : Bool) (f : Found) → IsSelected look t name from path pointer f → ⊥

-- some path leads to a type with a member that is spelled so
abbrev pub IsMemberSpelled : EntryLook → Term → List ℕ → Type 0
IsMemberSpelled look t name = (path : List ℕ) × (pointer : Bool) × (at : Term) × FieldsLead look t path pointer at × IsTrue (has_spelled (owner_in look at) name)
