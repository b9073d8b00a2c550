-- Types of which all members of a name are found on the same paths.
use Rattle.std.specs.Prelude.{◌≡◌, ℕ, Bool, List}
use Rattle.go_term_core.specs.Terms.{Term}
use Rattle.go_embed_core.specs.table_core.Entries.{EntryLook}
use Rattle.go_term_core.specs.declared.settling.kind.Kind.TheVariants as kinds
use Rattle.go_embed_core.specs.Owners.{OwnerModel, EmbeddedEdge, Found, owner_in}
use Rattle.go_select_core.specs.levels.Paths.{Hit, IsMemberSpelled}
use Rattle.go_select_core.specs.levels.Selectors.{term_kind_in}
use Rattle.go_select_core.specs.surveys.Sole.{IsSole}

-- the only embedded field of the type that has these members
abbrev pub IsSoleOf : OwnerModel → EmbeddedEdge → Type 0
IsSoleOf o e = (look : EntryLook) (t : Term) → o ≡ owner_in look t → IsSole look t e

-- the members of the name that paths from the first type reach are reached from the other on these paths
pub record Mirrors (look : EntryLook) (name from : List ℕ) (t u : Term) : Type 0 where
  pub hits : (path : List ℕ) (pointer : Bool) (m : ℕ) (f : Found) → Hit look t name from path pointer m f → Hit look u name from path pointer m f
  pub spelled : IsMemberSpelled look t name → IsMemberSpelled look u name

pub record AreAlike (look : EntryLook) (name from : List ℕ) (t u : Term) : Type 0 where
  pub there : Mirrors look name from t u
  pub back : Mirrors look name from u t
  pub plain : term_kind_in look t ≡ kinds.Other → term_kind_in look u ≡ kinds.Other
