-- Types of which selectors denote the same, since each embeds one type, and these do so or are one.
use Rattle.std.specs.Prelude.{◌≡◌, ℕ, Bool, false, List, Result}
use Rattle.go_path_core.specs.text_core.declared.rule.Rule.{Rule}
use Rattle.go_term_core.specs.Terms.{Term, PointerTo}
use Rattle.go_embed_core.specs.table_core.Entries.{EntryLook}
use Rattle.go_embed_core.specs.Owners.{EmbeddedEdge, Found, owner_in, has_spelled}
use Rattle.go_embed_core.specs.OwnersShown.{IsNamedAt}
use Rattle.go_select_core.specs.declared.levels.search.Selected.{Selected}
use Rattle.go_select_core.specs.levels.Paths.{Step}
use Rattle.go_select_core.specs.levels.Selectors.{IsSelectorAnswer}

-- the only embedded field of a type
pub record IsSole (look : EntryLook) (t : Term) (e : EmbeddedEdge) : Type 0 where
  pub step : Step look t e.position e.pointer e.target
  pub only : (i : ℕ) (p : Bool) (u : Term) → Step look t i p u → (i ≡ e.position) × (p ≡ e.pointer) × (u ≡ e.target)

-- the only embedded field of a type without a member of the name or of its spelling
pub record IsSoleBehind (look : EntryLook) (t : Term) (name from : List ℕ) (e : EmbeddedEdge) : Type 0 where
  pub sole : IsSole look t e
  pub unnamed : (m : ℕ) (f : Found) → IsNamedAt (owner_in look t) name from m f → ⊥
  pub unspelled : has_spelled (owner_in look t) name ≡ false

-- what a name denotes behind an operand of the first type it denotes behind one of the other, and so with pointers to them
pub record HasSameAnswers (look : EntryLook) (t u : Term) (name from : List ℕ) : Type 0 where
  pub plain : (r : Result Selected Rule) → IsSelectorAnswer look t name from r → IsSelectorAnswer look u name from r
  pub starred : (r : Result Selected Rule) → IsSelectorAnswer look (PointerTo t) name from r → IsSelectorAnswer look (PointerTo u) name from r
