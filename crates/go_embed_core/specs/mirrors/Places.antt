-- Where the members of a list stand that an identifier names, by where its name stands among theirs.
use Rattle.std.specs.Prelude.{ℕ, Bool, Option, Some, None, if◌then◌else◌}
use Rattle.go_collections_core.specs.declared.spelling_index.spellings.Spelling.{Spelling}
use Rattle.go_embed_core.specs.declared.indexed.Place.{Place}
use Rattle.go_embed_core.specs.declared.indexed.Place.TheVariants as places
use Rattle.go_embed_core.specs.Owners.{Found}
use Rattle.go_embed_core.specs.mirrors.Tallies.{Tally, NoHit, OneHit, ManyHits}

-- of a name that stands there, alone or not
abbrev pub spelled_place : Spelling → Place
spelled_place s = if s.is_repeated then places.More else places.One s.first

-- of a name that may stand there; the same says whether the identifier, as it is spelled, names a member of the list's package
abbrev pub place_found : Bool → Option Spelling → Place
place_found same None = places.Nothing
place_found same (Some s) = if same then spelled_place s else places.Nothing

abbrev pub hit_found : Option Found → Tally
hit_found None = NoHit
hit_found (Some f) = OneHit f

-- what a place counts, by what stands at each number
abbrev pub tally_at : Place → (ℕ → Option Found) → Tally
tally_at places.Nothing get = NoHit
tally_at (places.One at) get = hit_found (get at)
tally_at places.More get = ManyHits
