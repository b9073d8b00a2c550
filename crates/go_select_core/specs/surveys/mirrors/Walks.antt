-- What is known of identifiers once all paths are gone through.
use Rattle.std.specs.Prelude.{◌≡◌, ℕ, List, [], length, get_or, Option, Some, None}
use Rattle.go_term_core.specs.Terms.{Term}
use Rattle.go_embed_core.specs.table_core.Entries.{EntryLook}
use Rattle.go_embed_core.specs.OwnersShown.{found_shown}
use Rattle.go_select_core.specs.declared.levels.level.Reached.{Reached}
use Rattle.go_select_core.specs.levels.Paths.{HasHit, IsSelected, IsAmbiguous}
use Rattle.go_select_core.specs.levels.mirrors.Ways.{At}
use Rattle.go_select_core.specs.declared.names.Known.{Known}
use Rattle.go_select_core.specs.declared.names.Known.TheVariants.{One, More}
use Rattle.go_select_core.specs.mirrors.Names.{Identifier, identifier_of, known_of}

-- it tells what a name denotes, or why it denotes nothing
abbrev pub IsDenotedSo : EntryLook → Term → List ℕ → List ℕ → List (List ℕ) → List Reached → Option Known → Type 0
IsDenotedSo look t name from paths types None = HasHit look t name from → ⊥
IsDenotedSo look t name from paths types (Some (One n m)) = (r : Reached) × At types n r × IsSelected look t name from (get_or paths n []) r.pointer (found_shown m)
IsDenotedSo look t name from paths types (Some More) = IsAmbiguous look t name from

pub record AreDenoted (look : EntryLook) (t : Term) (paths : List (List ℕ)) (types : List Reached) (ns : List (Identifier × Known)) : Type 0 where
  pub sized : length paths ≡ length types
  pub each : (name from : List ℕ) → IsDenotedSo look t name from paths types (known_of ns (identifier_of name from))
