-- What a table of declarations holds.
use Rattle.std.specs.Prelude.{◌≡◌, ℕ, Bool, List, Option}
use Rattle.std.specs.List.{position_from}
use Rattle.std.specs.Map.{lookup}
use Rattle.std.specs.HashMap.{HashMap}
use Rattle.go_code_core.specs.declared.fragments.names.Meaning.{Meaning}
use Rattle.go_emit_core.specs.declared.lookup.decl_table.DeclSpot.{DeclSpot}
use Rattle.go_emit_core.specs.declared.lookup.decl_table.SpottedDecl.{SpottedDecl}
use Rattle.go_emit_core.specs.lookup.Places.{DeclSpotModel, same_spot}

abbrev pub spot_shown : DeclSpot → DeclSpotModel
spot_shown k = record { path = k.path.now; file = k.file; number = k.number }

abbrev pub item_shown : SpottedDecl → DeclSpotModel × Meaning
item_shown i = (spot_shown i.spot, i.meaning)

abbrev pub same_key : DeclSpot → DeclSpot → Bool
same_key a b = same_spot (spot_shown a) (spot_shown b)

abbrev pub number_of : List SpottedDecl → DeclSpot → Option ℕ
number_of items k = position_from (λ i. same_key k i.spot) 0 items

abbrev pub IsNumbered : {S : Type 0} → HashMap DeclSpot ℕ S → List SpottedDecl → Type 0
IsNumbered numbers items = (k : DeclSpot) → lookup (same_key k) numbers.entries ≡ number_of items k
