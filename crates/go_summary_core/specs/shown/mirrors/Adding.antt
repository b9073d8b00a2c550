-- Lists that grow.
use Rattle.std.specs.Prelude.{◌≡◌, ◌++◌, List}
use Rattle.go_summary_core.specs.shown.Shown.{Picks}

-- those of some items that P holds of are added
abbrev pub AddsPicked : {A : Type 0} → (A → Type 0) → List A → List A → List A → Type 0
AddsPicked {A} P xs old new = (more : List A) × (new ≡ old ++ more) × Picks P xs more
