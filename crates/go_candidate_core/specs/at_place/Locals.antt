-- The locals that are open at a place, with what they mean.
use Rattle.std.specs.Prelude.{ℕ, List}
use Rattle.std.specs.Option.{option_map}
use Rattle.go_summary_core.specs.declared_core.Faces.{operand_shown}
use Rattle.go_body_core.specs.env_core.declared.meaning.Meaning.{Meaning}
use Rattle.go_body_core.specs.env_core.declared.meaning.Meaning.TheVariants as meanings
use Rattle.go_candidate_core.specs.declared.at_place.local.OpenLocal.{OpenLocal}

abbrev pub meaning_shown : OpenLocal → Meaning
meaning_shown l = meanings.Local l.offset (option_map operand_shown l.value.now)

abbrev pub local_shown : OpenLocal → List ℕ × Meaning
local_shown l = (l.name, meaning_shown l)
