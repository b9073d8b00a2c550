-- What is said of a fault of the grammar.
use Rattle.std.specs.Prelude.{ℕ, Bool, Option, None, Some}
use Rattle.go_tree_nodes.specs.token_core.declared.token.Token.{Token}
use Rattle.go_recovery_core.specs.declared.mend.outcome.Mend.{Mend}
use Rattle.go_recovery_core.specs.declared.mend.outcome.Told.{Told}
use Rattle.go_recovery_core.specs.declared.mend.outcome.Told.TheVariants as tolds

-- what is told, with what stands at the place
abbrev pub mend_of : ℕ → Option Token → Option ℕ → Bool → Told → Mend
mend_of at met bracket too_high (tolds.Form form) = record { at = at; met = met; mending = None; form = Some form; foreign = None; «open» = bracket; too_high = too_high }
mend_of at met bracket too_high (tolds.Foreign word) = record { at = at; met = met; mending = None; form = None; foreign = Some word; «open» = bracket; too_high = too_high }
mend_of at met bracket too_high (tolds.Mending mending) = record { at = at; met = met; mending = Some mending; form = None; foreign = None; «open» = bracket; too_high = too_high }
mend_of at met bracket too_high tolds.Nothing = record { at = at; met = met; mending = None; form = None; foreign = None; «open» = bracket; too_high = too_high }
