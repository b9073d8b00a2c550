-- The fault for which the parser stops.
use Rattle.std.specs.Prelude.{◌≡◌, ◌≤◌, ℕ}
use Rattle.go_tree_nodes.specs.text_core.declared.rule.Rule.TheVariants.{P1, P2}
use Rattle.go_parse_core.specs.declared.error.ParseError.{ParseError}
use Rattle.go_parse_core.specs.declared.error.ParseError.TheVariants as errors
use Rattle.go_parse_reader.specs.declared.types.stop.Stop.{Stop}
use Rattle.go_parse_reader.specs.declared.types.stop.Stop.TheVariants as stop

-- the fault for which the parser stops; its place lies in a text of that length
abbrev pub IsErrorOf : ParseError → Stop → ℕ → Type 0
IsErrorOf errors.Memory stop.Memory len = Unit {0}
IsErrorOf (errors.Fault fault) (stop.Grammar at) len = (fault.rule ≡ P1) × (fault.offset ≤ len)
IsErrorOf (errors.Fault fault) (stop.TooHigh at) len = (fault.rule ≡ P2) × (fault.offset ≤ len)
IsErrorOf _ _ len = ⊥
