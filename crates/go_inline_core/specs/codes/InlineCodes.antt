-- How types by their places are stored, so that a model may hold them.
use Rattle.std.specs.Prelude.{refl, ℕ, List}
use Rattle.std.specs.Coded.{Coded, code_by, coded×, coded_list, coded_ℕ}
use Rattle.go_term_core.specs.Terms.{Term}
use Rattle.go_term_core.specs.codes.TermCodes.{coded_term}
use Rattle.go_names_core.specs.local_core.declared.Fault.{Fault}
use Rattle.go_names_core.specs.local_core.contracts.Fault as fault
use Rattle.go_inline_core.specs.Types.{InlineOf}

-- a type with its faults is stored as the pair of both
abbrev pub coded_inline : Coded InlineOf
coded_inline = code_by (Term × List Fault) (coded× coded_term (coded_list fault.the_row.coded)) (λ i. (i.term, i.faults)) (λ p. record { term = p.0; faults = p.1 }) (λ _. refl)

abbrev pub coded_note : Coded (ℕ × InlineOf)
coded_note = coded× coded_ℕ coded_inline

abbrev pub coded_inlines : Coded (List (ℕ × InlineOf))
coded_inlines = coded_list coded_note
