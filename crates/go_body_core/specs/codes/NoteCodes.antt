-- How what is noted of a piece is stored, so that a model may hold it.
use Rattle.std.specs.Prelude.{◌≡◌, refl, ℕ, List, Option}
use Rattle.std.specs.Coded.{Coded, code_by, coded×, coded_option, coded_ℕ}
use Rattle.go_declared_core.specs.codes.FaceCodes.{coded_operand}
use Rattle.go_body_core.specs.Notes.{TheLocal, TheValue}

abbrev pub coded_local : Coded TheLocal
coded_local = code_by (ℕ × TheValue) (coded× coded_ℕ (coded_option coded_operand)) (λ l. (l.offset, l.value)) (λ p. record { offset = p.0; value = p.1 }) (λ _. refl)
