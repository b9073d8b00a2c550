-- Texts that fit, as contracts of private functions see them.
use Rattle.std.specs.Prelude.{ℕ, List, string_bytes}
use Rattle.go_diagnostic_core.specs.declared.suggesting.Fitting.{Fitting}

abbrev pub fitting_text : Fitting → List ℕ
fitting_text f = string_bytes f.text
