-- The field of a struct type that is spelled as a name.
--
-- docs/RULES.md, "Composite literals". The Go specification, "Struct types", "Exported identifiers".
use Rattle.std.specs.Prelude.{ℕ, Bool, true, false, List, [], ◌∷◌, if◌then◌else◌}
use Rattle.std.specs.Str.{bytes_eq}
use Rattle.go_denote_core.specs.declared.composite.things.LiteralField.{LiteralField}
use Rattle.go_denote_core.specs.declared.composite.things.NamedField.{NamedField}
use Rattle.go_denote_core.specs.declared.composite.things.NamedField.TheVariants as nameds
use Rattle.go_denote_core.specs.composite.Look.{FieldOf}

abbrev pub shown_field : {T D : Type 0} → Bool → LiteralField T D → NamedField T D
shown_field true field = nameds.Visible field
shown_field false field = nameds.Hidden

-- the first field that is spelled so
abbrev pub named_field : {T D : Type 0} → List (FieldOf T D) → List ℕ → NamedField T D
named_field [] name = nameds.Missing
named_field (f ∷ fs) name = if bytes_eq f.name name then shown_field f.known.is_visible f.known else named_field fs name
