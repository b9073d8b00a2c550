-- What a value of the program holds of an embedded field.
use Rattle.go_term_core.specs.Shapes.{shape}
use Rattle.go_embed_core.specs.Owners.{EmbeddedEdge}
use Rattle.go_select_core.specs.declared.surveys.sole.SoleField.{SoleField}

abbrev pub sole_shown : SoleField → EmbeddedEdge
sole_shown e = record { position = e.position; pointer = e.pointer; target = shape e.target.now }
