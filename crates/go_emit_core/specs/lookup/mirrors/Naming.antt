-- What the code holds of a file, as contracts see it.
use Rattle.std.specs.Prelude.{ℕ}
use Rattle.go_code_core.specs.fragments.Names.{CodeLooks}
use Rattle.go_emit_core.specs.declared.lookup.names.FileCodeNames.{FileCodeNames}
use Rattle.go_emit_core.specs.lookup.Looking.{looks_with}

abbrev pub file_looks : FileCodeNames → ℕ → CodeLooks
file_looks f before = looks_with f.uses f.locals before
