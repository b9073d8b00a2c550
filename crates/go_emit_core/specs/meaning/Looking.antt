-- What code asks of the names of a file.
use Rattle.std.specs.Prelude.{ℕ, List, map}
use Rattle.go_table_core.specs.Entries.{Entry}
use Rattle.go_package_core.specs.body_core.Notes.{TheUse, TheLocal}
use Rattle.go_code_core.specs.declared.fragments.names.Meaning.{Meaning}
use Rattle.go_code_core.specs.fragments.Names.{CodeLooks}
use Rattle.go_emit_core.specs.meaning.Meanings.{local_meaning}
use Rattle.go_emit_core.specs.lookup.Looking.{looks_with}
use Rattle.go_emit_core.specs.meaning.Scenes.{CodeScene, outcome_meaning}

-- the locals of a file
abbrev pub locals_meant : List Entry → List TheLocal → List (ℕ × Meaning)
locals_meant es locals = map (λ l. (l.offset, local_meaning es l.offset l.value)) locals

-- the occurrences of the file of a number, with these locals
abbrev pub uses_meant : CodeScene → ℕ → List (ℕ × Meaning) → List TheUse → List (ℕ × Meaning)
uses_meant s file locals uses = map (λ u. (u.offset, outcome_meaning s file locals u.outcome)) uses

-- the answers to what code asks, in the file of a number whose occurrences have this and whose functions declare these locals, of a function with so
-- many occurrences of the file before its body
abbrev pub looks_of : CodeScene → ℕ → List TheUse → List TheLocal → ℕ → CodeLooks
looks_of s file uses locals before = looks_with (uses_meant s file (locals_meant s.types locals) uses) (locals_meant s.types locals) before
