-- What is left to compare of two files of one name and one text.
use Rattle.std.specs.Prelude.{◌≡◌, ⊤, Result, Ok, Err}
use Rattle.go_tree_nodes.specs.Trees.{FileTree}
use Rattle.go_parse_core.specs.declared.error.SynFault.{SynFault}

-- both contents are trees, or both are one fault
abbrev pub HaveSameFault : Result FileTree SynFault → Result FileTree SynFault → Type 0
HaveSameFault (Ok f) (Ok g) = ⊤
HaveSameFault (Ok f) (Err fault) = ⊥
HaveSameFault (Err fault) (Ok g) = ⊥
HaveSameFault (Err fault) (Err other) = fault ≡ other
