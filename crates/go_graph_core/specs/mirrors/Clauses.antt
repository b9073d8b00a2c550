-- Tests of the package clauses of files.
use Rattle.std.specs.Prelude.{ℕ, List, Bool, true, false, not, Option, Some, None}
use Rattle.std.specs.Str.{bytes_eq}
use Rattle.go_tree_nodes.specs.declared.names.Ident.{Ident}
use Rattle.go_graph_core.specs.Sources.{SourceModel, clause_of}

-- whether there is no clause
abbrev pub has_none : Option Ident → Bool
has_none None = true
has_none (Some id) = false

-- whether the name in a clause is this one
abbrev pub clause_has_name : List ℕ → Option Ident → Bool
clause_has_name name None = false
clause_has_name name (Some id) = bytes_eq id.name name

-- where the name in a clause begins, and 0 without a clause
abbrev pub place_in : Option Ident → ℕ
place_in None = 0
place_in (Some id) = id.span.start

-- the same tests of a file
abbrev pub lacks_clause : SourceModel → Bool
lacks_clause s = has_none (clause_of s)

abbrev pub is_named : List ℕ → SourceModel → Bool
is_named name s = clause_has_name name (clause_of s)

abbrev pub is_other : List ℕ → SourceModel → Bool
is_other name s = not (is_named name s)
