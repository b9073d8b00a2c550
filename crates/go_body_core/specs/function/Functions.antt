-- What the occurrences of a function have, its faults and its locals, with the types that it writes: by what names mean where they stand, and
-- nothing else.
--
-- docs/RULES.md, "Bodies of functions", "Types inside functions". The Go specification, "Blocks", "Declarations and scope", "Types", "Statements".
use Rattle.std.specs.Prelude.{Bool, List, Option}
use Rattle.go_tree_nodes.specs.Trees.{FuncTree}
use Rattle.go_term_core.specs.Terms.{Term}
use Rattle.go_local_core.specs.Binding.{Local}
use Rattle.go_local_core.specs.Law.{Rules, Out}
use Rattle.go_local_core.specs.Tables.{walked, out_by_intervals, IsTable}
use Rattle.go_stmt_core.specs.piece.Headers.{returned_types, returned_names}
use Rattle.go_env_core.specs.declared.meaning.Meaning.{Meaning}
use Rattle.go_body_core.specs.Notes.{NoteOf}
use Rattle.go_body_core.specs.Rules.{rules_by}
use Rattle.go_body_core.specs.Body.{BodyOf, body_of}
use Rattle.go_body_core.specs.function.Stands.{FileStand, looks_where, outer_meanings, outer_looks}

-- the rules of a function's pieces, by the types of its results, and whether these have names: of a piece its uses, its faults and the locals that
-- it declares are noted, and a name that it declares is a local, by the offset of its identifier, which stands for its value
abbrev pub own_rules : FileStand → List (Option Term) → Bool → Rules Meaning NoteOf
own_rules st = rules_by (looks_where st)

-- those of a function: its results are those of its header, whose types are written outside it
abbrev pub func_rules : FileStand → FuncTree → Rules Meaning NoteOf
func_rules st f = own_rules st (returned_types (outer_looks st) f.signature) (returned_names f.signature)

-- what comes of a function on the way through it
abbrev pub walked_func : FileStand → FuncTree → Out Meaning NoteOf
walked_func st f = walked (func_rules st f) (outer_meanings st) f

-- what the occurrences of a function have, in order of their places, its faults, and the locals that it declares: on the way through it, with the
-- names that are open
abbrev pub checked_func : FileStand → FuncTree → BodyOf
checked_func st f = body_of f (walked_func st f)

-- by the regions of its declarations, where these are all of them
abbrev pub func_by : FileStand → FuncTree → List (Local Meaning) → BodyOf
func_by st f all = body_of f (out_by_intervals (func_rules st f) (outer_meanings st) f all)

-- a list of the declarations of a function is right where each means what its piece gives under the names as this very list binds them
abbrev pub AreFuncDeclarations : FileStand → FuncTree → List (Local Meaning) → Type 0
AreFuncDeclarations st f all = IsTable (func_rules st f) (outer_meanings st) f all
