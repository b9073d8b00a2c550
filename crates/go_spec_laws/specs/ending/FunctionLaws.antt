-- A function has a fault at its end exactly where its results want a terminating statement that it lacks.
--
-- docs/RULES.md, "Bodies of functions". The Go specification, "Function declarations", "Terminating statements", "Handling panics".
use Rattle.std.specs.Prelude.{◌≡◌, ◌↔◌, List, [], ◌∷◌, IsTrue, Contains}
use Rattle.go_tree_nodes.specs.Trees.{ExprTree, FuncTree}
use Rattle.go_local_core.specs.Law.{Out}
use Rattle.go_local_core.specs.declared.Fault.{Fault}
use Rattle.go_body_core.specs.Body.{body_of}
use Rattle.go_body_core.specs.Ends.{panics_at, calls_one, end_faults}
use Rattle.go_body_core.specs.env_core.declared.meaning.Meaning.{Meaning}
use Rattle.go_body_core.specs.Notes.{TheUse, NoteOf}
use Rattle.go_spec_laws.specs.ending.Functions.{IsPanicCall, LacksReturn, lack_at, IsFaultOf}

-- By what the occurrences of a function have, exactly the calls of `panic` are taken for such; and its end has one fault, at the closing brace, where
-- it declares results and does not end in a terminating statement, and none where not.
pub record LackedReturnsAreFaults : Type 0 where
  pub calls : (uses : List TheUse) (t : ExprTree) → IsTrue (calls_one (panics_at uses) t) ↔ IsPanicCall uses t
  pub fault : (uses : List TheUse) (f : FuncTree) → LacksReturn uses f → end_faults uses f ≡ lack_at f.close_brace ∷ []
  pub none : (uses : List TheUse) (f : FuncTree) → ¬ LacksReturn uses f → end_faults uses f ≡ []

-- the faults of a function are exactly these: those of its pieces and of the names that these declare, of each `break` and `continue` that no `for` is
-- around, and of its end where it lacks a return
abbrev pub FunctionsHaveTheirFaults : Type 0
FunctionsHaveTheirFaults = (f : FuncTree) (o : Out Meaning NoteOf) (fault : Fault) → Contains (body_of f o).faults fault ↔ IsFaultOf f o fault
