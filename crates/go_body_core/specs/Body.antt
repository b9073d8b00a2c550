-- What the check of a function's body gives.
--
-- docs/RULES.md, "Bodies of functions". The Go specification, "Blocks", "Declarations and scope", "Statements".
use Rattle.std.specs.Prelude.{◌≡◌, ℕ, false, List, ◌++◌, Option}
use Rattle.go_tree_nodes.specs.Trees.{FuncTree}
use Rattle.go_term_core.specs.Terms.{Term}
use Rattle.go_local_core.specs.declared.Fault.{Fault}
use Rattle.go_local_core.specs.Binding.{Local}
use Rattle.go_local_core.specs.Law.{Out}
use Rattle.go_local_core.specs.Tables.{walked, out_by_intervals, IsTable}
use Rattle.go_local_core.specs.walks.Ends.{lines_loop_faults}
use Rattle.go_expr_core.specs.Looks.{WrittenRules}
use Rattle.go_declared_core.specs.Faces.{TheFace}
use Rattle.go_env_core.specs.declared.meaning.Meaning.{Meaning}
use Rattle.go_env_core.specs.Scenes.{SceneModel}
use Rattle.go_body_core.specs.Notes.{TheUse, TheLocal, NoteOf, all_uses, noted_faults, all_locals}
use Rattle.go_body_core.specs.Rules.{func_body_rules, outside_in}
use Rattle.go_body_core.specs.Ends.{end_faults}

-- what its occurrences have, in order of their places, its faults, and the locals that it declares
pub record BodyOf : Type 0 where
  pub uses : List TheUse
  pub faults : List Fault
  pub locals : List TheLocal

-- by what comes of its pieces: their uses; their faults, those of the names that they declare, `break` and `continue` outside a `for`, and
-- the end of the function; their locals
abbrev pub body_of : FuncTree → Out Meaning NoteOf → BodyOf
body_of f o = record {
  uses = all_uses o.notes;
  faults = noted_faults o.notes ++ ((o.faults ++ lines_loop_faults false f.body) ++ end_faults (all_uses o.notes) f);
  locals = all_locals o.notes;
}

-- these are what its occurrences have, its faults and its locals, by the notes of its pieces and the faults of the names that they declare
abbrev pub IsBody : FuncTree → List NoteOf → List Fault → List TheUse → List Fault → List TheLocal → Type 0
IsBody f notes names us fs ls =
    (us ≡ all_uses notes) × (fs ≡ noted_faults notes ++ ((names ++ lines_loop_faults false f.body) ++ end_faults (all_uses notes) f)) × (ls ≡ all_locals notes)

-- on the way through the function, with the names that are open
abbrev pub walked_body : SceneModel → ℕ → List (Option TheFace) → WrittenRules Term → FuncTree → BodyOf
walked_body s file known written f = body_of f (walked (func_body_rules s file known written f) (outside_in s file) f)

-- by the regions of its declarations, where these are all of them
abbrev pub given_body : SceneModel → ℕ → List (Option TheFace) → WrittenRules Term → FuncTree → List (Local Meaning) → BodyOf
given_body s file known written f all = body_of f (out_by_intervals (func_body_rules s file known written f) (outside_in s file) f all)

-- a list of the declarations of a function is right where each means what its piece gives under the names as this very list binds them
abbrev pub AreDeclarations : SceneModel → ℕ → List (Option TheFace) → WrittenRules Term → FuncTree → List (Local Meaning) → Type 0
AreDeclarations s file known written f all = IsTable (func_body_rules s file known written f) (outside_in s file) f all

-- what is noted of a function, on the way through it, and by the regions of its declarations, whichever list of them is right
abbrev pub IsWalkedBody : SceneModel → ℕ → List (Option TheFace) → WrittenRules Term → FuncTree → List TheUse → List Fault → List TheLocal → Type 0
IsWalkedBody s file known written f us fs ls =
    (us ≡ (walked_body s file known written f).uses) × (fs ≡ (walked_body s file known written f).faults) × (ls ≡ (walked_body s file known written f).locals)

abbrev pub IsGivenBody : SceneModel → ℕ → List (Option TheFace) → WrittenRules Term → FuncTree → List TheUse → List Fault → List TheLocal → Type 0
IsGivenBody s file known written f us fs ls =
    (all : List (Local Meaning)) → AreDeclarations s file known written f all
    → (us ≡ (given_body s file known written f all).uses) × (fs ≡ (given_body s file known written f all).faults) × (ls ≡ (given_body s file known written f all).locals)
