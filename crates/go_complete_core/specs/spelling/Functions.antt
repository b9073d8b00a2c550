-- A function of a file in which one identifier is spelled anew.
--
-- docs/RULES.md, "Bodies of functions", "Types inside functions", "Occurrences". The Go specification, "Blocks", "Declarations and scope".
use Rattle.std.specs.Prelude.{ℕ, List, []}
use Rattle.go_tree_nodes.specs.declared.names.Ident.{Ident}
use Rattle.go_tree_nodes.specs.Trees.{FuncTree}
use Rattle.go_names_core.specs.local_core.Binding.{NameLook}
use Rattle.go_names_core.specs.local_core.Outline.{func_steps}
use Rattle.go_names_core.specs.local_core.Tables.{walked}
use Rattle.go_term_core.specs.Terms.{Term, Sign}
use Rattle.go_candidate_core.specs.handle_core.Declarations.{Declaration}
use Rattle.go_stmt_core.specs.expr_core.Uses.{Spot}
use Rattle.go_package_core.specs.env_core.declared.meaning.Meaning.{Meaning}
use Rattle.go_package_core.specs.body_core.Rules.{local_at}
use Rattle.go_package_core.specs.body_core.FunctionStands.{FileStand, looks_where, outer_meanings}
use Rattle.go_package_core.specs.body_core.FunctionFunctions.{checked_func}
use Rattle.go_complete_core.specs.spelling.Contexts.{ContextStays}
use Rattle.go_complete_core.specs.spelling.PieceContexts.{use_rules, spot_rules, names_there}
use Rattle.go_complete_core.specs.spelling.Trees.{RespellsSteps, RespellsFunc}

-- an identifier in its context, or a call with what it has
abbrev pub TheSpot : Type 0
TheSpot = Spot Term Declaration (List ℕ)

-- the identifiers of a function in their contexts, and its calls, in order of their places: on the way through it, with the names that are open
abbrev pub func_spots : FileStand → FuncTree → List TheSpot
func_spots st f = (walked (spot_rules (looks_where st) local_at) (outer_meanings st) f).notes

-- what names mean in front of the piece of the identifier, on the way through the function
abbrev pub names_before : (st : FileStand) (x : Ident) (name : List ℕ) (f g : FuncTree) → RespellsSteps x name (func_steps f) (func_steps g) → NameLook Meaning
names_before st x name f g r = names_there x name (use_rules (looks_where st) local_at) (outer_meanings st) [] [] (func_steps f) (func_steps g) r

-- the identifier stands in a context in the function, and under its new spelling it has what this context's rule gives for that, where names mean what
-- they mean in front of its piece
pub record FuncStays (st : FileStand) (x : Ident) (name : List ℕ) (f g : FuncTree) : Type 0 where
  pub respells : RespellsSteps x name (func_steps f) (func_steps g)
  pub stays : ContextStays Term Sign Declaration (List ℕ) (looks_where st (names_before st x name f g respells)) x name (func_spots st f) (checked_func st g).uses

-- bodies do not count for what is known of a package: so the function is checked at the same stand, before and after
abbrev pub CheckedFunctionsStay : Type 0
CheckedFunctionsStay = (st : FileStand) (x : Ident) (name : List ℕ) (f g : FuncTree) → RespellsFunc x name f g → FuncStays st x name f g
