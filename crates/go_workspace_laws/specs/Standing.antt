-- Where the pieces of a part's functions stand, and what they judge.
--
-- docs/RULES.md, "Files and packages", "Bodies of functions", "Expressions: roles, order, faults of parts". The Go specification, "Packages",
-- "Declarations and scope", "Statements".
use Rattle.std.specs.Prelude.{ℕ, List, [], ◌∷◌, ◌++◌, Option, Some, None, if◌then◌else◌}
use Rattle.go_path_core.specs.text_core.declared.span.Span.{Span}
use Rattle.go_tree_nodes.specs.Trees.{Separated, One, Then, FileTree, FuncTree, ExprTree, SimpleTree, Alone, Step, Assign, Update, Define}
use Rattle.go_names_core.specs.local_core.Binding.{Local, bound}
use Rattle.go_names_core.specs.local_core.Outline.{func_steps}
use Rattle.go_names_core.specs.local_core.Steps.{Piece, Header, Spec, Act, Condition, Given, Steps, Done, Check, Declare, Inner}
use Rattle.go_names_core.specs.local_core.WalksEnds.{is_blank_target}
use Rattle.go_body_core.specs.env_core.declared.meaning.Meaning.{Meaning}
use Rattle.go_body_core.specs.env_core.Looks.{TheLooks}
use Rattle.go_body_core.specs.function.Stands.{FileStand, looks_where, outer_meanings}
use Rattle.go_snap_core.specs.value_core.Initial.{exprs}
use Rattle.go_report_core.specs.summary_core.Views.{types_told}
use Rattle.go_emit_core.specs.package_core.Checked.{stand_at}
use Rattle.go_emit_core.specs.package_core.PackagePartInputs.{InputModel}
use Rattle.go_emit_core.specs.package_core.PackagePartParts.{ContentOf, package_seen, seen_by}
use Rattle.go_emit_core.specs.Emitted.{told_to}

-- where the file of a number and a tree is checked: in its package, as its input and its blocks show it, over the types that the packages tell which it
-- reaches and its own, with what its declarations are
abbrev pub stand_in_part : InputModel → ContentOf → ℕ → FileTree → FileStand
stand_in_part i c n t = stand_at (package_seen i c.blocks (seen_by i)) (types_told (told_to i c)) c.declared (n, t)

-- all that a piece of a function is judged by that stands there, where these are the function's declarations: each name means what it is bound to where
-- it stands
abbrev pub looks_among : FileStand → List (Local Meaning) → TheLooks
looks_among st all = looks_where st (bound (outer_meanings st) all)

-- the pieces of a function: its header, specifications, simple statements, conditions, and what is returned
abbrev pub pieces_in : Steps → List Piece
pieces_in Done = []
pieces_in (Check p rest) = p ∷ pieces_in rest
pieces_in (Declare m from p xs rest) = p ∷ pieces_in rest
pieces_in (Inner o c steps rest) = pieces_in steps ++ pieces_in rest

abbrev pub pieces_of : FuncTree → List Piece
pieces_of g = pieces_in (func_steps g)

-- the expressions that a piece judges as operands; those in them stand at places of their own

abbrev pub some_listed : Option (Separated ExprTree) → List ExprTree
some_listed None = []
some_listed (Some es) = exprs es

-- `_` left of `=` is no operand
abbrev pub target_listed : ExprTree → List ExprTree
target_listed e = if is_blank_target e then [] else e ∷ []

abbrev pub targets_listed : Separated ExprTree → List ExprTree
targets_listed (One e) = target_listed e
targets_listed (Then e comma more) = target_listed e ++ targets_listed more

abbrev pub values_listed : Option (Span × Separated ExprTree) → List ExprTree
values_listed None = []
values_listed (Some v) = exprs v.1

abbrev pub simple_exprs : SimpleTree → List ExprTree
simple_exprs (Alone e) = e ∷ []
simple_exprs (Step e op span) = e ∷ []
simple_exprs (Assign ts span es) = targets_listed ts ++ exprs es
simple_exprs (Update e op span v) = e ∷ (v ∷ [])
simple_exprs (Define xs span es) = exprs es

abbrev pub piece_exprs : Piece → List ExprTree
piece_exprs (Header r s) = []
piece_exprs (Spec kind v) = values_listed v.values
piece_exprs (Act s) = simple_exprs s
piece_exprs (Condition e) = e ∷ []
piece_exprs (Given place es) = some_listed es
