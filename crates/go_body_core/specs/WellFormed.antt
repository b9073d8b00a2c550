-- The pieces of a function of the grammar are of the grammar.
use Rattle.std.specs.Prelude.{Bool, true}
use Rattle.go_tree_nodes.specs.Trees.{FuncTree}
use Rattle.go_tree_nodes.specs.Rules.{Wf, Wf_signature, Wf_value_spec, Wf_simple, Wf_some_exprs, Wf_lines}
use Rattle.go_local_core.specs.Steps.{Piece, Header, Spec, Act, Condition, Given}
use Rattle.go_local_core.specs.Outline.{func_steps}
use Rattle.go_body_core.specs.Pieces.{AllPieces}

-- a piece of the grammar: a statement may stand in a header, where no literal does
abbrev pub IsOfGrammar : Piece → Type 0
IsOfGrammar (Header r g) = Wf_signature g
IsOfGrammar (Spec k v) = Wf_value_spec k v
IsOfGrammar (Act s) = (header : Bool) × Wf_simple header s
IsOfGrammar (Condition t) = Wf true t
IsOfGrammar (Given place es) = Wf_some_exprs es

abbrev pub IsFuncOfGrammar : FuncTree → Type 0
IsFuncOfGrammar f = Wf_signature f.signature × Wf_lines f.body

abbrev pub PiecesAreOfGrammar : Type 0
PiecesAreOfGrammar = (f : FuncTree) → IsFuncOfGrammar f → AllPieces IsOfGrammar (func_steps f)
