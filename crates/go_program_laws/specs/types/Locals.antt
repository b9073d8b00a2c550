-- A variable is over what its declaration gives it.
--
-- docs/RULES.md, "Bodies of functions", "Stack code". The Go specification, "Variable declarations", "Short variable declarations".
use Rattle.std.specs.Prelude.{◌≡◌, ℕ, true, false, List, [], ◌∷◌, Some, None, Contains}
use Rattle.go_constant_core.specs.text_core.Text.{is_blank}
use Rattle.go_tree_nodes.specs.declared.names.Ident.{Ident}
use Rattle.go_tree_nodes.specs.Trees.{FileTree, FuncTree}
use Rattle.go_names_core.specs.local_core.Binding.{Local}
use Rattle.go_names_core.specs.local_core.Pieces.{piece_declares}
use Rattle.go_names_core.specs.local_core.Steps.{Piece}
use Rattle.go_body_core.specs.stmt_core.PiecePieces.{piece_values}
use Rattle.go_body_core.specs.env_core.declared.meaning.Meaning.{Meaning as NameMeaning}
use Rattle.go_object_core.specs.declared.instructions.letters.Word.{Word}
use Rattle.go_emit_core.specs.package_core.PackagePartInputs.{InputModel}
use Rattle.go_emit_core.specs.package_core.PackagePartParts.{ContentOf, FileOf}
use Rattle.go_workspace_laws.specs.Standing.{pieces_of}
use Rattle.go_program_laws.specs.checked_sources.Statements.{StandsOver}
use Rattle.go_program_laws.specs.types.Functions.{IsFunction, function_looks, typing_in}

-- of a piece that declares one name, which is not blank, the name is the first of its block; and where it is a variable over this, the variable at its
-- identifier is over the same in code
abbrev pub LocalsAreTyped : Type 0
LocalsAreTyped =
    (i : InputModel) (c : ContentOf) (n : ℕ) (t : FileTree) (f : FileOf) (g : FuncTree) (all : List (Local NameMeaning)) → IsFunction i c n t f g all
    → (p : Piece) → Contains (pieces_of g) p → (x : Ident) → piece_declares p ≡ x ∷ [] → is_blank x.name ≡ false
    → (w : Word) (s : StandsOver (function_looks i c n t all).types (piece_values (function_looks i c n t all) (true ∷ []) p) w) → s.operand.constant ≡ None → typing_in i c f x.span.start ≡ Some w
