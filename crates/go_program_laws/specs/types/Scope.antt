-- Variables are declared before they are used.
--
-- docs/RULES.md, "Bodies of functions", "Stack code". The Go specification, "Declarations and scope", "Blocks".
use Rattle.std.specs.Prelude.{◌≡◌, ℕ, true, List, [], ◌++◌, Option, Contains}
use Rattle.std.specs.List.{flat_map}
use Rattle.go_tree_nodes.specs.declared.names.Ident.{Ident}
use Rattle.go_tree_nodes.specs.Trees.{FileTree, FuncTree, ExprTree, Named}
use Rattle.go_names_core.specs.local_core.Binding.{Local}
use Rattle.go_names_core.specs.local_core.Outline.{header_idents, lines_steps}
use Rattle.go_names_core.specs.local_core.Steps.{Piece, Header, Spec, Act, Condition, Given, Steps, Done, Check, Declare, Inner}
use Rattle.go_report_core.specs.denote_core.declared.things.Stand.{Stand}
use Rattle.go_report_core.specs.denote_core.declared.things.Stand.TheVariants as stands
use Rattle.go_body_core.specs.env_core.declared.meaning.Meaning.{Meaning as NameMeaning}
use Rattle.go_object_core.specs.declared.instructions.letters.Word.{Word}
use Rattle.go_code_core.specs.declared.fragments.names.Meaning.TheVariants as meanings
use Rattle.go_code_core.specs.fragments.Inside.{signature_inside}
use Rattle.go_code_core.specs.fragments.Names.{CodeLooks}
use Rattle.go_code_core.specs.fragments.Slots.{local_slot, simple_slots, value_spec_slots}
use Rattle.go_workspace_laws.specs.folding.Parts.{parts}
use Rattle.go_meaning_laws.specs.source_meaning.Meaning.{params_of}
use Rattle.go_meaning_laws.specs.fitting_sources.Fitting.{IsAmong}
use Rattle.go_emit_core.specs.package_core.PackagePartInputs.{InputModel}
use Rattle.go_emit_core.specs.package_core.PackagePartParts.{ContentOf, FileOf}
use Rattle.go_workspace_laws.specs.ConstantLaws.{code_names_of}
use Rattle.go_workspace_laws.specs.Standing.{piece_exprs}
use Rattle.go_program_laws.specs.types.Functions.{IsFunction}

-- what a piece declares in code
abbrev pub piece_slots : CodeLooks → Piece → List (Option ℕ)
piece_slots code (Header r s) = flat_map local_slot (header_idents r s)
piece_slots code (Spec kind v) = value_spec_slots kind v
piece_slots code (Act s) = simple_slots code s
piece_slots code (Condition e) = []
piece_slots code (Given place es) = []

-- what holds of each piece, by what is declared before it in the blocks around it, where these are declared so far
abbrev pub EachPiece : (List (Option ℕ) → Piece → Type 0) → CodeLooks → List (Option ℕ) → Steps → Type 0
EachPiece P code ds Done = Unit {0}
EachPiece P code ds (Check p rest) = P ds p × EachPiece P code ds rest
EachPiece P code ds (Declare m from p xs rest) = P ds p × EachPiece P code (piece_slots code p ++ ds) rest
EachPiece P code ds (Inner o c steps rest) = EachPiece P code ds steps × EachPiece P code ds rest

-- each name in the expressions of a piece that comes to a variable comes to one that is declared before
abbrev pub AreDeclaredBefore : CodeLooks → List (Option ℕ) → Piece → Type 0
AreDeclaredBefore code ds p =
    (e : ExprTree) → Contains (piece_exprs p) e → (q : Stand) (x : Ident) → Contains (parts stands.«Value» e) (q, Named x) → (at : ℕ) (w : Word) → code.meaning x.span.start ≡ meanings.Variable at w
    → IsAmong ds at

-- so it is of each piece of the body of a function whose results have no names, where its receiver and its parameters are declared as the body begins
abbrev pub VariablesAreDeclared : Type 0
VariablesAreDeclared =
    (i : InputModel) (c : ContentOf) (n : ℕ) (t : FileTree) (f : FileOf) (g : FuncTree) (all : List (Local NameMeaning)) → IsFunction i c n t f g all
    → signature_inside (code_names_of i c n f g) g.signature ≡ true
    → EachPiece (AreDeclaredBefore (code_names_of i c n f g)) (code_names_of i c n f g) (params_of g) (lines_steps g.body Done)
