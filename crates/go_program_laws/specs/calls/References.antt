-- The references of calls.
--
-- docs/RULES.md, "Stack code", "Names, selectors and calls in expressions". The Go specification, "Calls", "Method sets".
use Rattle.std.specs.Prelude.{◌≡◌, ℕ, true, List, Contains, Some, slice_get}
use Rattle.go_constant_core.specs.text_core.declared.span.Span.{Span}
use Rattle.go_tree_nodes.specs.Rules.{Wf_file}
use Rattle.go_tree_nodes.specs.Spelling.{IsPlaced}
use Rattle.go_tree_nodes.specs.Trees.{Call, ExprTree, FileTree, FuncTree, ItemTrees}
use Rattle.go_names_core.specs.local_core.Binding.{Local}
use Rattle.go_names_core.specs.local_core.Steps.{Piece}
use Rattle.go_report_core.specs.denote_core.declared.things.Stand.{Stand}
use Rattle.go_report_core.specs.denote_core.declared.things.Stand.TheVariants as stands
use Rattle.go_report_core.specs.expr_core.Denoting.{called_answer}
use Rattle.go_workspace_laws.specs.folding.Parts.{parts}
use Rattle.go_body_core.specs.env_core.declared.meaning.Meaning.{Meaning as NameMeaning}
use Rattle.go_emit_core.specs.package_core.PreparePackages.{trees_in}
use Rattle.go_report_core.specs.summary_core.Summaries.{SummaryModel}
use Rattle.go_emit_core.specs.package_core.PackagePartInputs.{InputModel, IsInput}
use Rattle.go_emit_core.specs.package_core.PackagePartParts.{ContentOf, FileOf, IsPart}
use Rattle.go_emit_core.specs.Emitted.{are_clean, body_first, body_uses, code_scene_over, declarations_in}
use Rattle.go_emit_core.specs.Laws.{declaration_of}
use Rattle.go_emit_core.specs.meaning.Looking.{looks_of}
use Rattle.go_body_core.specs.file.Stands.{file_funcs}
use Rattle.go_body_core.specs.function.Functions.{AreFuncDeclarations}
use Rattle.go_workspace_laws.specs.Standing.{looks_among, piece_exprs, pieces_of, stand_in_part}

-- where nothing is reported of a package, the reference of each call in the pieces of its functions, whatever packages tell, is what the check says that is
-- called
abbrev pub CallsReferToTheirs : Type 0
CallsReferToTheirs =
    (told : List SummaryModel) (i : InputModel) (c : ContentOf) → IsInput i → IsPart i c → are_clean c.files ≡ true
    → (n : ℕ) (t : FileTree) (f : FileOf) → slice_get (trees_in i.source) n ≡ Some t → slice_get c.files n ≡ Some f → Wf_file t → IsPlaced t
    → (g : FuncTree) → Contains (file_funcs t) g → (all : List (Local NameMeaning)) → AreFuncDeclarations (stand_in_part i c n t) g all
    → (p : Piece) → Contains (pieces_of g) p → (e : ExprTree) → Contains (piece_exprs p) e
    → (q : Stand) (callee : ExprTree) (first : Span) (items : ItemTrees) (last : Span) → Contains (parts stands.«Value» e) (q, Call callee first items last)
    → slice_get (declarations_in (body_uses f.answers.uses g)) ((looks_of (code_scene_over told i c) n f.answers.uses f.answers.locals (body_first f.answers.uses g)).reference first.start)
    ≡ declaration_of (called_answer (looks_among (stand_in_part i c n t) all) callee first items).outcome
