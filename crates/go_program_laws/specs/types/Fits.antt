-- Functions of packages of which nothing is reported fit.
--
-- docs/RULES.md, "Bodies of functions", "Stack code". The Go specification, "Declarations and scope", "Statements", "Expressions", "Calls".
use Rattle.std.specs.Prelude.{◌≡◌, ℕ, true, List, ◌++◌, Option, Contains}
use Rattle.go_constant_core.specs.text_core.declared.span.Span.{Span}
use Rattle.go_tree_nodes.specs.Trees.{ExprTree, FileTree, FuncTree, Integer, ItemTrees, Call}
use Rattle.go_names_core.specs.local_core.Binding.{Local}
use Rattle.go_names_core.specs.local_core.Steps.{Piece}
use Rattle.go_term_core.specs.Terms.{Term, Sign}
use Rattle.go_report_core.specs.denote_core.declared.things.Stand.{Stand}
use Rattle.go_report_core.specs.denote_core.declared.things.Stand.TheVariants as stands
use Rattle.go_meaning_laws.specs.handle_core.Declarations.{Declaration}
use Rattle.go_body_core.specs.env_core.declared.meaning.Meaning.{Meaning as NameMeaning}
use Rattle.go_object_core.specs.declared.instructions.letters.Word.{Word}
use Rattle.go_code_core.specs.declared.fragments.names.Meaning.{Meaning}
use Rattle.go_code_core.specs.declared.fragments.names.Meaning.TheVariants as meanings
use Rattle.go_code_core.specs.fragments.Constants.{folded}
use Rattle.go_code_core.specs.fragments.Fragment.{all_ones, receiver_fits}
use Rattle.go_code_core.specs.fragments.Inside.{in_fragment}
use Rattle.go_code_core.specs.fragments.Names.{callee_meaning}
use Rattle.go_code_core.specs.Code.{frame_in, letters}
use Rattle.go_meaning_laws.specs.source_meaning.Meaning.{SourceOf}
use Rattle.go_meaning_laws.specs.fitting_sources.Fitting.{IsGiven, ReferenceFits, receiver_letters}
use Rattle.go_meaning_laws.specs.fitting_sources.Laws.{FunctionFits}
use Rattle.go_workspace_laws.specs.folding.Parts.{parts}
use Rattle.go_workspace_laws.specs.folding.Reading.{AreReadOver}
use Rattle.go_emit_core.specs.package_core.PackagePartInputs.{InputModel}
use Rattle.go_emit_core.specs.package_core.PackagePartParts.{ContentOf, FileOf}
use Rattle.go_workspace_laws.specs.ConstantLaws.{code_names_of}
use Rattle.go_workspace_laws.specs.Standing.{piece_exprs, pieces_of}
use Rattle.go_program_laws.specs.checked_sources.Pieces.{ConstantsAreTyped}
use Rattle.go_program_laws.specs.types.Functions.{IsFunction, function_looks, meaning_there, source_with, typing_in}
use Rattle.go_program_laws.specs.types.Written.{ShowTheirTypes}

-- what is called is a function that takes words over a receiver and arguments, and gives what the name says
abbrev pub IsCallServed : List SourceOf → SourceOf → (ℕ → Option Word) → Meaning → ℕ → List Word → List Word → Type 0
IsCallServed program s typing (meanings.Function g) first receiver ws = ReferenceFits program s typing first g ws
IsCallServed program s typing (meanings.Method g) first receiver ws = ReferenceFits program s typing first g (receiver ++ ws)
IsCallServed program s typing (meanings.Variable at w) first receiver ws = Unit {0}
IsCallServed program s typing (meanings.Constant v) first receiver ws = Unit {0}
IsCallServed program s typing (meanings.«Type» w) first receiver ws = Unit {0}
IsCallServed program s typing meanings.Println first receiver ws = Unit {0}
IsCallServed program s typing meanings.Panic first receiver ws = Unit {0}
IsCallServed program s typing meanings.Other first receiver ws = Unit {0}

-- what is asked of a function beside what the check says of it: that its calls lead to functions which take their arguments, that calls of methods of
-- operands over `int` and `bool` give what their signatures give, that constants are of types over what their values are, and that integer literals have values
pub record IsServed (program : List SourceOf) (callees : List (Option ℕ)) (i : InputModel) (c : ContentOf) (n : ℕ) (t : FileTree) (f : FileOf) (g : FuncTree) (all : List (Local NameMeaning)) : Type 0 where
  pub calls : (p : Piece) → Contains (pieces_of g) p → (e : ExprTree) → Contains (piece_exprs p) e → (q : Stand) (x : ExprTree) (first : Span) (items : ItemTrees) (last : Span) → Contains (parts stands.«Value» e) (q, Call x first items last)
      → all_ones (frame_in (code_names_of i c n f g) g) items ≡ true → receiver_fits (frame_in (code_names_of i c n f g) g) x ≡ true
      → IsCallServed program (source_with (code_names_of i c n f g) callees g) (typing_in i c f) (callee_meaning (code_names_of i c n f g) x) first.start (receiver_letters (frame_in (code_names_of i c n f g) g) x) (letters (frame_in (code_names_of i c n f g) g) items)
  pub methods : AreReadOver Term Sign Declaration (List ℕ) (function_looks i c n t all) (meaning_there i c n f)
  pub constants : ConstantsAreTyped Term Sign Declaration (List ℕ) (function_looks i c n t all)
  pub integers : (p : Piece) → Contains (pieces_of g) p → (e : ExprTree) → Contains (piece_exprs p) e → (q : Stand) (k : ℕ) (span : Span) → Contains (parts stands.«Value» e) (q, Integer k span)
      → IsGiven (folded (code_names_of i c n f g) (Integer k span))

-- then a function of which code is made fits
abbrev pub FunctionsFit : Type 0
FunctionsFit =
    (program : List SourceOf) (callees : List (Option ℕ)) (i : InputModel) (c : ContentOf) (n : ℕ) (t : FileTree) (f : FileOf) (g : FuncTree) (all : List (Local NameMeaning)) → IsFunction i c n t f g all → ShowTheirTypes i c
    → IsServed program callees i c n t f g all → in_fragment (frame_in (code_names_of i c n f g) g) g ≡ true → FunctionFits program (source_with (code_names_of i c n f g) callees g)
