-- The pieces of functions of packages without faults break no rule, and their names are in code what they are to the check.
--
-- docs/RULES.md, "Bodies of functions", "Stack code". The Go specification, "Declarations and scope", "Statements", "Constants".
use Rattle.std.specs.Prelude.{◌≡◌, ℕ, Bool, true, List, Option, Some, None, Contains, slice_get}
use Rattle.go_tree_nodes.specs.Rules.{Wf_file}
use Rattle.go_tree_nodes.specs.Spelling.{IsPlaced}
use Rattle.go_tree_nodes.specs.Trees.{FileTree, FuncTree}
use Rattle.go_names_core.specs.local_core.Binding.{Local}
use Rattle.go_names_core.specs.local_core.Steps.{Piece}
use Rattle.go_term_core.specs.Terms.{Term, Sign}
use Rattle.go_constant_core.specs.declared.values.Constant.{Constant}
use Rattle.go_report_core.specs.operand_core.declared.types.Operand.{Operand}
use Rattle.go_report_core.specs.operand_core.TypeRules.{TypeRules}
use Rattle.go_report_core.specs.operand_core.Values.{basic_under}
use Rattle.go_report_core.specs.denote_core.declared.things.Found.{Found}
use Rattle.go_report_core.specs.denote_core.declared.things.Found.TheVariants as founds
use Rattle.go_report_core.specs.denote_core.declared.things.Exported.{Exported}
use Rattle.go_report_core.specs.denote_core.declared.things.Exported.TheVariants as exporteds
use Rattle.go_report_core.specs.denote_core.declared.things.Outcome.{Outcome}
use Rattle.go_report_core.specs.expr_core.Looks.{Looks}
use Rattle.go_body_core.specs.stmt_core.PieceHeaders.{returned_names, returned_types}
use Rattle.go_code_core.specs.declared.fragments.names.ConstantWord.{ConstantWord}
use Rattle.go_code_core.specs.declared.fragments.names.Meaning.{Meaning}
use Rattle.go_code_core.specs.fragments.Constants.{held}
use Rattle.go_code_core.specs.fragments.Names.{word_of}
use Rattle.go_workspace_laws.specs.folding.Reading.{basic_of}
use Rattle.go_body_core.specs.env_core.declared.meaning.Meaning.{Meaning as NameMeaning}
use Rattle.go_meaning_laws.specs.handle_core.Declarations.{Declaration}
use Rattle.go_body_core.specs.function.Functions.{AreFuncDeclarations}
use Rattle.go_body_core.specs.function.Stands.{outer_looks}
use Rattle.go_body_core.specs.file.Stands.{file_funcs}
use Rattle.go_emit_core.specs.package_core.PreparePackages.{trees_in}
use Rattle.go_report_core.specs.summary_core.Views.{types_told}
use Rattle.go_emit_core.specs.package_core.PackagePartInputs.{InputModel, IsInput}
use Rattle.go_emit_core.specs.package_core.PackagePartParts.{ContentOf, FileOf, IsPart}
use Rattle.go_emit_core.specs.Emitted.{are_clean, code_scene_over, told_to}
use Rattle.go_emit_core.specs.meaning.Looking.{locals_meant}
use Rattle.go_emit_core.specs.meaning.Scenes.{outcome_meaning}
use Rattle.go_workspace_laws.specs.Calling.{without_method, without_methods}
use Rattle.go_workspace_laws.specs.ConstantLaws.{ImportsAreOthers, code_names_of}
use Rattle.go_workspace_laws.specs.Standing.{looks_among, pieces_of, stand_in_part}
use Rattle.go_program_laws.specs.checked_sources.Statements.{IsClear}

-- a constant is of a type over what its value is
abbrev pub IsConstantTyped : {T : Type 0} → TypeRules T → Option (Operand T) → Type 0
IsConstantTyped rules None = Unit {0}
IsConstantTyped rules (Some o) = (c : Constant) (v : ConstantWord) → o.constant ≡ Some c → held c ≡ Some v → basic_under rules o.value_type ≡ Some (basic_of (word_of v))

-- so is each that a name stands for
abbrev pub IsFoundConstant : {T S D : Type 0} → TypeRules T → Found T S D → Type 0
IsFoundConstant rules (founds.«Value» d o) = IsConstantTyped rules o
IsFoundConstant rules (founds.«Package» d) = Unit {0}
IsFoundConstant rules (founds.«Type» d t) = Unit {0}
IsFoundConstant rules (founds.Func d s) = Unit {0}
IsFoundConstant rules (founds.Builtin d b) = Unit {0}
IsFoundConstant rules founds.Missing = Unit {0}
IsFoundConstant rules founds.BadImport = Unit {0}
IsFoundConstant rules founds.Outside = Unit {0}

abbrev pub IsExportedConstant : {T S D : Type 0} → TypeRules T → Exported T S D → Type 0
IsExportedConstant rules (exporteds.«Value» d o) = IsConstantTyped rules o
IsExportedConstant rules (exporteds.«Type» d t) = Unit {0}
IsExportedConstant rules (exporteds.Func d s) = Unit {0}
IsExportedConstant rules exporteds.Absent = Unit {0}
IsExportedConstant rules exporteds.Hidden = Unit {0}

pub record ConstantsAreTyped (T S D P : Type 0) (looks : Looks T S D P) : Type 0 where
  pub names : (name : List ℕ) (offset : ℕ) → IsFoundConstant looks.types (looks.find name offset)
  pub exported : (d : D) (name : List ℕ) → IsExportedConstant looks.types (looks.exported d name)

-- what an occurrence of the file of a number comes to in code, where it is no method
abbrev pub meaning_in : InputModel → ContentOf → ℕ → FileOf → Outcome Declaration (List ℕ) → Meaning
meaning_in i c n f o = without_method (outcome_meaning (code_scene_over (told_to i c) i c) n (locals_meant (types_told (told_to i c)) f.answers.locals) o)

-- Where nothing is reported of a package, each piece of its functions breaks no rule, and each name in it is in code what it is to the check, methods apart,
-- and over what its type is over, as far as constants are
abbrev pub PiecesAreClear : Type 0
PiecesAreClear =
    (i : InputModel) (c : ContentOf) → IsInput i → ImportsAreOthers i → IsPart i c → are_clean c.files ≡ true
    → (n : ℕ) (t : FileTree) (f : FileOf) → slice_get (trees_in i.source) n ≡ Some t → slice_get c.files n ≡ Some f → Wf_file t → IsPlaced t
    → (g : FuncTree) → Contains (file_funcs t) g → (all : List (Local NameMeaning)) → AreFuncDeclarations (stand_in_part i c n t) g all
    → ConstantsAreTyped Term Sign Declaration (List ℕ) (looks_among (stand_in_part i c n t) all)
    → (p : Piece) → Contains (pieces_of g) p
    → (firsts : List Bool) × IsClear Term Sign Declaration (List ℕ) (looks_among (stand_in_part i c n t) all) (without_methods (code_names_of i c n f g)) (meaning_in i c n f)
    (returned_types (outer_looks (stand_in_part i c n t)) g.signature) (returned_names g.signature) firsts p
