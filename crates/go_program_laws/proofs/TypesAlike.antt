-- What names of a function stand for is what they come to in code, and over the same, calls of methods too.
use Rattle.std.proofs.Common.{ℕ, List, Some, None}
use Rattle.go_tree_nodes.specs.Trees.{FileTree, FuncTree}
use Rattle.go_names_core.specs.local_core.Binding.{Local}
use Rattle.go_term_core.specs.Terms.{Term, Sign}
use Rattle.go_report_core.specs.operand_core.declared.types.ValueType.{ValueType}
use Rattle.go_report_core.specs.operand_core.TypeRules.{TypeRules}
use Rattle.go_report_core.specs.denote_core.declared.things.Exported.TheVariants as exporteds
use Rattle.go_report_core.specs.denote_core.declared.things.Found.TheVariants as founds
use Rattle.go_report_core.specs.denote_core.declared.things.Outcome.{Outcome}
use Rattle.go_report_core.specs.denote_core.declared.things.Outcome.TheVariants as outcomes
use Rattle.go_meaning_laws.specs.handle_core.Declarations.{Declaration}
use Rattle.go_body_core.specs.env_core.declared.meaning.Meaning.{Meaning as NameMeaning}
use Rattle.go_body_core.specs.env_core.Found.{TheExported, TheFound}
use Rattle.go_body_core.specs.env_core.Looks.{TheLooks}
use Rattle.go_emit_core.specs.package_core.PackagePartInputs.{InputModel, path_in}
use Rattle.go_emit_core.specs.package_core.PackagePartParts.{ContentOf, FileOf}
use Rattle.go_code_core.specs.declared.fragments.names.Meaning.{Meaning}
use Rattle.go_code_core.specs.declared.fragments.names.Meaning.TheVariants as meanings
use Rattle.go_workspace_laws.specs.folding.Reading.{AreReadOver}
use Rattle.go_workspace_laws.specs.folding.Typed.{AreTyped, IsExportedTyped, IsFoundTyped, IsOperandTyped}
use Rattle.go_workspace_laws.specs.Calling.{without_method}
use Rattle.go_workspace_laws.proofs.Names.{are_read}
use Rattle.go_program_laws.specs.checked_sources.Pieces.{ConstantsAreTyped}
use Rattle.go_program_laws.specs.checked_sources.Statements.{AreAlike}
use Rattle.go_program_laws.proofs.CheckedSourcesNamed.{are_typed}
use Rattle.go_program_laws.proofs.CheckedSourcesTypes.{types_keep_basics}
use Rattle.go_program_laws.specs.types.Functions.{IsFunction, function_looks, known_types, meaning_there}
use Rattle.go_program_laws.proofs.TypesReady.{AreGiven, file, g_there, placed, rises}

operand_calm : (rules : TypeRules Term) (v : ValueType Term) (m : Meaning) → IsOperandTyped rules v (without_method m) → IsOperandTyped rules v m
operand_calm rules v (meanings.Variable at w) h = h
operand_calm rules v (meanings.Constant k) h = h
operand_calm rules v (meanings.Function s) h = tt
operand_calm rules v (meanings.Method s) h = tt
operand_calm rules v (meanings.«Type» w) h = tt
operand_calm rules v meanings.Println h = tt
operand_calm rules v meanings.Panic h = tt
operand_calm rules v meanings.Other h = tt

module _ (looks : TheLooks) (mean : Outcome Declaration (List ℕ) → Meaning) where
  found_calm : (x : TheFound) → IsFoundTyped looks (λ o. without_method (mean o)) x → IsFoundTyped looks mean x
  found_calm (founds.«Value» d None) h = tt
  found_calm (founds.«Value» d (Some o)) h = operand_calm looks.types o.value_type (mean (outcomes.Declared d)) h
  found_calm (founds.«Package» d) h = tt
  found_calm (founds.«Type» d t) h = tt
  found_calm (founds.Func d s) h = tt
  found_calm (founds.Builtin d b) h = tt
  found_calm founds.Missing h = tt
  found_calm founds.BadImport h = tt
  found_calm founds.Outside h = tt

  exported_calm : (x : TheExported) → IsExportedTyped looks (λ o. without_method (mean o)) x → IsExportedTyped looks mean x
  exported_calm (exporteds.«Value» d None) h = tt
  exported_calm (exporteds.«Value» d (Some o)) h = operand_calm looks.types o.value_type (mean (outcomes.Declared d)) h
  exported_calm (exporteds.«Type» d t) h = tt
  exported_calm (exporteds.Func d s) h = tt
  exported_calm exporteds.Absent h = tt
  exported_calm exporteds.Hidden h = tt

module _ (laws : AreGiven) (i : InputModel) (c : ContentOf) (n : ℕ) (t : FileTree) (f : FileOf) (g : FuncTree) (all : List (Local NameMeaning)) (h : IsFunction i c n t f g all) where
  typed : ConstantsAreTyped Term Sign Declaration (List ℕ) (function_looks i c n t all) → AreTyped Term Sign Declaration (List ℕ) (function_looks i c n t all) (meaning_there i c n f)
  typed constants =
      let whole = file laws i c n t f g all h in
      let up = rises laws i c n t f g all h in
      let there = g_there laws i c n t f g all h in
      let order = placed laws i c n t f g all h in
      let read = are_read laws.binds laws.of_locals i c h.input h.others h.part n t f whole up g there order all h.right in
      let calm = are_typed laws.of_locals i c n t f whole up g there order all h.right read constants in
      record {
        names = λ name offset. found_calm (function_looks i c n t all) (meaning_there i c n f) ((function_looks i c n t all).find name offset) (calm.names name offset);
        exported = λ d name. exported_calm (function_looks i c n t all) (meaning_there i c n f) ((function_looks i c n t all).exported d name) (calm.exported d name);
      }

  pub alike : AreReadOver Term Sign Declaration (List ℕ) (function_looks i c n t all) (meaning_there i c n f) → ConstantsAreTyped Term Sign Declaration (List ℕ) (function_looks i c n t all)
      → AreAlike Term Sign Declaration (List ℕ) (function_looks i c n t all) (meaning_there i c n f)
  alike methods constants = record { read = methods; typed = typed constants; keep = types_keep_basics.keep (known_types i c) (path_in i); identity = types_keep_basics.identity (known_types i c) (path_in i) }
