-- Parameters are over what their types are over.
--
-- docs/RULES.md, "Stack code". The Go specification, "Function types", "Method declarations".
use Rattle.std.specs.Prelude.{◌≡◌, ℕ, true, List, Option}
use Rattle.go_tree_nodes.specs.Trees.{FileTree, FuncTree}
use Rattle.go_names_core.specs.local_core.Binding.{Local}
use Rattle.go_body_core.specs.env_core.declared.meaning.Meaning.{Meaning as NameMeaning}
use Rattle.go_code_core.specs.fragments.Inside.{in_fragment}
use Rattle.go_code_core.specs.Code.{frame_in}
use Rattle.go_meaning_laws.specs.source_meaning.Meaning.{params_of}
use Rattle.go_meaning_laws.specs.fitting_sources.Fitting.{AreTypedAs, taken_by}
use Rattle.go_emit_core.specs.package_core.PackagePartInputs.{InputModel}
use Rattle.go_emit_core.specs.package_core.PackagePartParts.{ContentOf, FileOf}
use Rattle.go_workspace_laws.specs.ConstantLaws.{code_names_of}
use Rattle.go_program_laws.specs.types.Functions.{IsFunction, source_with, typing_in}
use Rattle.go_program_laws.specs.types.Written.{ShowTheirTypes}

-- of each function of which code is made
abbrev pub ParametersAreTyped : Type 0
ParametersAreTyped =
    (i : InputModel) (c : ContentOf) (n : ℕ) (t : FileTree) (f : FileOf) (g : FuncTree) (all : List (Local NameMeaning)) → IsFunction i c n t f g all → ShowTheirTypes i c
    → in_fragment (frame_in (code_names_of i c n f g) g) g ≡ true → (callees : List (Option ℕ)) → AreTypedAs (typing_in i c f) (params_of g) (taken_by (source_with (code_names_of i c n f g) callees g))
