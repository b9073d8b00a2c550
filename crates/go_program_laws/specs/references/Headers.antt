-- Headers and the signatures that are written in them.
--
-- docs/RULES.md, "Faces of declarations", "Types inside functions". The Go specification, "Function types", "Declarations and scope".
use Rattle.std.specs.Prelude.{◌≡◌, ℕ, List}
use Rattle.go_tree_nodes.specs.Trees.{FileTree, FuncTree}
use Rattle.go_names_core.specs.local_core.Binding.{Local}
use Rattle.go_term_core.specs.Terms.{Sign}
use Rattle.go_body_core.specs.typexpr_core.WrittenWritten.{signature_of}
use Rattle.go_term_core.specs.settling.Settled.{settled_sign}
use Rattle.go_body_core.specs.table_core.Entries.{kinds_in}
use Rattle.go_body_core.specs.env_core.declared.meaning.Meaning.{Meaning as NameMeaning}
use Rattle.go_emit_core.specs.package_core.PackagePartInputs.{InputModel}
use Rattle.go_emit_core.specs.package_core.PackagePartParts.{ContentOf, FileOf}
use Rattle.go_workspace_laws.specs.Standing.{stand_in_part}
use Rattle.go_program_laws.specs.types.Functions.{IsFunction, function_looks, known_types}
use Rattle.go_program_laws.specs.references.Callees.{types_taken}

-- the signature of a function of the file of a number, by what names mean at the top of the file, settled among the types that the package knows
abbrev pub signature_in : InputModel → ContentOf → ℕ → FileTree → FuncTree → Sign
signature_in i c n t g = settled_sign (kinds_in (known_types i c)) (signature_of (stand_in_part i c n t).top (stand_in_part i c n t).file g.signature)

-- its parameters are of the types that the header is checked by
abbrev pub HeadersAreOfSignatures : Type 0
HeadersAreOfSignatures =
    (i : InputModel) (c : ContentOf) (n : ℕ) (t : FileTree) (f : FileOf) (g : FuncTree) (all : List (Local NameMeaning)) → IsFunction i c n t f g all
    → (function_looks i c n t all).params (signature_in i c n t g) ≡ types_taken (function_looks i c n t all) g.signature
