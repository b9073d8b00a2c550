-- Variables of functions are over one word each.
--
-- docs/RULES.md, "Stack code". The Go specification, "Variables", "Declarations and scope".
use Rattle.std.specs.Prelude.{◌≡◌, ℕ, nat_eq, List, Option, Some, None, slice_get}
use Rattle.std.specs.Map.{lookup}
use Rattle.go_object_core.specs.declared.instructions.letters.Word.{Word}
use Rattle.go_code_core.specs.declared.fragments.names.Meaning.{Meaning}
use Rattle.go_code_core.specs.declared.fragments.names.Meaning.TheVariants as meanings
use Rattle.go_code_core.specs.fragments.Names.{CodeLooks}
use Rattle.go_emit_core.specs.lookup.Looking.{meaning_or_other}
use Rattle.go_meaning_laws.specs.source_meaning.Meaning.{SourceOf}
use Rattle.go_meaning_laws.specs.fitting_sources.Fitting.{Typing}
use Rattle.go_machine_core.specs.link.Functions.{PlaceModel}
use Rattle.go_body_core.specs.Notes.{TheUse, TheLocal}
use Rattle.go_meaning_laws.specs.handle_core.Declarations.{Declaration}
use Rattle.go_body_core.specs.table_core.Entries.{Entry}
use Rattle.go_report_core.specs.summary_core.Summaries.{SummaryModel}
use Rattle.go_report_core.specs.summary_core.Views.{types_told}
use Rattle.go_emit_core.specs.package_core.PackagePartInputs.{InputModel}
use Rattle.go_emit_core.specs.package_core.PackagePartParts.{ContentOf, PartModel}
use Rattle.go_emit_core.specs.Emitted.{code_scene_over}
use Rattle.go_emit_core.specs.meaning.Looking.{locals_meant, looks_of}
use Rattle.go_meaning_laws.specs.object_sources.Sources.{sources_of}

abbrev pub variable_word : Meaning → Option Word
variable_word (meanings.Variable at w) = Some w
variable_word _ = None

-- what the variables among the locals of a file are over, by the offsets at which they are declared
abbrev pub typing_of : List Entry → List TheLocal → Typing
typing_of es locals at = variable_word (meaning_or_other (lookup (nat_eq at) (locals_meant es locals)))

-- each identifier that comes to a variable comes to it over this
abbrev pub AreOverOneWord : CodeLooks → Typing → Type 0
AreOverOneWord looks typing = (offset at : ℕ) (w : Word) → looks.meaning offset ≡ meanings.Variable at w → typing at ≡ Some w

-- so it is in each file of a package, whatever its occurrences have and whatever packages tell
abbrev pub VariablesAreOverOneWord : Type 0
VariablesAreOverOneWord =
    (all : List SummaryModel) (i : InputModel) (c : ContentOf) (n : ℕ) (uses : List TheUse) (locals : List TheLocal) (before : ℕ)
    → AreOverOneWord (looks_of (code_scene_over all i c) n uses locals before) (typing_of (types_told all) locals)

-- and in each source of the objects of parts
abbrev pub SourcesAreOverOneWord : Type 0
SourcesAreOverOneWord =
    (place : Declaration → Option PlaceModel) (ps : List PartModel) (number : ℕ) (s : SourceOf) → slice_get (sources_of place ps) number ≡ Some s → (typing : Typing) × AreOverOneWord s.looks typing
