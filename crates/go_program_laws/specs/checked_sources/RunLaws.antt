-- Programs of objects run as their sources mean, where these are typed.
use Rattle.std.specs.Prelude.{◌≡◌, ℕ, true, List, [], Option, Some, Contains, slice_get}
use Rattle.go_code_core.specs.declared.fragments.names.Gives.TheVariants as gives
use Rattle.go_code_core.specs.fragments.Inside.{in_fragment}
use Rattle.go_code_core.specs.Code.{frame_in}
use Rattle.go_meaning_laws.specs.source_meaning.Meaning.{SourceOf, params_of}
use Rattle.go_meaning_laws.specs.fitting_sources.Fitting.{AreTypedAs, IsDeclared, LinesFit, Typing, taken_by}
use Rattle.go_machine_core.specs.link.Functions.{PlaceModel}
use Rattle.go_machine_core.specs.link.Linked.{IsRunnable, RunnableOf, program_of}
use Rattle.go_meaning_laws.specs.program_meaning.Laws.{RunsAsMeant}
use Rattle.go_meaning_laws.specs.handle_core.Declarations.{Declaration}
use Rattle.go_emit_core.specs.package_core.PackagePartParts.{PartModel}
use Rattle.go_emit_core.specs.Emitted.{objects_of}
use Rattle.go_meaning_laws.specs.object_sources.Sources.{sources_of}
use Rattle.go_program_laws.specs.checked_sources.Laws.{IsOfGrammar}

-- the variables of a function are over this, and its names, operators, calls, conditions and `return`s fit
pub record IsTypedBody (program : List SourceOf) (s : SourceOf) : Type 0 where
  pub typing : Typing
  pub params : AreTypedAs typing (params_of s.tree) (taken_by s)
  pub body : LinesFit program s typing (params_of s.tree) s.tree.body

-- a program of the objects of parts that can be run comes to what its functions mean, where each function in the run fragment is typed, and those that begin
-- the program take no arguments and give no result
abbrev pub ObjectsRunAsTyped : Type 0
ObjectsRunAsTyped =
    (place : Declaration → Option PlaceModel) (ps : List PartModel) (main : List ℕ) (r : RunnableOf) → ((p : PartModel) → Contains ps p → IsOfGrammar p) → IsRunnable (program_of place (objects_of ps) main) r
    → ((number : ℕ) (s : SourceOf) → slice_get (sources_of place ps) number ≡ Some s → in_fragment (frame_in s.looks s.tree) s.tree ≡ true → IsTypedBody (sources_of place ps) s)
    → ((number : ℕ) → Contains r.starts number → IsDeclared (sources_of place ps) number gives.Nothing [])
    → RunsAsMeant (program_of place (objects_of ps) main) (sources_of place ps) r.starts
