-- What sessions ask beside parts: listings, docs, definitions and runs, by the snapshot of the last batch.
use Rattle.std.specs.Prelude.{◌≡◌, ◌⊎◌, ℕ, List, Result, Ok, Err, string_bytes}
use Rattle.std.specs.declared.alloc.Global.{Global}
use Rattle.std.specs.declared.string.String.{String}
use Rattle.std.specs.declared.vec.Vec.{Vec}
use Rattle.go_complete_core.specs.place.Completions.{texts_of}
use Rattle.go_type_doc_core.specs.query_core.Completing.{IsCompletion, IsUnasked}
use Rattle.go_path_core.specs.text_core.declared.rule.Rule.{Rule}
use Rattle.go_path_core.specs.text_core.declared.rule.Rule.TheVariants.{M0, Q1, J1, J2, Z1}
use Rattle.go_handle_core.specs.Declarations.{Declaration}
use Rattle.go_site_core.specs.Sites.{site_text}
use Rattle.go_machine_core.specs.link.Linked.{HasNoMain, IsBeyond, ProgramOf, program_of}
use Rattle.go_machine_core.specs.runs.Runs.{GetsStuck, Gives, run_shown}
use Rattle.go_machine_core.specs.declared.runs.outcome.Run.{Run}
use Rattle.go_session_core.specs.launches.Located.{place_declared}
use Rattle.go_emit_core.specs.Emitted.{objects_of}
use Rattle.go_emit_core.specs.package_core.PackagePartSlots.{somes}
use Rattle.go_emit_core.specs.package_core.PackagePartParts.{PartModel}
use Rattle.go_complete_core.specs.snap_core.Snapshots.{IsPartAt, SnapshotModel}
use Rattle.go_type_doc_core.specs.query_core.Defining.{HasNoPart, IsDefinition, IsRefusal}
use Rattle.go_type_doc_core.specs.query_core.Documenting.{IsDoc, IsDocRefusal, doc_shown}
use Rattle.go_type_doc_core.specs.query_core.Listing.{IsListing}
use Rattle.go_type_doc_core.specs.query_core.declared.documenting.PackageDoc.{PackageDoc}
use Rattle.go_type_doc_core.specs.query_core.declared.listing.Listing.{Listing}
use Rattle.go_type_doc_core.specs.TypeDocs.{IsTypeDoc, IsTypeDocRefusal, type_doc_shown}
use Rattle.go_type_doc_core.specs.declared.telling.TypeDoc.{TypeDoc}

-- the package of a path, and those that it could import
abbrev pub IsListAnswer : List ℕ → SnapshotModel → Result Listing Rule → Type 0
IsListAnswer path s (Ok l) = IsListing s path l.own l.importable.items
IsListAnswer path s (Err rule) = (rule ≡ M0) ⊎ ((rule ≡ Q1) × HasNoPart s path)

-- what the package of a path declares, as the package `from` sees it
abbrev pub IsDocAnswer : List ℕ → List ℕ → SnapshotModel → Result PackageDoc Rule → Type 0
IsDocAnswer from path s (Ok d) = IsDoc s from path (doc_shown d)
IsDocAnswer from path s (Err rule) = (rule ≡ M0) ⊎ IsDocRefusal s from path rule

-- how the declaration is written of the identifier that is used at an offset of a file
abbrev pub IsDefineAnswer : List ℕ → List ℕ → ℕ → SnapshotModel → Result (String Global) Rule → Type 0
IsDefineAnswer path file offset s (Ok text) = (site : Declaration) × IsDefinition s path file offset site × (string_bytes text ≡ site_text s.sources site)
IsDefineAnswer path file offset s (Err rule) = (rule ≡ M0) ⊎ IsRefusal s path file offset rule

-- the names that may stand in the place of the identifier at an offset of a file
abbrev pub IsCompleteAnswer : List ℕ → List ℕ → ℕ → SnapshotModel → Result (Vec (String Global) Global) Rule → Type 0
IsCompleteAnswer path file offset s (Ok names) = IsCompletion s path file offset (texts_of names)
IsCompleteAnswer path file offset s (Err rule) = (rule ≡ M0) ⊎ IsUnasked s path file offset rule

-- what a variable of a type has, as the package `from` sees it
abbrev pub IsTypeDocAnswer : List ℕ → List ℕ → List ℕ → SnapshotModel → Result TypeDoc Rule → Type 0
IsTypeDocAnswer from path type_name s (Ok d) = IsTypeDoc s from path type_name (type_doc_shown d)
IsTypeDocAnswer from path type_name s (Err rule) = (rule ≡ M0) ⊎ IsTypeDocRefusal s from path type_name rule

-- ---- runs

-- the program of the package of a path, from the objects of all packages
abbrev pub program_in : SnapshotModel → List ℕ → ProgramOf
program_in s path = program_of place_declared (objects_of (somes s.parts)) path

-- the rule of a program that is not run: it has no `main`; or it reaches what cannot be run; or its code lacks what an instruction asks for, as none
-- does that is made of a source
abbrev pub IsRunRefusal : ProgramOf → ℕ → Rule → Type 0
IsRunRefusal p steps rule = ((rule ≡ J1) × HasNoMain p) ⊎ (((rule ≡ J2) × IsBeyond p) ⊎ ((rule ≡ Z1) × GetsStuck p steps))

-- there is an assembled package of the path
abbrev pub HasPartAt : SnapshotModel → List ℕ → Type 0
HasPartAt s path = (p : PartModel) × IsPartAt s.sources s.parts path p

-- what the assembled package of a path comes to in so many steps
abbrev pub IsRunAnswer : List ℕ → ℕ → SnapshotModel → Result Run Rule → Type 0
IsRunAnswer path steps s (Ok run) = HasPartAt s path × Gives (program_in s path) steps (run_shown run)
IsRunAnswer path steps s (Err rule) = (rule ≡ M0) ⊎ (((rule ≡ Q1) × HasNoPart s path) ⊎ (HasPartAt s path × IsRunRefusal (program_in s path) steps rule))
