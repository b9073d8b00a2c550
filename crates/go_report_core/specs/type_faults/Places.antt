-- Faults at places of the files of a package.
use Rattle.std.specs.Prelude.{ℕ, List, [], ◌∷◌, Option, Some, None, slice_get}
use Rattle.std.specs.List.{flat_map}
use Rattle.go_path_core.specs.text_core.declared.rule.Rule.{Rule}
use Rattle.go_term_core.specs.decl_core.declared.keys.DeclRef.{DeclRef}
use Rattle.go_term_core.specs.decl_core.declared.places.Place.{Place}
use Rattle.go_term_core.specs.declared.term.MemberPlace.{MemberPlace}
use Rattle.go_term_core.specs.declared.term.MemberPlace.TheVariants as places
use Rattle.go_select_core.specs.embed_core.declared.faults.MemberFault.{MemberFault}
use Rattle.go_summary_core.specs.typexpr_core.EntryOutlines.{FileOutline}
use Rattle.go_report_core.specs.declared.type_faults.places.PackageFault.{PackageFault}

abbrev pub fault_in : ℕ → ℕ → Rule → PackageFault
fault_in file offset rule = record { file = file; offset = offset; rule = rule }

abbrev pub file_offset_of : ℕ → Option Place → Option (ℕ × ℕ)
file_offset_of file None = None
file_offset_of file (Some p) = Some (file, p.at)

abbrev pub in_outline : DeclRef → Option FileOutline → Option (ℕ × ℕ)
in_outline d None = None
in_outline d (Some o) = file_offset_of d.file (slice_get o.places d.number)

-- the file of a member and its offset there: outside functions the identifier of a number among those that the file declares
abbrev pub file_place_of : List FileOutline → MemberPlace → Option (ℕ × ℕ)
file_place_of os (places.Declared d) = in_outline d (slice_get os d.file)
file_place_of os (places.Local l) = Some (l.file, l.offset)

abbrev pub package_fault_at : Rule → Option (ℕ × ℕ) → List PackageFault
package_fault_at rule None = []
package_fault_at rule (Some p) = fault_in p.0 p.1 rule ∷ []

-- a rule that is broken at a member
abbrev pub located : List FileOutline → MemberPlace → Rule → List PackageFault
located os place rule = package_fault_at rule (file_place_of os place)

abbrev pub all_located : List FileOutline → List MemberFault → List PackageFault
all_located os fs = flat_map (λ f. located os f.place f.rule) fs
