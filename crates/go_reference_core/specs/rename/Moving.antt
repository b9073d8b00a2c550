-- When a snapshot is another one in which a name is replaced, and nothing else.
--
-- The Go specification, "Declarations and scope".
use Rattle.std.specs.Prelude.{◌≡◌, ℕ, ◌+◌, ◌*◌, ⊤, nat_lt, List, [], length, map, count_by, Option, Some, None, slice_get, unwrap_or}
use Rattle.go_term_core.specs.declared.term.LocalPlace.{LocalPlace}
use Rattle.go_term_core.specs.declared.term.MemberPlace.{MemberPlace}
use Rattle.go_term_core.specs.declared.term.MemberPlace.TheVariants as member
use Rattle.go_query_core.specs.snap_core.declared.fault.PlacedFault.{PlacedFault}
use Rattle.go_denote_core.specs.declared.things.Outcome.TheVariants as outcomes
use Rattle.go_graph_core.specs.Imports.{IsNumbered}
use Rattle.go_graph_core.specs.Sources.{SourceModel}
use Rattle.go_graph_core.specs.Workspaces.{PackageModel}
use Rattle.go_handle_core.specs.Declarations.{Declaration, Universe, OfError, Package, InFile}
use Rattle.go_query_core.specs.package_core.PackagePartParts.{FileOf, PartModel}
use Rattle.go_query_core.specs.report_core.UsageUsed.{FileUse, TheOutcome}
use Rattle.go_query_core.specs.snap_core.Snapshots.{SnapshotModel}
use Rattle.go_reference_core.specs.declared.rename.names.Names.{Names}

-- how long a name is and the one in its place, and where it begins in the files of the packages, by their numbers
pub record Moves : Type 0 where
  pub old : ℕ
  pub new : ℕ
  pub names : List (List (List ℕ))

abbrev pub moves_of : Names → Moves
moves_of n = record { old = n.old; new = n.new; names = map (λ v. map (λ w. w.items) v.items) n.offsets.items }

abbrev pub offsets_of : Option (List (List ℕ)) → ℕ → List ℕ
offsets_of None file = []
offsets_of (Some fs) file = unwrap_or (slice_get fs file) []

-- where the name begins in the file of two numbers
abbrev pub names_in : Moves → ℕ → ℕ → List ℕ
names_in m number file = offsets_of (slice_get m.names number) file

-- how often it begins there before an offset
abbrev pub names_before : Moves → ℕ → ℕ → ℕ → ℕ
names_before m number file offset = count_by (λ at. nat_lt at offset) (names_in m number file)

-- an offset of the file of two numbers comes to lie at another one: each name before it is replaced
abbrev pub Lies : Moves → ℕ → ℕ → ℕ → ℕ → Type 0
Lies m number file a b = b + names_before m number file a * m.old ≡ a + names_before m number file a * m.new

-- a local of the package of a path comes to lie where another one is
pub record IsMovedLocal (m : Moves) (ps : List PackageModel) (path : List ℕ) (a b : LocalPlace) : Type 0 where
  pub file : b.file ≡ a.file
  pub number : ℕ
  pub files : List SourceModel
  pub numbered : IsNumbered ps path number files
  pub lies : Lies m number a.file a.offset b.offset

abbrev pub IsMovedPlaceOfLocal : Moves → List PackageModel → List ℕ → LocalPlace → MemberPlace → Type 0
IsMovedPlaceOfLocal m ps path a (member.Declared decl) = ⊥
IsMovedPlaceOfLocal m ps path a (member.Local b) = IsMovedLocal m ps path a b

-- what is declared outside function bodies keeps its number
abbrev pub IsMovedPlace : Moves → List PackageModel → List ℕ → MemberPlace → MemberPlace → Type 0
IsMovedPlace m ps path (member.Declared decl) q = q ≡ member.Declared decl
IsMovedPlace m ps path (member.Local a) q = IsMovedPlaceOfLocal m ps path a q

abbrev pub IsMovedInFile : Moves → List PackageModel → List ℕ → MemberPlace → Declaration → Type 0
IsMovedInFile m ps path place (Universe name) = ⊥
IsMovedInFile m ps path place OfError = ⊥
IsMovedInFile m ps path place (Package its) = ⊥
IsMovedInFile m ps path place (InFile its there) = (its ≡ path) × IsMovedPlace m ps path place there

-- a declaration is where another one comes to lie
abbrev pub IsMovedDeclaration : Moves → List PackageModel → Declaration → Declaration → Type 0
IsMovedDeclaration m ps (Universe name) e = e ≡ Universe name
IsMovedDeclaration m ps OfError e = e ≡ OfError
IsMovedDeclaration m ps (Package path) e = e ≡ Package path
IsMovedDeclaration m ps (InFile path place) e = IsMovedInFile m ps path place e

abbrev pub KeepsDeclared : Moves → List PackageModel → Declaration → TheOutcome → Type 0
KeepsDeclared m ps d (outcomes.Declared e) = IsMovedDeclaration m ps d e
KeepsDeclared m ps d (outcomes.Selected e path) = ⊥
KeepsDeclared m ps d (outcomes.Refused rule) = ⊥

abbrev pub KeepsSelected : Moves → List PackageModel → Declaration → TheOutcome → Type 0
KeepsSelected m ps d (outcomes.Declared e) = ⊥
KeepsSelected m ps d (outcomes.Selected e path) = IsMovedDeclaration m ps d e
KeepsSelected m ps d (outcomes.Refused rule) = ⊥

-- an outcome is another one: the same rule, or the declaration where that one comes to lie
abbrev pub IsMovedOutcome : Moves → List PackageModel → TheOutcome → TheOutcome → Type 0
IsMovedOutcome m ps (outcomes.Declared d) o = KeepsDeclared m ps d o
IsMovedOutcome m ps (outcomes.Selected d path) o = KeepsSelected m ps d o
IsMovedOutcome m ps (outcomes.Refused rule) o = o ≡ outcomes.Refused rule

-- an occurrence stands where one of the file of two numbers comes to lie, and has what that had
pub record IsMovedUse (m : Moves) (ps : List PackageModel) (number file : ℕ) (u v : FileUse) : Type 0 where
  pub lies : Lies m number file u.offset v.offset
  pub role : v.role ≡ u.role
  pub outcome : IsMovedOutcome m ps u.outcome v.outcome

-- two lists correspond, number by number
pub record AllPaired {A B : Type 0} (R : ℕ → A → B → Type 0) (xs : List A) (ys : List B) : Type 0 where
  pub many : length ys ≡ length xs
  pub each : (k : ℕ) (x : A) (y : B) → slice_get xs k ≡ Some x → slice_get ys k ≡ Some y → R k x y

abbrev pub IsMovedFile : Moves → List PackageModel → ℕ → ℕ → FileOf → FileOf → Type 0
IsMovedFile m ps number file f g = AllPaired (λ _. IsMovedUse m ps number file) f.answers.uses g.answers.uses

-- so do the parts of the package of a number
abbrev pub IsMovedPart : Moves → List PackageModel → ℕ → Option PartModel → Option PartModel → Type 0
IsMovedPart m ps number None None = ⊤
IsMovedPart m ps number None (Some q) = ⊥
IsMovedPart m ps number (Some p) None = ⊥
IsMovedPart m ps number (Some p) (Some q) = AllPaired (IsMovedFile m ps number) p.content.files q.content.files

abbrev pub IsSamePath : ℕ → PackageModel → PackageModel → Type 0
IsSamePath number p q = q.0 ≡ p.0

-- a fault is another one, where that comes to lie
pub record IsMovedFault (m : Moves) (f g : PlacedFault) : Type 0 where
  pub of_package : g.«package» ≡ f.«package»
  pub file : g.file ≡ f.file
  pub rule : g.rule ≡ f.rule
  pub lies : Lies m f.«package» f.file f.offset g.offset

-- each occurrence has what it had, and each fault stays, where names are replaced: the packages, their files, the occurrences of these, and the faults
-- correspond one to one
pub record Corresponds (m : Moves) (s t : SnapshotModel) : Type 0 where
  pub paths : AllPaired IsSamePath s.sources t.sources
  pub parts : AllPaired (IsMovedPart m s.sources) s.parts t.parts
  pub faults : AllPaired (λ _. IsMovedFault m) s.faults t.faults
