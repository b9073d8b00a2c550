-- The names that fit in one of several forms of a text.
--
-- The Go specification, "Declarations and scope", "Qualified identifiers", "Selectors".
use Rattle.std.specs.Prelude.{◌≡◌, ◌↔◌, ◌⊎◌, ◌<◌, ℕ, List, [], Some, AllPairs, Contains, slice_get, string_bytes}
use Rattle.std.specs.List.{AllZip}
use Rattle.std.specs.declared.cmp.Ordering.TheVariants.{Less}
use Rattle.go_path_core.specs.text_core.declared.rule.Rule.{Rule}
use Rattle.go_query_core.specs.snap_core.Snapshots.{SnapshotModel}
use Rattle.go_graph_core.specs.Workspaces.{by_bytes}
use Rattle.go_query_core.specs.Completing.{IsCompletion, IsUnasked}
use Rattle.go_reference_core.specs.declared.forms.forms.Fitting.{Fitting}
use Rattle.go_reference_core.specs.declared.forms.forms.Formed.{Formed}

-- a form: a snapshot, and where a name is asked for
pub record FormModel : Type 0 where
  pub snapshot : SnapshotModel
  pub offset : ℕ

abbrev pub form_shown : Formed → FormModel
form_shown f = record { snapshot = f.snapshot.now; offset = f.offset }

-- a name with the number of a form
pub record FittingModel : Type 0 where
  pub name : List ℕ
  pub form : ℕ

abbrev pub fitting_shown : Fitting → FittingModel
fitting_shown f = record { name = string_bytes f.name; form = f.form }

-- the names that could stand at the place of a form; none where nothing is asked for there
abbrev pub AreNamesIn : List ℕ → List ℕ → FormModel → List (List ℕ) → Type 0
AreNamesIn path file f names =
    IsCompletion f.snapshot path file f.offset names ⊎ ((names ≡ []) × ((rule : Rule) × IsUnasked f.snapshot path file f.offset rule))

abbrev pub IsNamed : List (List ℕ) → List ℕ → Type 0
IsNamed names name = Contains names name

-- a name is among those of the form of a number
pub record IsAmong (all : List (List (List ℕ))) (number : ℕ) (name : List ℕ) : Type 0 where
  pub names : List (List ℕ)
  pub there : slice_get all number ≡ Some names
  pub among : IsNamed names name

-- it is among those of one of the first so many forms
pub record IsAmongFirst (all : List (List (List ℕ))) (count : ℕ) (name : List ℕ) : Type 0 where
  pub number : ℕ
  pub below : number < count
  pub among : IsAmong all number name

-- it is among those of the form of a number, and of none before it
pub record IsFirst (all : List (List (List ℕ))) (x : FittingModel) : Type 0 where
  pub among : IsAmong all x.form x.name
  pub none_before : IsAmongFirst all x.form x.name → ⊥

-- by form, and those of a form in byte order
pub data IsBefore (x y : FittingModel) : Type 0 where
  ByForm : x.form < y.form → IsBefore x y
  ByName : x.form ≡ y.form → by_bytes x.name y.name ≡ Less → IsBefore x y

-- of each form the names that could stand at its place, and of these exactly each with the first form that has it, in order, each once
pub record AreFitting (path file : List ℕ) (fs : List FormModel) (found : List FittingModel) : Type 0 where
  pub all : List (List (List ℕ))
  pub are : AllZip (AreNamesIn path file) fs all
  pub ordered : AllPairs IsBefore found
  pub same : (x : FittingModel) → Contains found x ↔ IsFirst all x
