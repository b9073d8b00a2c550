-- When packages are others in which a name is replaced, and mean what they meant.
use Rattle.std.specs.Prelude.{◌≡◌, ◌+◌, ◌≤◌, ◌^◌, ℕ, List, length, map, Contains}
use Rattle.go_lsp_core.specs.edits.Edits.{Part, Stand, edited, part}
use Rattle.go_graph_core.specs.Sources.{SourceModel}
use Rattle.go_graph_core.specs.Workspaces.{PackageModel}
use Rattle.go_query_core.specs.snap_core.Snapshots.{SnapshotModel}
use Rattle.go_reference_core.specs.rename.Moving.{AllPaired, Corresponds, Moves, names_in}

-- the parts at which a name of so many bytes begins, with another one in the place of each
abbrev pub name_parts : ℕ → List ℕ → List ℕ → List Part
name_parts len new offsets = map (λ at. part at (at + len) new) offsets

-- one of them ends where no offset is
pub record HasNoEnd (len : ℕ) (offsets : List ℕ) : Type 0 where
  pub at : ℕ
  pub there : Contains offsets at
  pub far : 2 ^ 64 ≤ at + len

-- the parts are parts of the text, one after another, and this is the text in which they are replaced
pub record IsRenamedText (text : List ℕ) (parts : List Part) (other : List ℕ) : Type 0 where
  pub stand : Stand text 0 parts
  pub is : other ≡ edited text parts

-- a file has the same name, and the text in which names are replaced
pub record IsRenamedFile (m : Moves) (new : List ℕ) (number file : ℕ) (f g : SourceModel) : Type 0 where
  pub name : g.name ≡ f.name
  pub text : IsRenamedText f.text (name_parts m.old new (names_in m number file)) g.text

-- a package has the same path, and such files
pub record IsRenamedPackage (m : Moves) (new : List ℕ) (number : ℕ) (p q : PackageModel) : Type 0 where
  pub path : q.0 ≡ p.0
  pub files : AllPaired (IsRenamedFile m new number) p.1 q.1

abbrev pub AreRenamed : Moves → List ℕ → List PackageModel → List PackageModel → Type 0
AreRenamed m new ps qs = AllPaired (IsRenamedPackage m new) ps qs

-- names are replaced in a snapshot by this one and nothing else is, and each occurrence has what it had, and each fault stays
pub record Keeps (m : Moves) (new : List ℕ) (s t : SnapshotModel) : Type 0 where
  pub len : length new ≡ m.new
  pub texts : AreRenamed m new s.sources t.sources
  pub corresponds : Corresponds m s t
