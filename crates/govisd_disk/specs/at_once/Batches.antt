-- Files that are read in batches.
use Rattle.std.specs.Prelude.{ℕ, ⊤, List, All}
use Rattle.go_graph_core.specs.Sources.{IsRead}
use Rattle.go_graph_core.specs.Workspaces.{given_files, texts_of_files}
use Rattle.govisd_disk.specs.declared.at_once.reading.Batch.{Batch}
use Rattle.govisd_disk.specs.declared.at_once.reading.Batch.TheVariants.{Begun, Read}

-- the names and texts of a batch
abbrev pub batch_of : Batch → List (List ℕ × List ℕ)
batch_of (Begun h) = given_files h.promise.0.value.items
batch_of (Read v) = texts_of_files v.items

-- each file that is read has the content that its text has
abbrev pub IsSound : Batch → Type 0
IsSound (Begun h) = ⊤
IsSound (Read v) = All IsRead v.items
