-- The batches of a board by their numbers.
use Rattle.std.proofs.Common.{◌≡◌, ℕ, ◌-◌, ◌<◌, ◌≤◌, List, [], Option, Some, None, Bor, length, take, sym, ap, ◌∙◌, subst, arith}
use Rattle.std.specs.Prelude.{MatchOption, ⊤, slice_get}
use Rattle.std.specs.Option.{option_copied}
use Rattle.go_graph_core.specs.Workspaces.{PackageModel, packages_inside}
use Rattle.go_complete_core.specs.snap_core.Snapshots.{SnapshotModel}
use Rattle.go_complete_core.specs.snap_core.declared.fault.PlacedFault.{PlacedFault}
use Rattle.go_board_core.specs.submit_core.Published.{AreSound, IsOneWorker, last_of, sources_of}
use Rattle.go_board_core.specs.submit_core.Trees.{TreeModel}
use Rattle.go_board_core.specs.submit_core.declared.published.PublishedBatch.{PublishedBatch}
use Rattle.go_board_core.specs.submit_core.Lists.{none_last}
use Rattle.go_board_core.specs.submit_core.Sounds.{last_sound}
use Rattle.go_session_core.specs.queries.Built.{IsBuilt, faults_inside}
use Rattle.go_session_core.specs.declared.queries.faults.Fault.{Fault}

pub last_is : (bs : List PublishedBatch) (found : Option (Bor PublishedBatch)) → AreSound bs → option_copied found ≡ last_of bs → MatchOption found (bs ≡ []) (λ b. (last_of bs ≡ Some b.now) × IsOneWorker (sources_of bs) b.now.snapshot)
last_is bs None sound value = none_last bs (sym value)
last_is bs (Some b) sound value = (sym value, last_sound bs b.now sound (sym value))

pub numbered_is : (bs : List PublishedBatch) (n : ℕ) (found : Option (Bor PublishedBatch)) → AreSound bs → 0 < n → n ≤ length bs → option_copied found ≡ slice_get bs (n - 1) → MatchOption found ⊤ (λ b. (n ≤ length bs) × IsOneWorker (sources_of (take n bs)) b.now.snapshot)
numbered_is bs n None sound some within value = tt
numbered_is bs n (Some b) sound some within value =
    (within, subst (λ (k : ℕ). IsOneWorker (sources_of (take k bs)) b.now.snapshot) (omega (arith, some)) (sound.each (n - 1) b.now (sym value)))

pub built_is : (bs : List PublishedBatch) (tree : TreeModel) (n : ℕ) (b : PublishedBatch) (own : List ℕ) (s : SnapshotModel) (faults : List Fault) → n ≤ length bs → IsOneWorker (sources_of (take n bs)) b.snapshot → packages_inside tree.own b.snapshot.sources ≡ tree.packages → own ≡ tree.own → s ≡ b.snapshot → faults ≡ faults_inside own s.sources s.faults → IsBuilt bs tree n faults
built_is bs tree n b own s faults within one is mine shown are = record {
  within = within;
  tree_is = ap (packages_inside tree.own) (sym one.sources) ∙ is;
  snapshot = b.snapshot;
  one_worker = one;
  faults_are = are ∙ (λ i. faults_inside (mine i) (shown i).sources (shown i).faults);
}
