-- What is on a board.
use Rattle.std.proofs.Common.{◌≡◌, ℕ, zero, suc, ◌+◌, ◌<◌, List, [], ◌∷◌, All, Option, Some, None, Bor, take, refl, sym, ap, subst, ◌∙◌, arith}
use Rattle.std.specs.Prelude.{MatchOption, slice_get}
use Rattle.std.specs.Option.{option_copied}
use Rattle.std.proofs.lemmas.Option.{slice_get_within}
use Rattle.go_graph_core.proofs.Places.{none_read}
use Rattle.go_graph_core.specs.Workspaces.{AreAllRead, IsReadWorkspace, IsWorkspace, PackageModel}
use Rattle.go_submit_core.proofs.Lists.{none_last}
use Rattle.go_submit_core.proofs.Sounds.{last_sound}
use Rattle.go_submit_core.specs.snap_core.Snapshots.{SnapshotModel}
use Rattle.go_submit_core.specs.Published.{AreSound, IsOneWorker, last_of, sources_of}
use Rattle.go_submit_core.specs.declared.published.PublishedBatch.{PublishedBatch}
use Rattle.go_headline_laws.specs.SessionHeadline.{IsBoard, PublishedAreBoards}
use Rattle.go_headline_laws.specs.separation.Laws.{RunsAreSound, SourcesAreWell}

-- of a board that a caller has

pub last_is : (bs : List PublishedBatch) (found : Option (Bor PublishedBatch)) → AreSound bs → option_copied found ≡ last_of bs → MatchOption found (bs ≡ []) (λ b. (last_of bs ≡ Some b.now) × IsOneWorker (sources_of bs) b.now.snapshot)
last_is bs None sound value = none_last bs (sym value)
last_is bs (Some b) sound value = (sym value, last_sound bs b.now sound (sym value))

pub read_of : (s t : SnapshotModel) (ps : List PackageModel) → t ≡ s → ps ≡ t.sources → IsWorkspace ps → All AreAllRead ps → IsReadWorkspace s.sources
read_of s t ps same are well read = subst (λ (x : SnapshotModel). IsReadWorkspace x.sources) same (subst IsReadWorkspace are (record { well = well; read = read }))

pub board_of : (bs : List PublishedBatch) (b : PublishedBatch) → AreSound bs → (last_of bs ≡ Some b) × IsOneWorker (sources_of bs) b.snapshot → IsReadWorkspace b.snapshot.sources → IsBoard bs
board_of bs b sound last read = record { read = subst IsReadWorkspace last.1.sources read; sound = sound }

pub no_board : (bs : List PublishedBatch) → AreSound bs → bs ≡ [] → IsBoard bs
no_board bs sound none = record { read = subst (λ (l : List PublishedBatch). IsReadWorkspace (sources_of l)) (sym none) none_read; sound = sound }

-- of what is published

in_front : (xs : List PublishedBatch) (k j : ℕ) (b : PublishedBatch) → slice_get (take k xs) j ≡ Some b → (slice_get xs j ≡ Some b) × (take (j + 1) (take k xs) ≡ take (j + 1) xs)
in_front [] zero j b at = (at, refl)
in_front [] (suc k) j b at = (at, refl)
in_front (x ∷ xs) zero j b at = (let within : j < 0 = slice_get_within (take 0 (x ∷ xs)) j b at in absurd (omega (arith, within)))
in_front (x ∷ xs) (suc k) zero b at = (at, refl)
in_front (x ∷ xs) (suc k) (suc j) b at =
    let r = in_front xs k j b at in
    let next : suc j + 1 ≡ suc (j + 1) = omega arith in
    (r.0, ap (λ n. take n (x ∷ take k xs)) next ∙ (ap (λ (l : List PublishedBatch). x ∷ l) r.1 ∙ sym (ap (λ n. take n (x ∷ xs)) next)))

front_sound : (bs : List PublishedBatch) (k : ℕ) → AreSound bs → AreSound (take k bs)
front_sound bs k sound = record {
  each = λ j b at.
      let f = in_front bs k j b at in
      subst (λ (l : List PublishedBatch). IsOneWorker (sources_of l) b.snapshot) (sym f.1) (sound.each j b f.0);
}

pub published_are_boards : RunsAreSound → SourcesAreWell → PublishedAreBoards
published_are_boards sound well es rs t fit run k = record { read = well es rs t fit run k; sound = front_sound t.published k (sound es rs t run) }
