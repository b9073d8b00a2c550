-- A batch that one worker gives keeps the published ones sound.
use Rattle.std.proofs.Common.{◌≡◌, ℕ, ◌+◌, ◌-◌, ◌<◌, All, List, [], ◌∷◌, ◌++◌, length, take, Option, Some, None, refl, sym, ap, ◌∙◌, subst, ⊎_elim, Bor, arith}
use Rattle.std.specs.Prelude.{slice_get, MatchOption}
use Rattle.std.specs.Option.{option_copied}
use Rattle.std.proofs.lemmas.List.{take-append-le, take_all, flat_map_more, length_push}
use Rattle.std.proofs.lemmas.List.Elements.{All-append, All-nil}
use Rattle.std.proofs.Math.Seq.{take-append-add}
use Rattle.std.proofs.lemmas.Option.{slice_get_within, get_or_from_slice_get}
use Rattle.go_graph_core.specs.Workspaces.{PackageModel, AreAllRead, IsWorkspace, replaced}
use Rattle.go_package_core.specs.package_part.Parts.{PartModel}
use Rattle.go_snap_core.specs.whole_workspace.Inputs.{IsPartOf}
use Rattle.go_snap_core.specs.Snapshots.{IsPartAt, IsSnapshot, SnapshotModel}
use Rattle.go_submit_core.specs.declared.submission.Submission.{Submission}
use Rattle.go_submit_core.specs.declared.published.PublishedBatch.{PublishedBatch}
use Rattle.go_submit_core.specs.Laws.{submissions_of}
use Rattle.go_submit_core.specs.Modules.{with_trees}
use Rattle.go_submit_core.specs.Published.{AreSound, IsOneWorker, last_of, modules_of, sources_of}
use Rattle.go_submit_core.specs.Submitted.{AreWorkspaces, submitted}
use Rattle.go_submit_core.specs.mirrors.Keeping.{IsKept}
use Rattle.go_submit_core.proofs.Lists.{at_end, at_push, fold_push, none_last, numbered_at}

pub sound_push : (bs : List PublishedBatch) (b : PublishedBatch) → AreSound bs → IsOneWorker (sources_of (bs ++ b ∷ [])) b.snapshot → AreSound (bs ++ b ∷ [])
sound_push bs b s is = record {
  each = λ k x e.
      ⊎_elim
      (λ (l : (k < length bs) × (slice_get bs k ≡ Some x)). subst (λ (l' : List PublishedBatch). IsOneWorker (sources_of l') x.snapshot) (sym (take-append-le (k + 1) bs (b ∷ []) (omega (arith, l.0)))) (s.each k x l.1))
      (λ (r : (k ≡ length bs) × (b ≡ x)).
      let whole : take (k + 1) (bs ++ b ∷ []) ≡ bs ++ b ∷ [] = ap (λ n. take (n + 1) (bs ++ b ∷ [])) r.0 ∙ take-append-add bs (b ∷ []) 1 in
      subst (λ (y : PublishedBatch). IsOneWorker (sources_of (take (k + 1) (bs ++ b ∷ []))) y.snapshot) r.1 (subst (λ (l' : List PublishedBatch). IsOneWorker (sources_of l') b.snapshot) (sym whole) is))
      (at_end bs b k x e);
}

-- the last snapshot is of all sources
pub last_sound : (bs : List PublishedBatch) (b : PublishedBatch) → AreSound bs → last_of bs ≡ Some b → IsOneWorker (sources_of bs) b.snapshot
last_sound bs b s e =
    let within = slice_get_within bs (length bs - 1) b e in
    subst (λ (l : List PublishedBatch). IsOneWorker (sources_of l) b.snapshot) (take_all (length bs - 1 + 1) bs (omega (arith, within))) (s.each (length bs - 1) b e)

pub sources_push : (bs : List PublishedBatch) (b : PublishedBatch) → sources_of (bs ++ b ∷ []) ≡ submitted (sources_of bs) b.submissions
sources_push bs b = fold_push (λ w x. submitted w x.submissions) [] bs b

modules_push : (bs : List PublishedBatch) (b : PublishedBatch) → modules_of (bs ++ b ∷ []) ≡ with_trees (modules_of bs) b.submissions
modules_push bs b = fold_push (λ ms x. with_trees ms x.submissions) [] bs b

pub last_sources : (bs : List PublishedBatch) (found : Option (Bor PublishedBatch)) → AreSound bs → option_copied found ≡ last_of bs → MatchOption found (sources_of bs ≡ []) (λ b. b.now.snapshot.sources ≡ sources_of bs)
last_sources bs None s e = ap sources_of (none_last bs (sym e))
last_sources bs (Some b) s e = (last_sound bs b.now s (sym e)).sources

pub submitted_push : (ps : List PackageModel) (ss : List Submission) (s : Submission) → submitted ps (ss ++ s ∷ []) ≡ replaced s.tree.own (submitted ps ss) s.tree.packages
submitted_push ps ss s = fold_push (λ w x. replaced x.tree.own w x.tree.packages) ps ss s

last_push : (bs : List PublishedBatch) (b : PublishedBatch) → last_of (bs ++ b ∷ []) ≡ Some b
last_push bs b = at_push bs b (length (bs ++ b ∷ []) - 1) (omega (arith, length_push bs b))

-- the batches with one more are kept
pub kept_push : (bs : List PublishedBatch) (b : PublishedBatch) (last : Option PublishedBatch) (modules longer : List (List ℕ)) → IsKept bs last modules → IsOneWorker (submitted (sources_of bs) b.submissions) b.snapshot → longer ≡ with_trees modules b.submissions → AreWorkspaces b.submissions → IsKept (bs ++ b ∷ []) (Some b) longer
kept_push bs b last modules longer kept is more trees = record {
  last_is = sym (last_push bs b);
  sound = sound_push bs b kept.sound (subst (λ (ps : List PackageModel). IsOneWorker ps b.snapshot) (sym (sources_push bs b)) is);
  modules_are = more ∙ ap (λ ms. with_trees ms b.submissions) kept.modules_are ∙ sym (modules_push bs b);
  trees = subst AreWorkspaces (flat_map_more (λ (x : PublishedBatch). x.submissions) [] bs b) (All-append (λ (s : Submission). IsWorkspace s.tree.packages) (submissions_of bs) b.submissions kept.trees trees);
}

pub kept_none : (modules : List (List ℕ)) → modules ≡ [] → IsKept [] None modules
kept_none modules e = record { last_is = refl; sound = record { each = λ k b at. absurd (cc) }; modules_are = e; trees = All-nil (λ (s : Submission). IsWorkspace s.tree.packages) }

-- the files of a package whose part is published are as they are read
pub part_is_read : (s : SnapshotModel) (path : List ℕ) (p : PartModel) → All AreAllRead s.sources → IsSnapshot s.sources s.parts s.faults → IsPartAt s.sources s.parts path p → AreAllRead p.input.source
part_is_read s path p all whole at =
    let is : IsPartOf s.sources s.parts (at.number + 0) (path, at.files) (Some p) = numbered_at (λ n q part. IsPartOf s.sources s.parts n q part) 0 s.sources s.parts at.number (path, at.files) (Some p) whole.made at.numbered at.there in
    let read : AreAllRead (path, at.files) = subst AreAllRead (get_or_from_slice_get s.sources at.number (path, at.files) (path, at.files) at.numbered) (all at.number (path, at.files) (slice_get_within s.sources at.number (path, at.files) at.numbered)) in
    subst AreAllRead (sym is.1.source) read
