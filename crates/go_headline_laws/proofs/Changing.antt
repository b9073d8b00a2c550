-- An edit changes its session's module alone.
use Rattle.std.proofs.Common.{◌≡◌, ℕ, ◌+◌, inl, inr, true, false, cond, List, [], ◌∷◌, ◌++◌, get_or, take, All, Option, Some, refl, ap, ◌∙◌, subst}
use Rattle.std.specs.Prelude.{slice_get}
use Rattle.std.proofs.lemmas.List.{take_more}
use Rattle.std.proofs.lemmas.List.Elements.{All-contains, All-head, All-tail, Contains-get_or}
use Rattle.std.proofs.lemmas.Option.{get_or_from_slice_get, slice_get_within}
use Rattle.go_path_core.specs.text_core.Each.{true_or_false}
use Rattle.go_term_core.proofs.Members.{In, contained_in, in_at, in_contained}
use Rattle.go_graph_core.specs.Sources.{SourceModel}
use Rattle.go_graph_core.specs.Workspaces.{IsWorkspace, PackageModel, files_at, is_path_inside}
use Rattle.go_submit_core.specs.Laws.{AreWorkspaces, BatchesReplace, LastTrees, LiesInNoOther, last_files, submissions_of}
use Rattle.go_submit_core.specs.Published.{sources_of}
use Rattle.go_submit_core.specs.declared.published.PublishedBatch.{PublishedBatch}
use Rattle.go_submit_core.specs.declared.submission.Submission.{Submission}
use Rattle.go_session_core.specs.overlay.Laws.{EditsChangeOneFile}
use Rattle.go_sched_core.specs.Service.{Service, empty}
use Rattle.go_sched_core.specs.Steps.{Run}
use Rattle.go_sched_core.specs.declared.event.Event.{Event}
use Rattle.go_sched_core.specs.declared.event.Reply.{Reply}
use Rattle.go_headline_laws.specs.separation.Laws.{AreHandedIn, OwnPaths, PublishedTrees, SubmissionsAreOwn, TreesAreWell}
use Rattle.go_headline_laws.proofs.SeparationTrees.{batch_all, of_batch}
use Rattle.go_headline_laws.specs.Headline.{ChangesOwnAlone, Leaves}

-- where no tree is of a module in which the path lies, no files of it are put
none_put : (found : Option (List SourceModel)) (ss : List Submission) (path : List ℕ) → All (λ (x : Submission). is_path_inside x.tree.own path ≡ false) ss → last_files found ss path ≡ found
none_put found [] path all = refl
none_put found (s ∷ ss) path all =
    let P : Submission → Type 0 = λ x. is_path_inside x.tree.own path ≡ false in
    ap (λ b. last_files (cond b (files_at s.tree.packages path) found) ss path) (All-head P s ss all) ∙ none_put found ss path (All-tail P s ss all)

-- the batch of a number is among them, and behind those before it
batch_in : (bs : List PublishedBatch) (k : ℕ) (b : PublishedBatch) → slice_get bs k ≡ Some b → In bs b
batch_in bs k b at = subst (In bs) (get_or_from_slice_get bs k b b at) (in_at bs k b (slice_get_within bs k b at))

front : (bs : List PublishedBatch) (k : ℕ) (b : PublishedBatch) → slice_get bs k ≡ Some b → take (k + 1) bs ≡ take k bs ++ b ∷ []
front bs k b at = take_more bs k b (slice_get_within bs k b at) ∙ ap (λ (x : PublishedBatch). take k bs ++ x ∷ []) (get_or_from_slice_get bs k b b at)

module _ (replace : BatchesReplace) (trees : LastTrees) (t : Service) (well : AreWorkspaces (submissions_of t.published)) (k : ℕ) (b : PublishedBatch) (at : slice_get t.published k ≡ Some b) where
  abbrev before : List PublishedBatch
  before = take k t.published

  leaves : (path : List ℕ) → All (λ (x : Submission). is_path_inside x.tree.own path ≡ false) b.submissions → Leaves t k path
  leaves path none =
      ap (λ (bs : List PublishedBatch). files_at (sources_of bs) path) (front t.published k b at)
      ∙ (ap (λ (ps : List PackageModel). files_at ps path) (replace before b)
      ∙ (trees (sources_of before) b.submissions path (batch_all (λ (x : Submission). IsWorkspace x.tree.packages) t.published b (batch_in t.published k b at) well) ∙ none_put (files_at (sources_of before) path) b.submissions path none))

  others : (own path : List ℕ) → LiesInNoOther own path (submissions_of t.published) → All (λ (x : Submission). x.tree.own ≡ own → ⊥) b.submissions → Leaves t k path
  others own path lies none = leaves path (λ i d lt.
      let x : Submission = get_or b.submissions i d in
      let there : In (submissions_of t.published) x = of_batch t.published b x (batch_in t.published k b at) (in_contained b.submissions x (Contains-get_or b.submissions i d lt)) in
      elim (true_or_false (is_path_inside x.tree.own path)) [
        | inl y ↦ absurd (none i d lt (All-contains (λ (z : Submission). is_path_inside z.tree.own path ≡ true → z.tree.own ≡ own) (submissions_of t.published) x lies (contained_in (submissions_of t.published) x there) y))
        | inr n ↦ n
      ])

pub changes_own_alone : OwnPaths → PublishedTrees → SubmissionsAreOwn → EditsChangeOneFile → BatchesReplace → LastTrees → TreesAreWell
    → (es : List Event) (rs : List Reply) (t : Service) → AreHandedIn es → Run empty es rs t → ChangesOwnAlone t
changes_own_alone own_paths published own_trees edit replace trees trees_well es rs t fit x =
    let well : AreWorkspaces (submissions_of t.published) = trees_well es rs t fit x in
    record {
      edits = λ old new path name text e. (e.own, e.inside, edit old.packages new.packages path name text e.edited);
      submits = λ id tree ticket u step. own_trees t id tree ticket u step;
      last = λ own path taken inside. published es rs t fit x own path taken inside;
      leaves = λ k b at path none. leaves replace trees t well k b at path none;
      others = λ k b at own path taken inside none. others replace trees t well k b at own path (own_paths es rs t x own path taken inside) none;
    }
