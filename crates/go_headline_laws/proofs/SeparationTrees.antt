-- Each published tree is a workspace, where each one that is submitted is.
use Rattle.std.proofs.Common.{◌≡◌, ◌⊎◌, inl, inr, ℕ, ◌+◌, List, [], ◌∷◌, ◌++◌, All, get_or, take, sym, subst, Option, Some, None}
use Rattle.std.specs.List.{fold}
use Rattle.std.proofs.lemmas.List.Elements.{All-contains, All-head, All-tail, All-take, Contains-get_or}
use Rattle.go_term_core.proofs.Members.{In, contained_in, in_at, in_back, in_contained, in_either, in_front}
use Rattle.go_submit_core.specs.snap_core.Snapshots.{SnapshotModel}
use Rattle.go_sched_core.specs.batch_core.Batches.{BatchModel}
use Rattle.go_graph_core.proofs.Keeping.{read_replaced}
use Rattle.go_graph_core.proofs.Places.{none_read}
use Rattle.go_graph_core.specs.Workspaces.{IsReadWorkspace, PackageModel, replaced}
use Rattle.go_submit_core.specs.Laws.{submissions_of}
use Rattle.go_submit_core.specs.Published.{batch_of}
use Rattle.go_submit_core.specs.Submitted.{submission_with, submitted}
use Rattle.go_submit_core.specs.Trees.{TreeModel}
use Rattle.go_submit_core.specs.declared.published.PublishedBatch.{PublishedBatch}
use Rattle.go_submit_core.specs.declared.submission.Submission.{Submission}
use Rattle.go_submit_core.proofs.Trees.{published_modules}
use Rattle.go_sched_core.specs.Service.{Service, counts, empty}
use Rattle.go_sched_core.specs.Steps.{IsFormed, Run, with_batch, with_formed}
use Rattle.go_sched_core.specs.declared.event.Event.{Event}
use Rattle.go_sched_core.specs.declared.event.Reply.{Reply}
use Rattle.go_sched_core.specs.declared.running.Running.{Running}
use Rattle.go_headline_laws.specs.separation.Laws.{AreHandedIn, IsHandedIn, PublishedTrees, SourcesAreWell, TreesAreWell}
use Rattle.go_headline_laws.proofs.SeparationApart.{own_paths}
use Rattle.go_headline_laws.proofs.SeparationCases.{Keeps, run_kept}
use Rattle.go_headline_laws.proofs.SeparationLists.{in_push}

-- what was submitted and not given back: it is published, runs or waits

abbrev RunsWith : Option Running → Submission → Type 0
RunsWith None x = ⊥
RunsWith (Some r) x = In r.submissions x

abbrev Known : Service → Submission → Type 0
Known s x = In (submissions_of s.published) x ⊎ (RunsWith s.running x ⊎ In s.waiting x)

-- its tree is a workspace of which each file is read
abbrev HasReadTree : Submission → Type 0
HasReadTree x = IsReadWorkspace x.tree.packages

abbrev Well : Service → Type 0
Well s = (x : Submission) → Known s x → HasReadTree x

fewer : (s t : Service) → ((x : Submission) → Known t x → Known s x) → Well s → Well t
fewer s t less h x known = h x (less x known)

submitted_well : (s : Service) (n : ℕ) (tree : TreeModel) → IsReadWorkspace tree.packages → Well s → Well (counts (record s { tickets = s.tickets + 1; waiting = s.waiting ++ submission_with n tree ∷ [] }))
submitted_well s n tree well h = by
  where
    by : (x : Submission) → Known (counts (record s { tickets = s.tickets + 1; waiting = s.waiting ++ submission_with n tree ∷ [] })) x → HasReadTree x
    by x (inl p) = h x (inl p)
    by x (inr (inl p)) = h x (inr (inl p))
    by x (inr (inr p)) = elim (in_push s.waiting (submission_with n tree) x p) [
      | inl q ↦ h x (inr (inr q))
      | inr e ↦ subst HasReadTree e well
    ]

formed_well : (s : Service) (r : Running) → IsFormed s r → Well s → Well (with_formed s r)
formed_well s r formed h = fewer s (with_formed s r) less h
  where
    less : (x : Submission) → Known (with_formed s r) x → Known s x
    less x (inl p) = inl p
    less x (inr (inl p)) = inr (inr (subst (λ (ss : List Submission). In ss x) formed.submissions p))
    less x (inr (inr p)) = absurd p

-- the batch that runs is of the same submissions
ran : (s : Service) (r : Running) → s.running ≡ Some r → (x : Submission) → In r.submissions x → RunsWith s.running x
ran s r runs x h = subst (λ (o : Option Running). RunsWith o x) (sym runs) h

acts_well : (s : Service) (r : Running) (b : BatchModel) → s.running ≡ Some r → Well s → Well (counts (record s { actions = s.actions + 1; running = Some (with_batch r b) }))
acts_well s r b runs h = fewer s (counts (record s { actions = s.actions + 1; running = Some (with_batch r b) })) less h
  where
    less : (x : Submission) → Known (counts (record s { actions = s.actions + 1; running = Some (with_batch r b) })) x → Known s x
    less x (inl p) = inl p
    less x (inr (inl p)) = inr (inl (ran s r runs x p))
    less x (inr (inr p)) = inr (inr p)

finishes_well : (s : Service) (r : Running) (b : BatchModel) → s.running ≡ Some r → Well s → Well (counts (record s { running = Some (with_batch r b) }))
finishes_well s r b runs h = fewer s (counts (record s { running = Some (with_batch r b) })) less h
  where
    less : (x : Submission) → Known (counts (record s { running = Some (with_batch r b) })) x → Known s x
    less x (inl p) = inl p
    less x (inr (inl p)) = inr (inl (ran s r runs x p))
    less x (inr (inr p)) = inr (inr p)

-- of batches with one more: of the batches, or of that one
pushed : (bs : List PublishedBatch) (b : PublishedBatch) (x : Submission) → In (submissions_of (bs ++ b ∷ [])) x → In (submissions_of bs) x ⊎ In b.submissions x
pushed [] b x h = elim (in_either b.submissions [] x h) [ inl a ↦ inr a | inr n ↦ absurd n ]
pushed (y ∷ bs) b x h = elim (in_either y.submissions (submissions_of (bs ++ b ∷ [])) x h) [
  | inl a ↦ inl (in_front y.submissions (submissions_of bs) x a)
  | inr later ↦ elim (pushed bs b x later) [ inl a ↦ inl (in_back y.submissions (submissions_of bs) x a) | inr a ↦ inr a ]
]

publishes_well : (s : Service) (r : Running) (x : SnapshotModel) → s.running ≡ Some r → Well s → Well (counts (record s { running = None; published = s.published ++ batch_of r.submissions x ∷ [] }))
publishes_well s r x runs h = fewer s (counts (record s { running = None; published = s.published ++ batch_of r.submissions x ∷ [] })) less h
  where
    less : (y : Submission) → Known (counts (record s { running = None; published = s.published ++ batch_of r.submissions x ∷ [] })) y → Known s y
    less y (inl p) = elim (pushed s.published (batch_of r.submissions x) y p) [ inl q ↦ inl q | inr q ↦ inr (inl (ran s r runs y q)) ]
    less y (inr (inl p)) = absurd p
    less y (inr (inr p)) = inr (inr p)

gives_back_well : (s : Service) → Well s → Well (counts (record s { running = None }))
gives_back_well s h = fewer s (counts (record s { running = None })) less h
  where
    less : (x : Submission) → Known (counts (record s { running = None })) x → Known s x
    less x (inl p) = inl p
    less x (inr (inl p)) = absurd p
    less x (inr (inr p)) = inr (inr p)

keeps_well : Keeps IsHandedIn Well
keeps_well = record {
  opens = λ s id m allowed h x known. h x known;
  closes = λ s id h x known. h x known;
  submits = λ s id n tree allowed fit h. submitted_well s n tree fit h;
  forms = formed_well;
  acts = λ s r b runs on h. acts_well s r b runs h;
  finishes = λ s r b runs on h. finishes_well s r b runs h;
  publishes = λ s r x runs on whole h. publishes_well s r x runs h;
  gives_back = gives_back_well;
}

none_well : Well empty
none_well x (inl p) = absurd p
none_well x (inr (inl p)) = absurd p
none_well x (inr (inr p)) = absurd p

trees_are_read : (es : List Event) (rs : List Reply) (t : Service) → AreHandedIn es → Run empty es rs t → All HasReadTree (submissions_of t.published)
trees_are_read es rs t fit x = λ k d lt.
    let ss : List Submission = submissions_of t.published in
    run_kept IsHandedIn Well keeps_well empty es rs t fit x none_well (get_or ss k d) (inl (in_contained ss (get_or ss k d) (Contains-get_or ss k d lt)))

pub trees_are_well : TreesAreWell
trees_are_well es rs t fit x = λ k d lt. (trees_are_read es rs t fit x k d lt).well

-- workspaces, with trees put into them

read_submitted : (ps : List PackageModel) (ss : List Submission) → IsReadWorkspace ps → All HasReadTree ss → IsReadWorkspace (submitted ps ss)
read_submitted ps [] as_read all = as_read
read_submitted ps (s ∷ ss) as_read all =
    read_submitted (replaced s.tree.own ps s.tree.packages) ss (read_replaced s.tree.own ps s.tree.packages as_read (All-head HasReadTree s ss all)) (All-tail HasReadTree s ss all)

-- each batch is of some of all submissions
pub of_batch : (bs : List PublishedBatch) (b : PublishedBatch) (x : Submission) → In bs b → In b.submissions x → In (submissions_of bs) x
of_batch [] b x h i = absurd h
of_batch (y ∷ bs) b x (inl e) i = in_front y.submissions (submissions_of bs) x (subst (λ (z : PublishedBatch). In z.submissions x) (sym e) i)
of_batch (y ∷ bs) b x (inr h) i = in_back y.submissions (submissions_of bs) x (of_batch bs b x h i)

pub batch_all : (P : Submission → Type 0) (bs : List PublishedBatch) (b : PublishedBatch) → In bs b → All P (submissions_of bs) → All P b.submissions
batch_all P bs b h all = λ k d lt.
    let x : Submission = get_or b.submissions k d in
    All-contains P (submissions_of bs) x all (contained_in (submissions_of bs) x (of_batch bs b x h (in_contained b.submissions x (Contains-get_or b.submissions k d lt))))

-- each tree of a batch is one
abbrev HasReadTrees : PublishedBatch → Type 0
HasReadTrees b = All HasReadTree b.submissions

read_batches : (ps : List PackageModel) (bs : List PublishedBatch) → IsReadWorkspace ps → All HasReadTrees bs → IsReadWorkspace (fold (λ w (b : PublishedBatch). submitted w b.submissions) ps bs)
read_batches ps [] as_read all = as_read
read_batches ps (b ∷ bs) as_read all = read_batches (submitted ps b.submissions) bs (read_submitted ps b.submissions as_read (All-head HasReadTrees b bs all)) (All-tail HasReadTrees b bs all)

all_read : (bs : List PublishedBatch) → All HasReadTree (submissions_of bs) → All HasReadTrees bs
all_read bs all = λ k d lt. batch_all HasReadTree bs (get_or bs k d) (in_at bs k d lt) all

pub sources_are_well : SourcesAreWell
sources_are_well es rs t fit x k = read_batches [] (take k t.published) none_read (All-take HasReadTrees k t.published (all_read t.published (trees_are_read es rs t fit x)))

pub published_trees : PublishedTrees
published_trees es rs t fit x own path taken inside = published_modules t.published (trees_are_well es rs t fit x) own path inside (own_paths es rs t x own path taken inside)
