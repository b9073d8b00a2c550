-- Questions of sessions, and the packages that are published.
use Rattle.std.proofs.Common.{◌≡◌, ◌⊎◌, inl, inr, ℕ, ◌+◌, ◌<◌, true, List, [], Result, Ok, Err, Option, Some, None, sym, subst, ◌∙◌, arith}
use Rattle.std.specs.Prelude.{slice_get}
use Rattle.std.proofs.lemmas.Option.{get_or_from_slice_get, slice_get_within}
use Rattle.go_path_core.specs.text_core.declared.rule.Rule.{Rule}
use Rattle.go_path_core.specs.text_core.declared.rule.Rule.TheVariants.{M0, Q1}
use Rattle.go_path_core.specs.Path.{IsPath}
use Rattle.go_graph_core.proofs.Zips.{numbered_at}
use Rattle.go_graph_core.specs.Imports.{IsNumbered}
use Rattle.go_graph_core.specs.Packages.{IsAssembled}
use Rattle.go_graph_core.specs.Sources.{SourceModel}
use Rattle.go_graph_core.specs.Workspaces.{IsPackage, IsReadWorkspace, PackageModel, is_path_inside}
use Rattle.go_submit_core.specs.package_core.PackagePartParts.{PartModel}
use Rattle.go_submit_core.specs.snap_core.Snapshots.{IsPartAt, SnapshotModel}
use Rattle.go_submit_core.specs.snap_core.WholeWorkspaceInputs.{IsPartOf}
use Rattle.go_submit_core.specs.Published.{IsOneWorker, sources_of}
use Rattle.go_submit_core.specs.declared.published.PublishedBatch.{PublishedBatch}
use Rattle.go_query_core.specs.Defining.{HasNoPart}
use Rattle.go_session_core.specs.queries.Asked.{IsAnswer, IsLastAnswer}
use Rattle.go_headline_laws.specs.SessionHeadline.{HasPackage, IsTold}

-- parts

-- what the part of a package of a snapshot is made of
pub record IsOfPackage (path : List ℕ) (files : List SourceModel) (p : PartModel) : Type 0 where
  pub assembled : IsAssembled files
  pub source : p.input.source ≡ (path, files)

is_of : (ps : List PackageModel) (parts : List (Option PartModel)) (n : ℕ) (path : List ℕ) (files : List SourceModel) (x : Option PartModel) (p : PartModel) → Some x ≡ Some (Some p) → IsPartOf ps parts n (path, files) x → IsOfPackage path files p
is_of ps parts n path files x p same h =
    let e : x ≡ Some p = cc in
    let is : IsPartOf ps parts n (path, files) (Some p) = subst (IsPartOf ps parts n (path, files)) e h in
    record { assembled = is.0; source = is.1.source }

module _ (ps : List PackageModel) (s : SnapshotModel) (is : IsOneWorker ps s) where
  pub numbered_there : (path : List ℕ) (n : ℕ) (files : List SourceModel) → IsNumbered ps path n files → IsNumbered s.sources path n files
  numbered_there path n files h = subst (λ (qs : List PackageModel). IsNumbered qs path n files) (sym is.sources) h

  pub numbered_back : (path : List ℕ) (n : ℕ) (files : List SourceModel) → IsNumbered s.sources path n files → IsNumbered ps path n files
  numbered_back path n files h = subst (λ (qs : List PackageModel). IsNumbered qs path n files) is.sources h

  entry_at : (path : List ℕ) (n : ℕ) (files : List SourceModel) → IsNumbered s.sources path n files → (x : Option PartModel) × (slice_get s.parts n ≡ Some x) × IsPartOf s.sources s.parts n (path, files) x
  entry_at path n files h =
      let at = numbered_at (λ m q x. IsPartOf s.sources s.parts m q x) 0 s.sources s.parts n (path, files) is.whole.made h in
      let e : 0 + n ≡ n = omega arith in
      (at.0, at.1, subst (λ m. IsPartOf s.sources s.parts m (path, files) at.0) e at.2)

  -- a part of a package is made of it
  pub of_package : (path : List ℕ) (n : ℕ) (files : List SourceModel) (p : PartModel) → IsNumbered s.sources path n files → slice_get s.parts n ≡ Some (Some p) → IsOfPackage path files p
  of_package path n files p h there = (let x = entry_at path n files h in is_of s.sources s.parts n path files x.0 p (sym x.1 ∙ there) x.2)

  pub has_package : (path : List ℕ) (n : ℕ) (files : List SourceModel) (p : PartModel) → IsNumbered s.sources path n files → slice_get s.parts n ≡ Some (Some p) → HasPackage ps path
  has_package path n files p h there = record { number = n; files = files; numbered = numbered_back path n files h; assembled = (of_package path n files p h there).assembled }

  pub package_of_part : (path : List ℕ) (p : PartModel) → IsPartAt s.sources s.parts path p → HasPackage ps path
  package_of_part path p h = has_package path h.number h.files p h.numbered h.there

  -- each assembled package has a part
  assembled_part : (n : ℕ) (path : List ℕ) (files : List SourceModel) (x : Option PartModel) → IsAssembled files → slice_get s.parts n ≡ Some x → IsPartOf s.sources s.parts n (path, files) x → (p : PartModel) × (slice_get s.parts n ≡ Some (Some p))
  assembled_part n path files None assembled at h = absurd (h assembled)
  assembled_part n path files (Some p) assembled at h = (p, at)

  pub part_there : (path : List ℕ) → HasPackage ps path → (p : PartModel) × IsPartAt s.sources s.parts path p
  part_there path h =
      let numbered = numbered_there path h.number h.files h.numbered in
      let x = entry_at path h.number h.files numbered in
      let p = assembled_part h.number path h.files x.0 h.assembled x.1 x.2 in
      (p.0, record { number = h.number; files = h.files; numbered = numbered; there = p.1 })

  pub no_package : (path : List ℕ) → HasNoPart s path → HasPackage ps path → ⊥
  no_package path none h = (let p = part_there path h in none p.0 p.1)

-- what is published of no batches has no package, and what is no path has none
none_published : (board : List PublishedBatch) (path : List ℕ) → board ≡ [] → HasPackage (sources_of board) path → ⊥
none_published board path none h =
    let at : IsNumbered (sources_of []) path h.number h.files = subst (λ (bs : List PublishedBatch). IsNumbered (sources_of bs) path h.number h.files) none h.numbered in
    let within : h.number < 0 = slice_get_within (sources_of []) h.number (path, h.files) at in
    omega (arith, within)

has_path : (ps : List PackageModel) (path : List ℕ) → IsReadWorkspace ps → HasPackage ps path → IsPath path
has_path ps path well h =
    let p : PackageModel = (path, h.files) in
    (subst IsPackage (get_or_from_slice_get ps h.number p p h.numbered) (well.well.packages h.number p (slice_get_within ps h.number p h.numbered))).path

-- answers

-- of the snapshot of the last batch an answer says this, and a refusal is want of memory, or Q1 for want of a package, or this
module _ {X : Type 0} (own path : List ℕ) (board : List PublishedBatch) (Answers : SnapshotModel → Result X Rule → Type 0) (Says : List PackageModel → X → Type 0) (Refuses : List PackageModel → Rule → Type 0)
    (well : IsReadWorkspace (sources_of board))
    (ok : (s : SnapshotModel) → IsOneWorker (sources_of board) s → (x : X) → Answers s (Ok x) → HasPackage (sources_of board) path × Says (sources_of board) x)
    (err : (s : SnapshotModel) → IsOneWorker (sources_of board) s → (rule : Rule) → Answers s (Err rule) → (rule ≡ M0) ⊎ (((rule ≡ Q1) × HasNoPart s path) ⊎ (HasPackage (sources_of board) path × Refuses (sources_of board) rule)))
  where
    refused : (rule : Rule) → is_path_inside own path ≡ true → IsLastAnswer board Answers (Err rule) → IsTold own path board Says Refuses (Err rule)
    refused rule inside last = by (err last.batch.snapshot last.one_worker rule last.answer)
      where
        by : (rule ≡ M0) ⊎ (((rule ≡ Q1) × HasNoPart last.batch.snapshot path) ⊎ (HasPackage (sources_of board) path × Refuses (sources_of board) rule)) → IsTold own path board Says Refuses (Err rule)
        by (inl m) = inl m
        by (inr (inl q)) = inr (inr (inl (q.0, inside, no_package (sources_of board) last.batch.snapshot last.one_worker path q.1)))
        by (inr (inr b)) = inr (inr (inr (inside, b.0, b.1)))

    pub told : (r : Result (ℕ × X) Rule) → IsAnswer own path board Answers r → IsTold own path board Says Refuses r
    told (Ok a) h = (let says = ok h.2.batch.snapshot h.2.one_worker a.1 h.2.answer in (h.0, says.0, h.1, says.1))
    told (Err rule) (inl (inl m)) = inl m
    told (Err rule) (inl (inr (inl q))) = inr (inl q)
    told (Err rule) (inl (inr (inr q))) = inr (inr (inl (q.0, q.1, λ h. q.2 (has_path (sources_of board) path well h))))
    told (Err rule) (inr (inl q)) = inr (inr (inl (q.0, q.1, none_published board path q.2)))
    told (Err rule) (inr (inr l)) = refused rule l.0 l.1
