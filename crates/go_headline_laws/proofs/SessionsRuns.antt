-- Runs that are told, in the words of what is published.
use Rattle.std.proofs.Common.{◌≡◌, ◌⊎◌, inl, inr, ℕ, List, Ok, Err, sym, subst}
use Rattle.std.specs.Prelude.{string_bytes}
use Rattle.go_path_core.specs.text_core.declared.rule.Rule.{Rule}
use Rattle.go_path_core.specs.text_core.declared.rule.Rule.TheVariants.{J1, J2, M0, Q1, Q4, Z1}
use Rattle.go_graph_core.specs.Workspaces.{IsReadWorkspace, PackageModel}
use Rattle.go_submit_core.specs.snap_core.Snapshots.{SnapshotModel}
use Rattle.go_submit_core.specs.Published.{IsOneWorker, sources_of}
use Rattle.go_submit_core.specs.declared.published.PublishedBatch.{PublishedBatch}
use Rattle.go_query_core.specs.Defining.{HasNoPart}
use Rattle.go_machine_core.specs.link.Linked.{HasNoMain, IsBeyond, IsRunnable, RunnableOf}
use Rattle.go_machine_core.specs.runs.Runs.{GetsStuck, Gives, run_shown}
use Rattle.go_machine_core.specs.declared.runs.outcome.Run.{Run}
use Rattle.go_machine_core.specs.declared.runs.outcome.Run.TheVariants as runs
use Rattle.go_meaning_laws.specs.program_meaning.Laws.{RunsAsMeant}
use Rattle.go_program_laws.specs.references.Kept.{ProgramsRun}
use Rattle.go_session_core.specs.queries.Queries.{HasPartAt, IsRunAnswer, IsRunRefusal, program_in}
use Rattle.go_headline_laws.specs.SessionHeadline.{HasPackage, IsTold, Means, RefusesRun, RunsSo, SessionRunsAsMeant, sources_in}
use Rattle.go_headline_laws.proofs.SessionsPackages.{package_of_part, told}

module _ (all : ProgramsRun) (ps : List PackageModel) (well : IsReadWorkspace ps) (s : SnapshotModel) (is : IsOneWorker ps s) (path : List ℕ) (steps : ℕ) where
  read : IsReadWorkspace s.sources
  read = subst IsReadWorkspace (sym is.sources) well

  as_meant : (r : RunnableOf) → IsRunnable (program_in s path) r → RunsAsMeant (program_in s path) (sources_in s) r.starts
  as_meant r runnable = all s.sources s.parts s.faults read is.whole path r runnable

  means : (r : RunnableOf) (run : Run) → RunsAsMeant (program_in s path) (sources_in s) r.starts → Gives (program_in s path) steps (run_shown run) → Means (sources_in s) r.starts steps run
  means r (runs.Ended output) meant gives = meant.ends_only steps (string_bytes output) gives
  means r (runs.Panicked value output) meant gives = meant.panics_only steps value (string_bytes output) gives
  means r (runs.Spent output) meant gives = (let g = meant.goes_on_only steps (string_bytes output) gives in (g.0, g.1, (g.2, g.3, g.4)))

  package_there : HasPartAt s path → HasPackage ps path
  package_there h = package_of_part ps s is path h.0 h.1

  ran : (run : Run) → IsRunAnswer path steps s (Ok run) → HasPackage ps path × RunsSo ps path steps run
  ran run h =
      let gives : Gives (program_in s path) steps (run_shown run) = h.1 in
      let meant = as_meant gives.0 gives.1 in
      (package_there h.0, record { snapshot = s; one_worker = is; begun = gives.0; runnable = gives.1; means = means gives.0 run meant gives; as_meant = meant })

  no_run : (rule : Rule) → IsRunRefusal (program_in s path) steps rule → RefusesRun ps path rule
  no_run rule (inl h) = (s, is, inl h)
  no_run rule (inr (inl h)) = (s, is, inr h)
  no_run rule (inr (inr h)) = (let stuck : GetsStuck (program_in s path) steps = h.1 in absurd ((as_meant stuck.0 stuck.1).never_stuck steps stuck))

  not_run : (rule : Rule) → IsRunAnswer path steps s (Err rule) → (rule ≡ M0) ⊎ (((rule ≡ Q1) × HasNoPart s path) ⊎ (HasPackage ps path × RefusesRun ps path rule))
  not_run rule (inl m) = inl m
  not_run rule (inr (inl q)) = inr (inl q)
  not_run rule (inr (inr h)) = inr (inr (package_there h.0, no_run rule h.1))

-- no such refusal is Z1
never_z1 : (own path : List ℕ) (steps : ℕ) (board : List PublishedBatch) → IsTold own path board (λ ps (run : Run). RunsSo ps path steps run) (λ ps rule. RefusesRun ps path rule) (Err Z1) → ⊥
never_z1 own path steps board (inl m) = (let e : Z1 ≡ M0 = m in cc)
never_z1 own path steps board (inr (inl q)) = (let e : Z1 ≡ Q4 = q.0 in cc)
never_z1 own path steps board (inr (inr (inl q))) = (let e : Z1 ≡ Q1 = q.0 in cc)
never_z1 own path steps board (inr (inr (inr h))) = by h.2.0 h.2.2
  where
    by : (s : SnapshotModel) → ((Z1 ≡ J1) × HasNoMain (program_in s path)) ⊎ ((Z1 ≡ J2) × IsBeyond (program_in s path)) → ⊥
    by s (inl j) = (let e : Z1 ≡ J1 = j.0 in cc)
    by s (inr j) = (let e : Z1 ≡ J2 = j.0 in cc)

pub session_runs : ProgramsRun → SessionRunsAsMeant
session_runs all own path steps board r kept h =
    let is : IsTold own path board (λ ps (run : Run). RunsSo ps path steps run) (λ ps rule. RefusesRun ps path rule) r =
    told own path board (IsRunAnswer path steps) (λ ps (run : Run). RunsSo ps path steps run) (λ ps rule. RefusesRun ps path rule) kept.read
    (λ s one run a. ran all (sources_of board) kept.read s one path steps run a) (λ s one rule a. not_run all (sources_of board) kept.read s one path steps rule a) r h in
    (is, λ same. never_z1 own path steps board (subst (IsTold own path board (λ ps (run : Run). RunsSo ps path steps run) (λ ps rule. RefusesRun ps path rule)) same is))
