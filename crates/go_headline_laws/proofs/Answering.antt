-- Each occurrence of a snapshot has the answer that the rules give, and nothing else has one.
use Rattle.std.proofs.Common.{ℕ, List, subst}
use Rattle.go_graph_core.specs.Workspaces.{IsReadWorkspace, PackageModel}
use Rattle.go_workspace_laws.specs.report_core.UsageUsed.{FileUse}
use Rattle.go_submit_core.specs.snap_core.Snapshots.{IsAnswerAt, IsSnapshot, SnapshotModel}
use Rattle.go_submit_core.specs.Laws.{OneWorker}
use Rattle.go_submit_core.specs.Published.{IsOneWorker}
use Rattle.go_workspace_laws.specs.AnswerLaws.{AnswersOccurrences, OutcomesAreOfOccurrences}
use Rattle.go_headline_laws.specs.Headline.{HasAnswers, RulesGive}

module _ (outcomes : OutcomesAreOfOccurrences) (one : OneWorker) (ps : List PackageModel) (as_read : IsReadWorkspace ps) where
  whole : (s : SnapshotModel) → IsOneWorker ps s → IsSnapshot ps s.parts s.faults
  whole s is = subst (λ (qs : List PackageModel). IsSnapshot qs s.parts s.faults) is.sources is.whole

  answers : (s : SnapshotModel) → IsOneWorker ps s → (path name : List ℕ) (n : ℕ) → AnswersOccurrences ps s.parts path name n
  answers s is path name n = outcomes ps s.parts s.faults as_read (whole s is) path name n

  -- what another worker's snapshot has, this one has
  same_answer : (s w : SnapshotModel) → IsOneWorker ps s → IsOneWorker ps w → (path name : List ℕ) (n : ℕ) (u : FileUse) → IsAnswerAt ps w.parts path name n u → IsAnswerAt ps s.parts path name n u
  same_answer s w is other path name n u at = subst (λ (x : SnapshotModel). IsAnswerAt ps x.parts path name n u) (one ps w s as_read.well other is) at

  pub has_answers : (s : SnapshotModel) → IsOneWorker ps s → HasAnswers ps s
  has_answers s is = record {
    one_worker = is;
    each = λ path name n o at. (let a = answers s is path name n in let u = a.each o at in (u.0, u.1, a.own o u.0 at u.1));
    only = λ path name n u at. (let a = answers s is path name n in let o = a.only u at in (o.0, o.1, a.own o.0 u o.1 at));
    exactly = λ path name n u. ((λ at. (s, is, at)), (λ (g : RulesGive ps path name n u). same_answer s g.0 is g.1 path name n u g.2));
    once = λ path name n u v g h. (answers h.0 h.1 path name n).one u v (same_answer h.0 g.0 h.1 g.1 path name n u g.2) h.2;
  }
