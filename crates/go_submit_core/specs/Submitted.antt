-- What was submitted.
use Rattle.std.specs.Prelude.{refl, ℕ, Bool, nat_eq, List, All}
use Rattle.std.specs.List.{fold, list_any}
use Rattle.std.specs.Coded.{Coded, code_by, coded×, coded_list, coded_ℕ}
use Rattle.go_graph_core.specs.Workspaces.{PackageModel, IsWorkspace, replaced}
use Rattle.go_submit_core.specs.Trees.{TreeModel, coded_tree}
use Rattle.go_submit_core.specs.declared.submission.Submission.{Submission}

abbrev pub submission_with : ℕ → TreeModel → Submission
submission_with ticket tree = record { ticket = record { 0 = ticket }; tree = tree }

abbrev pub coded_submissions : Coded (List Submission)
coded_submissions = coded_list (code_by (ℕ × TreeModel) (coded× coded_ℕ coded_tree) (λ s. (s.ticket.0, s.tree)) (λ p. submission_with p.0 p.1) (λ _. refl))

-- the packages, with each tree in the place of its module's packages, one after another
abbrev pub submitted : List PackageModel → List Submission → List PackageModel
submitted ps ss = fold (λ w s. replaced s.tree.own w s.tree.packages) ps ss

-- a ticket is among those of submissions
abbrev pub has_ticket : ℕ → List Submission → Bool
has_ticket n ss = list_any (λ s. nat_eq s.ticket.0 n) ss

-- each tree is a workspace
abbrev pub AreWorkspaces : List Submission → Type 0
AreWorkspaces ss = All (λ s. IsWorkspace s.tree.packages) ss
