-- What was built on the board that a session saw.
use Rattle.std.proofs.Common.{◌≡◌, ℕ, List, subst}
use Rattle.go_hall_core.specs.submit_core.Trees.{TreeModel}
use Rattle.go_hall_core.specs.submit_core.declared.published.PublishedBatch.{PublishedBatch}
use Rattle.go_session_core.specs.queries.Built.{IsBuilt}
use Rattle.go_session_core.specs.declared.queries.faults.Fault.{Fault}

pub built_on : (board seen : List PublishedBatch) (tree mine : TreeModel) (n : ℕ) (faults : List Fault) → IsBuilt board tree n faults → board ≡ seen → tree ≡ mine → IsBuilt seen mine n faults
built_on board seen tree mine n faults built now same = subst (λ (t : TreeModel). IsBuilt seen t n faults) same (subst (λ (bs : List PublishedBatch). IsBuilt bs tree n faults) now built)
