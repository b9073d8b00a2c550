-- Runs of the packages of a snapshot.
use Rattle.std.proofs.Common.{◌≡◌, ◌⊎◌, ℕ, List, Result, Ok, Err, inl, inr, ⊎_elim, subst}
use Rattle.std.specs.Prelude.{IfOk, IfErr}
use Rattle.go_path_core.specs.text_core.declared.rule.Rule.{Rule}
use Rattle.go_path_core.specs.text_core.declared.rule.Rule.TheVariants.{M0, J1, J2, Z1}
use Rattle.go_object_core.specs.Objects.{ObjectOf}
use Rattle.go_handle_core.specs.Declarations.{Declaration}
use Rattle.go_machine_core.specs.link.Linked.{HasNoMain, IsBeyond, program_of}
use Rattle.go_machine_core.specs.runs.Runs.{GetsStuck, Gives, run_shown}
use Rattle.go_machine_core.specs.declared.runs.outcome.Run.{Run}
use Rattle.go_session_core.specs.launches.Located.{place_declared}
use Rattle.go_emit_core.specs.Emitted.{objects_of}
use Rattle.go_emit_core.specs.package_core.PackagePartSlots.{somes}
use Rattle.go_emit_core.specs.package_core.PackagePartParts.{PartModel}
use Rattle.go_complete_core.specs.snap_core.Snapshots.{IsPartAt, SnapshotModel}
use Rattle.go_session_core.specs.queries.Queries.{IsRunAnswer, IsRunRefusal, program_in}

-- what objects come to is what those of the snapshot do
pub gives_same : (path : List ℕ) (steps : ℕ) (s : SnapshotModel) (os : List (ObjectOf Declaration)) (run : Run) → os ≡ objects_of (somes s.parts)
    → Gives (program_of place_declared os path) steps (run_shown run) → Gives (program_in s path) steps (run_shown run)
gives_same path steps s os run are gives = subst (λ (o : List (ObjectOf Declaration)). Gives (program_of place_declared o path) steps (run_shown run)) are gives

pub refused_same : (path : List ℕ) (steps : ℕ) (s : SnapshotModel) (os : List (ObjectOf Declaration)) (rule : Rule) → os ≡ objects_of (somes s.parts)
    → (rule ≡ M0) ⊎ ((rule ≡ J1) × HasNoMain (program_of place_declared os path)) ⊎ ((rule ≡ J2) × IsBeyond (program_of place_declared os path)) ⊎ ((rule ≡ Z1) × GetsStuck (program_of place_declared os path) steps)
    → (rule ≡ M0) ⊎ IsRunRefusal (program_in s path) steps rule
refused_same path steps s os rule are refused = subst (λ (o : List (ObjectOf Declaration)). (rule ≡ M0) ⊎ IsRunRefusal (program_of place_declared o path) steps rule) are refused

pub run_answered : (path : List ℕ) (steps : ℕ) (s : SnapshotModel) (p : PartModel) (r : Result Run Rule) → IsPartAt s.sources s.parts path p
    → IfOk r (λ run. Gives (program_in s path) steps (run_shown run)) → IfErr r (λ rule. (rule ≡ M0) ⊎ IsRunRefusal (program_in s path) steps rule) → IsRunAnswer path steps s r
run_answered path steps s p (Ok run) there gives refused = ((p, there), gives)
run_answered path steps s p (Err rule) there gives refused =
    ⊎_elim (λ (m : rule ≡ M0). inl m) (λ (r : IsRunRefusal (program_in s path) steps rule). inr (inr ((p, there), r))) refused
