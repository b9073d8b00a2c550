use Rattle.std.proofs.Common.{drop, [], ◌∷◌}
use Rattle.std.specs.List.{AllByRecursion}
use Rattle.go_recovery_core.specs.standin.Blanks.{all_blanked}
use Rattle.go_recovery_core.specs.standin.Files.{IsNoFile}
use Rattle.go_recovery_core.proofs.standin.standing.first_of.Given as goal

abbrev pub invariant-loop-part : goal.invariant-loop-part
invariant-loop-part l = AllByRecursion (λ part. IsNoFile (all_blanked (part ∷ []) l.text)) (drop l.part-index l.parts) → AllByRecursion (λ part. IsNoFile (all_blanked (part ∷ []) l.text)) l.parts
