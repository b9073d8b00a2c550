use Rattle.std.proofs.Common.{ap, inl, inr, map, string_bytes}
use Rattle.go_diagnostic_core.proofs.Asked.{both_ok}
use Rattle.go_diagnostic_core.proofs.suggesting.names_at.Goals as goal

pub returns-in-Err : goal.returns-in-Err
returns-in-Err c =
    both_ok c.none_for.result _ _ _
    (λ names empty memory. elim c.in-Err.ensures.err [ inl wanting ↦ absurd (memory wanting) | inr unasked ↦ inr ((c.in-Err.rule, unasked), ap (map string_bytes) empty) ])
    c.none_for.ensures.empty c.none_for.ensures.memory
