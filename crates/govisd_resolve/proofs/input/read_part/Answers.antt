use Rattle.govisd_resolve.proofs.input.read_part.Goals as goal

-- an interruption is no fault
pub returns-then-is_interruption-clause-err : goal.returns-then-is_interruption-clause-err
returns-then-is_interruption-clause-err g c = tt
