-- What was served, of bytes that are known.
use Rattle.std.specs.Prelude.{◌≡◌, ℕ, List, Option, Some, None, IfSome, true, false}
use Rattle.std.proofs.Common.{subst}
use Rattle.go_wire_core.specs.Ends.{IsEnd}
use Rattle.go_wire_core.specs.declared.serving.ServeEnd.{ServeEnd}
use Rattle.go_hall.specs.Seat.{Seat}
use Rattle.govisd_service.specs.desks.Desks.{ConnectionAnswers, ScriptAnswers, no_sessions}
use Rattle.govisd_service.specs.Ends.{IsConnection, IsScript}

pub script_served : (known : Option (List ℕ)) (end : ServeEnd) (left old new : Option (List ℕ)) (d e : List (Option Seat)) → d ≡ no_sessions
    → IfSome known (λ bytes. IsEnd end true ScriptAnswers bytes left d e old new) → IfSome known (λ bytes. IsScript end bytes left old new)
script_served None end left old new d e same h = tt
script_served (Some bytes) end left old new d e same h = record { seats = e; ends = subst (λ s. IsEnd end true ScriptAnswers bytes left s e old new) same h }

pub connection_served : (known : Option (List ℕ)) (end : ServeEnd) (left old new : Option (List ℕ)) (d e : Option Seat) → d ≡ None
    → IfSome known (λ bytes. IsEnd end false ConnectionAnswers bytes left d e old new) → IfSome known (λ bytes. IsConnection end bytes left old new)
connection_served None end left old new d e same h = tt
connection_served (Some bytes) end left old new d e same h = record { seat = e; ends = subst (λ s. IsEnd end false ConnectionAnswers bytes left s e old new) same h }
