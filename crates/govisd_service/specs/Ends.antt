-- How scripts and connections end.
use Rattle.std.specs.Prelude.{ℕ, List, Option, None, true, false, codes}
use Rattle.go_wire_core.specs.Ends.{IsEnd}
use Rattle.go_wire_core.specs.declared.serving.ServeEnd.{ServeEnd}
use Rattle.go_hall.specs.Seat.{Seat}
use Rattle.govisd_service.specs.desks.Desks.{ConnectionAnswers, ScriptAnswers, no_sessions}

-- of these bytes, of which those are left, a script is served, in which no session is open at first
pub record IsScript (end : ServeEnd) (bytes : List ℕ) (left old new : Option (List ℕ)) : Type 0 where
  pub seats : List (Option Seat)
  pub ends : IsEnd end true ScriptAnswers bytes left no_sessions seats old new

-- the same of a connection
pub record IsConnection (end : ServeEnd) (bytes : List ℕ) (left old new : Option (List ℕ)) : Type 0 where
  pub seat : Option Seat
  pub ends : IsEnd end false ConnectionAnswers bytes left None seat old new

-- the line that a connection is told which is turned away
abbrev pub turned_away : List ℕ
turned_away = codes "{\"err\":\"O4\"}\n"
