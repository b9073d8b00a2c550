-- What desks answer.
use Rattle.std.specs.Prelude.{◌≡◌, ◌-◌, ℕ, List, Option, Some, None, slice_get, slice_set, replicate}
use Rattle.go_wire_core.specs.declared.request.Request.{Request}
use Rattle.go_wire_core.specs.declared.reply.WireReply.{WireReply}
use Rattle.go_hall.specs.Seat.{Seat}
use Rattle.govisd_service.specs.desks.Sessions.{SeatReplies}

-- the session of a number, 1 to 32, replies, and the others stay
abbrev pub NumberReplies : List (Option Seat) → Option ℕ → Request → WireReply → List (Option Seat) → Type 0
NumberReplies old None request reply new = ⊥
NumberReplies old (Some n) request reply new =
    (before : Option Seat) × (after : Option Seat) × (slice_get old (n - 1) ≡ Some before)
    × SeatReplies before request.command reply after × (new ≡ slice_set old (n - 1) after)

abbrev pub ScriptAnswers : List (Option Seat) → Request → WireReply → List (Option Seat) → Type 0
ScriptAnswers old request reply new = NumberReplies old request.session request reply new

-- the one session replies
abbrev pub ConnectionAnswers : Option Seat → Request → WireReply → Option Seat → Type 0
ConnectionAnswers old request reply new = SeatReplies old request.command reply new

-- no session is open
abbrev pub no_sessions : List (Option Seat)
no_sessions = replicate 32 None
