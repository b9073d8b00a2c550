-- What a reply shows of the daemon.
use Rattle.std.specs.Prelude.{ℕ, Bool, Option, Some, None, nat_le, if◌then◌else◌}
use Rattle.go_path_core.specs.text_core.declared.rule.Rule.{Rule}
use Rattle.go_path_core.specs.text_core.declared.rule.Rule.TheVariants.{H1, M0, O4}
use Rattle.go_wire_core.specs.declared.reply.WireReply.{WireReply}
use Rattle.go_wire_core.specs.declared.reply.WireReply.TheVariants.{Refused}
use Rattle.govisd_service.specs.declared.notices.Notice.{Notice}
use Rattle.govisd_service.specs.declared.notices.Notice.TheVariants.{Filling, History, Memory, Modules}

-- the refusal by a rule, where a build is refused or another request
abbrev pub notice_by : Bool → Rule → Option Notice
notice_by is_build O4 = Some Modules
notice_by is_build H1 = Some History
notice_by is_build M0 = if is_build then Some Memory else None
notice_by is_build _ = None

-- a reply
abbrev pub notice_in : Bool → WireReply → Option Notice
notice_in is_build (Refused rule) = notice_by is_build rule
notice_in is_build _ = None

-- a history of so many events, of at most 1048576
abbrev pub notice_of_events : ℕ → Option Notice
notice_of_events events = if nat_le 917504 events then Some Filling else None
