-- The program's exit statuses.
use Rattle.std.specs.Prelude.{ℕ}
use Rattle.std.specs.declared.io.ErrorKind as io
use Rattle.std.specs.declared.io.ErrorKind.TheVariants as io_kind
use Rattle.clap.specs.declared.error.kind.ErrorKind.{ErrorKind}
use Rattle.clap.specs.declared.error.kind.ErrorKind.TheVariants.{OutOfMemory}
use Rattle.go_wire_core.specs.declared.serving.ServeEnd.{ServeEnd}
use Rattle.go_wire_core.specs.declared.serving.ServeEnd.TheVariants.{Done}
use Rattle.govisd_resolve.specs.declared.run.ResolveEnd.{ResolveEnd}
use Rattle.govisd_resolve.specs.declared.run.ResolveEnd.TheVariants.{Clean}

-- 0 for a source without fault
abbrev pub end_status : ResolveEnd → ℕ
end_status Clean = 0
end_status _ = 1

-- 0 for a script whose input ended, and a daemon that came to its last connection
abbrev pub serve_status : ServeEnd → ℕ
serve_status Done = 0
serve_status _ = 1

-- a command line that is refused has 2, and one for which memory ran out 1
abbrev pub refusal_status : ErrorKind → ℕ
refusal_status OutOfMemory = 1
refusal_status _ = 2

-- a command line that cannot be read has the same
abbrev pub unread_status : io.ErrorKind → ℕ
unread_status io_kind.OutOfMemory = 1
unread_status _ = 2
