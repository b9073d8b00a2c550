use Rattle.std.proofs.Common.{◌≡◌, ◌+◌, ◌≤◌}
use Rattle.go_doc_core.specs.DocComments.{line_of}
use Rattle.go_doc_core.proofs.lines.with_line_ends.Given as goal

abbrev pub invariant-bytes : goal.invariant-bytes
invariant-bytes l = record { low : l.from ≤ l.at; high : l.at ≤ l.to; few : l.ends ≤ 2; counted : line_of l.bytes l.to + l.so_far ≡ line_of l.bytes l.at + l.ends }

abbrev pub decreases-bytes : goal.decreases-bytes
decreases-bytes l = l.at
