use Rattle.std.proofs.Common.{◌≡◌, ◌+◌, length}
use Rattle.go_scan_core.specs.mirrors.Enclosed.{behind, body}
use Rattle.go_scan_core.proofs.enclosed.body_len.Given as goal

abbrev pub invariant-loop-rest : goal.invariant-loop-rest
invariant-loop-rest l = record {
  answer : behind l.count (body l.enclosure l.rest 0) ≡ body l.enclosure l.text 0;
  place : l.count + length l.rest ≡ length l.text;
}

abbrev pub decreases-loop-rest : goal.decreases-loop-rest
decreases-loop-rest l = length l.rest
