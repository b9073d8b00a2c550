use Rattle.std.proofs.Common.{◌≡◌, ◌+◌, None, length}
use Rattle.go_scan_core.specs.Parts.{width}
use Rattle.go_scan_core.specs.mirrors.Cutting.{closed, cut, remarked, with_front}
use Rattle.go_scan_core.proofs.scanner.read_characters.Given as goal

abbrev pub invariant-loop-rest : goal.invariant-loop-rest
invariant-loop-rest l = record {
  tokens : with_front l.tokens.items (closed l.last (cut l.rest 0 l.at)) ≡ closed None (cut l.text 0 l.start);
  comments : with_front l.comments.items (remarked (cut l.rest 0 l.at)) ≡ remarked (cut l.text 0 l.start);
  place : l.at + width l.rest ≡ l.start + width l.text;
}

abbrev pub decreases-loop-rest : goal.decreases-loop-rest
decreases-loop-rest l = length l.rest
