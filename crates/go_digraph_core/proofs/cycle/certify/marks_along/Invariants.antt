use Rattle.std.proofs.Common.{◌≡◌, length, take}
use Rattle.go_digraph_core.specs.cycle.mirrors.Certificate.{marks_along}
use Rattle.go_digraph_core.proofs.cycle.certify.marks_along.Given as goal

abbrev pub invariant-loop-place : goal.invariant-loop-place
invariant-loop-place l = record { marks : l.marks.items ≡ marks_along l.edges l.roots (take l.place-index l.places); len : length l.marks.items ≡ length l.roots }
