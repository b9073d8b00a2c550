use Rattle.std.proofs.Common.{◌≡◌, ◌+◌, [], drop, map}
use Rattle.std.specs.Prelude.{slice_index_or}
use Rattle.std.specs.List.{prefix_len}
use Rattle.go_machine_core.specs.link.Packages.{is_before}
use Rattle.go_machine_core.proofs.link.packages.place_of.Given as goal

abbrev pub invariant-loop-place : goal.invariant-loop-place
invariant-loop-place l =
    prefix_len (λ k. is_before (slice_index_or (map (λ p. p.now) l.paths) k []) l.path) l.order ≡ l.place + prefix_len (λ k. is_before (slice_index_or (map (λ p. p.now) l.paths) k []) l.path) (drop l.place l.order)
