use Rattle.std.proofs.Common.{◌≡◌, map, take}
use Rattle.go_site_core.specs.Sites.{held_items, offsets_in}
use Rattle.go_site_core.proofs.offsets.all_offsets.Given as goal

abbrev pub invariant-loop-source : goal.invariant-loop-source
invariant-loop-source l = map (λ p. map held_items p.items) l.offsets.items ≡ map (λ p. map (λ s. offsets_in s.content) p.1) (take l.source-index l.packages)
