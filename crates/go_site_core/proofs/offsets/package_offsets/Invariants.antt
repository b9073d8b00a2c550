use Rattle.std.proofs.Common.{◌≡◌, map, take}
use Rattle.go_site_core.specs.Sites.{held_items, offsets_in}
use Rattle.go_site_core.proofs.offsets.package_offsets.Given as goal

abbrev pub invariant-loop-file : goal.invariant-loop-file
invariant-loop-file l = map held_items l.offsets.items ≡ map (λ s. offsets_in s.content) (take l.file-index l.files)
