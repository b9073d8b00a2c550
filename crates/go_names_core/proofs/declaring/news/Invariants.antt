use Rattle.std.proofs.Common.{◌≡◌, map, take}
use Rattle.go_local_core.specs.scope_stack.Blocks.{is_short_new}
use Rattle.go_names_core.proofs.declaring.news.Given as goal

abbrev pub invariant-loop-short : goal.invariant-loop-short
invariant-loop-short l = l.news.items ≡ map is_short_new (take l.short-index l.shorts)
