use Rattle.std.proofs.Common.{◌≡◌, map, take}
use Rattle.go_package_core.specs.Checked.{local_shown}
use Rattle.go_candidate_core.specs.at_place.Locals as around
use Rattle.go_complete_core.specs.hint.Kept.{open_by}
use Rattle.go_complete_core.proofs.hint.kept.open_locals.Given as goal

abbrev pub invariant-loop-ident : goal.invariant-loop-ident
invariant-loop-ident l = map around.local_shown l.locals.items ≡ open_by (map local_shown l.kept) (map (λ x. x.now) (take l.ident-index l.idents))
