use Rattle.std.proofs.Common.{◌≡◌, drop}
use Rattle.std.specs.List.{list_all}
use Rattle.go_denote_core.specs.composite.Literals.{is_visible_field}
use Rattle.go_denote_core.proofs.composite.literals.all_visible.Given as goal

abbrev pub invariant-loop-at : goal.invariant-loop-at
invariant-loop-at g l =
    let fields = (g.E.Literals.literals l.env).fields l.t in
    list_all is_visible_field (drop l.at fields) ≡ list_all is_visible_field fields
