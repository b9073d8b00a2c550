use Rattle.std.proofs.Common.{Bor, List, ℕ, length, ap, ◌∙◌}
use Rattle.go_expr_core.specs.denote_core.CompositeLiterals.{keys_among}
use Rattle.go_expr_core.specs.Elements.{is_mixed}
use Rattle.go_candidate_core.proofs.AtPlaceOtherKeys.{mixed_is}
use Rattle.go_candidate_core.proofs.at_place.keyed.is_mixed.Goals as goal

pub returns : goal.returns
returns c =
    c.is_mixed_by.ensures
    ∙ (ap (λ (l : List (Bor (List ℕ))). is_mixed (keys_among (length c.args.items.now) (length l))) c.deref.ensures.value ∙ mixed_is c.args.items.now c.in_ok-names.names.items c.in_ok-names.ensures)
