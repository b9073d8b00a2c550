use Rattle.std.proofs.Common.{map, length, refl, ◌∙◌}
use Rattle.std.proofs.lemmas.Option.{slice_get_read, slice_get_past}
use Rattle.go_block_core.specs.Exports.{name_and_decl}
use Rattle.go_block_core.proofs.Spelled.{found_at, found_past}
use Rattle.go_block_core.proofs.name_order.decl_of.Goals as goal

pub returns-in-Some : goal.returns-in-Some
returns-in-Some c =
    let order = c.args.order.now in
    let first = c.count_below-first.result in
    let read = slice_get_read order (length order) first c.in-Some.place.now refl c.in-Some.ensures.lookup.3.0 c.in-Some.ensures.lookup.1 in
    c.decl_at.ensures ∙ found_at (map name_and_decl c.args.names.now) order c.args.name.now first c.requires c.count_below-first.ensures.split c.in-Some.place.now read

pub returns-in-None : goal.returns-in-None
returns-in-None c =
    let order = c.args.order.now in
    let first = c.count_below-first.result in
    found_past (map name_and_decl c.args.names.now) order c.args.name.now first c.requires c.count_below-first.ensures.split (slice_get_past order first c.in-None.ensures.lookup.3)
