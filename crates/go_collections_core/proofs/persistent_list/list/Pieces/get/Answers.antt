use Rattle.std.proofs.Common.{rules, ◌≡◌, ◌+◌, ◌*◌, ◌<◌, ◌≤◌, ◌/◌, ◌%◌, length, slice_get, get_or, sym, ap, ◌∙◌, arith}
use Rattle.go_collections_core.proofs.PersistentListCutting.{behind_pieces, in_piece, many_in}
use Rattle.go_collections_core.proofs.persistent_list.list.Pieces.get.Goals as goal

pub returns-then-number-full : goal.returns-then-number-full
returns-then-number-full g c =
    let place = c.args.place in
    let full = c.self.inside.full.value.items in
    let last = c.self.inside.last in
    let parted : place ≡ 64 * (place / 64) + place % 64 = omega arith in
    let small : place % 64 < 64 = omega arith in
    let lt : place / 64 < length full = search rules in
    let here : c.index-full-number.result ≡ get_or full (place / 64) c.index-full-number.result = search rules in
    c.get.ensures
    ∙ (ap (λ l. slice_get l (place % 64)) here
    ∙ (sym (in_piece full last c.self.invariant.filled (place / 64) (place % 64) place c.index-full-number.result lt small parted) ∙ ap (λ l. slice_get l place) c.self.view_is))

pub returns-else-number-full : goal.returns-else-number-full
returns-else-number-full g c =
    let place = c.args.place in
    let full = c.self.inside.full.value.items in
    let last = c.self.inside.last in
    let past : length full ≤ place / 64 = search rules in
    let below : place < c.self.inside.count = search rules in
    let parted : place ≡ 64 * length full + place % 64 = omega (arith, past, below, c.self.invariant.many, c.self.invariant.rest, many_in full last c.self.invariant.filled) in
    c.get-else-number-full.ensures
    ∙ (sym (behind_pieces full last c.self.invariant.filled (place % 64) place parted) ∙ ap (λ l. slice_get l place) c.self.view_is)
