use Rattle.std.proofs.Common.{rules, ◌≡◌, ℕ, ◌+◌, ◌*◌, ◌<◌, ◌≤◌, ◌/◌, ◌%◌, length, slice_get, get_or, sym, ap, ◌∙◌, arith}
use Rattle.go_summary_core.proofs.Places.{behind_pieces, in_piece, many_in}
use Rattle.go_summary_core.proofs.list.SummaryList.get.Goals as goal

pub returns-then-number-len : goal.returns-then-number-len
returns-then-number-len c =
    let place = c.args.place in
    let full = c.self.inside.full.items in
    let last = c.self.inside.last.items in
    let parted : place ≡ 64 * (place / 64) + place % 64 = omega arith in
    let small : place % 64 < 64 = omega arith in
    let lt : place / 64 < length full = search rules in
    let here : c.summaries.result.now ≡ get_or full (place / 64) c.index.result.now = search rules in
    c.summary_at.ensures
    ∙ (ap (λ l. slice_get l (place % 64)) here
    ∙ (sym (in_piece full last c.self.invariant.filled (place / 64) (place % 64) place c.index.result.now lt small parted) ∙ ap (λ l. slice_get l place) c.self.view_is))

pub returns-else-number-len : goal.returns-else-number-len
returns-else-number-len c =
    let place = c.args.place in
    let full = c.self.inside.full.items in
    let last = c.self.inside.last.items in
    let past : length full ≤ place / 64 = search rules in
    let below : place < c.self.inside.count = search rules in
    let parted : place ≡ 64 * length full + place % 64 = omega (arith, past, below, c.self.invariant.many, c.self.invariant.rest, many_in full last c.self.invariant.filled) in
    c.summary_at-else-number-len.ensures
    ∙ (ap (λ l. slice_get l (place % 64)) c.deref.ensures.value
    ∙ (sym (behind_pieces full last c.self.invariant.filled (place % 64) place parted) ∙ ap (λ l. slice_get l place) c.self.view_is))
