use Rattle.std.proofs.Common.{rules, ◌≡◌, ◌+◌, ◌*◌, ◌<◌, length, slice_get, get_or, refl, sym, ap, ◌∙◌, arith}
use Rattle.go_collections_core.proofs.PersistentListCutting.{behind_pieces, full_length, in_piece}
use Rattle.go_collections_core.proofs.persistent_list.list.Pieces.piece.Goals as goal

pub returns-then-number-full : goal.returns-then-number-full
returns-then-number-full g c n within =
    let number = c.args.number in
    let full = c.self.inside.full.value.items in
    let last = c.self.inside.last in
    let d = c.index-full-number.result in
    let lt : number < length full = search rules in
    let here : d ≡ get_or full number d = search rules in
    let small : n < 64 = omega (arith, within, ap length here, full_length full c.self.invariant.filled number d lt) in
    ap (λ l. slice_get l (64 * number + n)) (sym c.self.view_is)
    ∙ (in_piece full last c.self.invariant.filled number n (64 * number + n) d lt small refl ∙ ap (λ l. slice_get l n) (sym here))

pub returns-then-number-full-2 : goal.returns-then-number-full-2
returns-then-number-full-2 g c n within =
    let number = c.args.number in
    let full = c.self.inside.full.value.items in
    let last = c.self.inside.last in
    let is : number ≡ length full = search rules in
    let place : 64 * number + n ≡ 64 * length full + n = omega (arith, is) in
    ap (λ l. slice_get l (64 * number + n)) (sym c.self.view_is)
    ∙ behind_pieces full last c.self.invariant.filled n (64 * number + n) place
