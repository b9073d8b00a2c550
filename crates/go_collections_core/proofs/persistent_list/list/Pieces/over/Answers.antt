use Rattle.std.proofs.Common.{rules, ◌≡◌, ◌∷◌, ◌++◌, length}
use Rattle.std.specs.Vec.Iter.{into_iter_items}
use Rattle.go_collections_core.specs.persistent_list.Pieces.{in_pieces}
use Rattle.go_collections_core.proofs.PersistentListCutting.{cut_full, cut_next, stay_in_some}
use Rattle.go_collections_core.proofs.persistent_list.list.Pieces.over.Goals as goal

pub over-requires : goal.over-requires
over-requires g c =
    let full = c.loop-item.full.items in
    let last = c.add.new.all.items in
    let before = into_iter_items c.loop-item.item-iterator in
    let rest = into_iter_items c.next.new.self in
    let parted : before ≡ c.in-Some.item ∷ rest = search rules in
    let all : in_pieces full (last ++ rest) ≡ c.args.items.items = cut_next full c.loop-item.last.items last before rest c.args.items.items c.in-Some.item c.loop-item.invariant.4 c.in_ok-add.ensures parted in
    let many : c.len-number.result ≡ length full = search rules in
    stay_in_some c.args.earlier.now c.args.items.items last rest full c.args.same.now c.marks_from.result.now c.len-number.result c.piece.result c.requires c.loop-item.invariant.2 many all c.piece.ensures c.marks_from.ensures

pub loop-item-preserved-then-len-eq-PIECE : goal.loop-item-preserved-then-len-eq-PIECE
loop-item-preserved-then-len-eq-PIECE g c =
    let full = c.loop-item.full.items in
    let last = c.add.new.all.items in
    let before = into_iter_items c.loop-item.item-iterator in
    let rest = into_iter_items c.next.new.self in
    let parted : before ≡ c.in-Some.item ∷ rest = search rules in
    let all : in_pieces full (last ++ rest) ≡ c.args.items.items = cut_next full c.loop-item.last.items last before rest c.args.items.items c.in-Some.item c.loop-item.invariant.4 c.in_ok-add.ensures parted in
    let filled : length last ≡ 64 = search rules in
    let cut = cut_full full c.add-then-len-eq-PIECE.new.all.items c.in_ok-piece.piece last c.in_ok-last-2.last.items rest c.args.items.items c.in_ok-add-2.ensures c.in_ok-piece.ensures c.in_ok-last-2.ensures.items filled c.loop-item.invariant.2 all in
    (tt, tt, cut.0, cut.1, cut.2)

pub over-requires-2 : goal.over-requires-2
over-requires-2 g c =
    let full = c.loop-item.full.items in
    let last = c.loop-item.last.items in
    let rest = into_iter_items c.loop-item.item-iterator in
    let many : c.len-number-2.result ≡ length full = search rules in
    stay_in_some c.args.earlier.now c.args.items.items last rest full c.args.same.now c.marks_from-2.result.now c.len-number-2.result c.piece-2.result c.requires c.loop-item.invariant.2 many c.loop-item.invariant.4 c.piece-2.ensures c.marks_from-2.ensures
