use Rattle.std.proofs.Common.{rules, ◌≡◌, ℕ, ◌<◌, length, slice_get, Some, true}
use Rattle.go_collections_core.specs.persistent_list.Staying.{StaysWhere}
use Rattle.go_collections_core.proofs.PersistentListCutting.{piece_stays}
use Rattle.go_collections_core.proofs.persistent_list.piece.Piece.over.Goals as goal

pub returns-then-all_stay : goal.returns-then-all_stay
returns-then-all_stay g c =
    let earlier = c.in-Some.piece.now in
    let items = c.args.items.items in
    let same = c.args.same.now in
    let stay : StaysWhere earlier items same = search rules in
    let many : length earlier ≡ length items = search rules in
    let marked : (n : ℕ) → n < length items → slice_get same n ≡ Some true = search rules in
    let is : earlier ≡ items = piece_stays earlier items same stay many marked in
    search (rules, is)
