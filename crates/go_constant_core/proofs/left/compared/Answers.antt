use Rattle.std.proofs.Common.{◌≡◌, length, sym, ◌∙◌, arith}
use Rattle.std.specs.Ordering.{nat_cmp}
use Rattle.std.specs.Cmp.Lexicographic.{slice_cmp}
use Rattle.go_constant_core.specs.Texts.{bytes_left, pieces_left}
use Rattle.go_constant_core.proofs.Joined.{ended, turned_less, turned_greater, turned_equal}
use Rattle.go_constant_core.proofs.left.compared.Goals as goal

pub returns-then-many-eq0 : goal.returns-then-many-eq0
returns-then-many-eq0 c =
    c.cmp.ensures
    ∙ ended c.turns.x.bytes.now c.turns.y.bytes.now (pieces_left c.turns.x) (pieces_left c.turns.y) (slice_cmp nat_cmp (bytes_left c.args.a) (bytes_left c.args.b))
    (λ h k. omega (arith, c.min-many.ensures, c.if-many-eq0.true)) c.turns.invariant.one c.turns.invariant.other c.turns.invariant.same

pub returns-in-Less : goal.returns-in-Less
returns-in-Less c =
    let x = c.turns.x.bytes.now in
    let y = c.turns.y.bytes.now in
    let p = pieces_left c.turns.x in
    let q = pieces_left c.turns.y in
    let one = c.split_at-one.result in
    let other = c.split_at-other.result in
    let all = slice_cmp nat_cmp (bytes_left c.args.a) (bytes_left c.args.b) in
    let same : length one.0.now ≡ length other.0.now = c.split_at-one.ensures.front_len ∙ sym c.split_at-other.ensures.front_len in
    turned_less x y p q one.0.now other.0.now one.1.now other.1.now all c.split_at-one.ensures.by_index.0 c.split_at-other.ensures.by_index.0 same c.turns.invariant.same c.in-Less.ensures

pub returns-in-Greater : goal.returns-in-Greater
returns-in-Greater c =
    let x = c.turns.x.bytes.now in
    let y = c.turns.y.bytes.now in
    let p = pieces_left c.turns.x in
    let q = pieces_left c.turns.y in
    let one = c.split_at-one.result in
    let other = c.split_at-other.result in
    let all = slice_cmp nat_cmp (bytes_left c.args.a) (bytes_left c.args.b) in
    let same : length one.0.now ≡ length other.0.now = c.split_at-one.ensures.front_len ∙ sym c.split_at-other.ensures.front_len in
    turned_greater x y p q one.0.now other.0.now one.1.now other.1.now all c.split_at-one.ensures.by_index.0 c.split_at-other.ensures.by_index.0 same c.turns.invariant.same c.in-Greater.ensures

pub turns-preserved : goal.turns-preserved
turns-preserved c =
    let x = c.turns.x.bytes.now in
    let y = c.turns.y.bytes.now in
    let p = pieces_left c.turns.x in
    let q = pieces_left c.turns.y in
    let one = c.split_at-one.result in
    let other = c.split_at-other.result in
    let all = slice_cmp nat_cmp (bytes_left c.args.a) (bytes_left c.args.b) in
    let same : length one.0.now ≡ length other.0.now = c.split_at-one.ensures.front_len ∙ sym c.split_at-other.ensures.front_len in
    record {
      same = turned_equal x y p q one.0.now other.0.now one.1.now other.1.now (bytes_left c.behind-x.result) (bytes_left c.behind-y.result) all c.split_at-one.ensures.by_index.0 c.split_at-other.ensures.by_index.0 same c.turns.invariant.same c.in-Equal.ensures c.behind-x.ensures.same c.behind-y.ensures.same;
      one = c.behind-x.ensures.filled;
      other = c.behind-y.ensures.filled;
    }
