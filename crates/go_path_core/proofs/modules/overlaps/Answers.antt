use Rattle.std.proofs.Common.{◌≡◌}
use Rattle.go_path_core.proofs.Paths.{begins_is, or_is, or_test, second_is}
use Rattle.go_path_core.proofs.modules.overlaps.Goals as goal

pub returns-then-is_within-clause-value : goal.returns-then-is_within-clause-value
returns-then-is_within-clause-value c =
    let one : c.args.one.now ≡ c.as_bytes-one.result.now = cc in
    let other : c.args.other.now ≡ c.as_bytes-other.result.now = cc in
    rw (one, other) (second_is _ _ _ c.if-is_within.true (c.is_within.ensures.0 c.if-is_within.true))

pub returns-else-is_within-clause-exact : goal.returns-else-is_within-clause-exact
returns-else-is_within-clause-exact c =
    let one : c.args.one.now ≡ c.as_bytes-one.result.now = cc in
    let other : c.args.other.now ≡ c.as_bytes-other.result.now = cc in
    rw (one, other) (or_is _ _ c.is_within.ensures c.if-is_within.false c.is_within-else-is_within.ensures)

pub returns-else-is_within-clause-value : goal.returns-else-is_within-clause-value
returns-else-is_within-clause-value c =
    let one : c.args.one.now ≡ c.as_bytes-one.result.now = cc in
    let other : c.args.other.now ≡ c.as_bytes-other.result.now = cc in
    rw (one, other) (or_test _ _ _ (begins_is _ _) (begins_is _ _) (or_is _ _ c.is_within.ensures c.if-is_within.false c.is_within-else-is_within.ensures))
