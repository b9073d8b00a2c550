use Rattle.std.proofs.Common.{ap}
use Rattle.go_emit_core.specs.Emitted.{object_of, object_over}
use Rattle.go_emit_core.proofs.laws.one_object.Goals as goal

pub returns : goal.returns
returns c =
    λ i one other placed made again.
    let same = c.one_part.ensures i one other placed made again in
    (ap (object_of i) same, (λ all. ap (object_over all i) same))
