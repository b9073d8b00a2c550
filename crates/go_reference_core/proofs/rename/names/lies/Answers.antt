use Rattle.std.proofs.Common.{count_by, nat_lt, ap, arith, ◌∙◌}
use Rattle.go_reference_core.specs.rename.Moving.{moves_of}
use Rattle.go_reference_core.proofs.RenameMoved.{lies_longer, lies_shorter}
use Rattle.go_reference_core.proofs.rename.names.lies.Goals as goal

pub returns-then-old-new : goal.returns-then-old-new
returns-then-old-new c =
    let is = c.count_before-count.ensures.count ∙ ap (count_by (λ at. nat_lt at c.args.from)) c.offsets_in.ensures in
    lies_longer (moves_of c.args.names.now) c.args.«package» c.args.file c.args.from c.args.to c.count_before-count.result c.is_grown.result is c.if-old-new.true c.is_grown.ensures

pub returns : goal.returns
returns c =
    let is = c.count_before-count.ensures.count ∙ ap (count_by (λ at. nat_lt at c.args.from)) c.offsets_in.ensures in
    lies_shorter (moves_of c.args.names.now) c.args.«package» c.args.file c.args.from c.args.to c.count_before-count.result c.is_shrunk.result is (omega arith) c.is_shrunk.ensures
