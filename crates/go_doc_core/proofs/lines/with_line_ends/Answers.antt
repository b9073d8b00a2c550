use Rattle.std.proofs.Common.{sym, ◌∙◌}
use Rattle.go_doc_core.proofs.LineLemmas.{ended}
use Rattle.go_doc_core.proofs.lines.with_line_ends.Goals as goal

pub returns : goal.returns
returns c =
    ended c.args.bytes.now c.args.from c.bytes.at c.args.to c.bytes.ends c.args.so_far c.bytes.invariant.low c.bytes.invariant.high c.bytes.invariant.few c.bytes.invariant.counted
    (sym c.is_short.ensures ∙ c.bytes-test.false)
