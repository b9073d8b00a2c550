use Rattle.std.proofs.Common.{◌≡◌, ◌≤◌, None, length, sym, ap, arith, ◌∙◌}
use Rattle.std.proofs.KnownBytes.{Keeps-trans}
use Rattle.go_lsp_core.specs.frames.Frames.{head_in, most_head}
use Rattle.go_lsp_core.proofs.FramesStreams.{cut_before_head, long_head}
use Rattle.go_lsp_core.proofs.frames.reading.fill_head.Goals as goal

pub returns-then-count_of-ge-MOST_HEAD-clause-err : goal.returns-then-count_of-ge-MOST_HEAD-clause-err
returns-then-count_of-ge-MOST_HEAD-clause-err g c =
    long_head (g.R.Read.remaining c.args.reader.now) (g.R.Read.remaining c.loop-turn.reader) c.args.input.now c.loop-turn.input c.loop-turn.invariant
    (sym c.head_of.ensures ∙ c.in_default.is) (let many : most_head ≤ c.count_of.result = c.if-count_of-ge-MOST_HEAD.true in omega (arith, many, c.count_of.ensures))

pub returns-then-not-more-clause-err : goal.returns-then-not-more-clause-err
returns-then-not-more-clause-err g c =
    let over = c.in-Ok.ensures.over c.if-not-more.true in
    let none : head_in c.fill.new.self ≡ None = ap head_in over.0 ∙ (sym c.head_of.ensures ∙ c.in_default.is) in
    let size : length c.fill.new.self ≡ length c.loop-turn.input = ap length over.0 in
    cut_before_head (g.R.Read.remaining c.args.reader.now) (g.R.Read.remaining c.fill.new.reader) c.args.input.now c.fill.new.self over.1
    (Keeps-trans _ _ _ c.loop-turn.invariant c.in-Ok.ensures.kept) none (omega (arith, size, c.count_of.ensures, c.if-count_of-ge-MOST_HEAD.false)) (omega (arith, c.count_of-then-not-more.ensures, c.if-count_of-eq0.false))
