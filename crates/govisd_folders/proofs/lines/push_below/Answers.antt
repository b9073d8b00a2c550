use Rattle.std.specs.Prelude.{string_bytes}
use Rattle.govisd_folders.proofs.LineLemmas.{below_more, below_none}
use Rattle.govisd_folders.proofs.lines.push_below.Goals as goal

pub loop-line-init : goal.loop-line-init
loop-line-init c = below_none (string_bytes c.args.out.now)

pub loop-line-preserved : goal.loop-line-preserved
loop-line-preserved c =
    below_more (string_bytes c.args.out.now) (string_bytes c.loop-line.out) (string_bytes c.push.new.text) (string_bytes c.push_words.new.out) c.loop-line.invariant c.in_ok-push.ensures c.in_ok-push_words.ensures
