use Rattle.std.specs.Prelude.{string_bytes}
use Rattle.govisd_folders.proofs.LineLemmas.{words_added}
use Rattle.govisd_folders.proofs.lines.push_words.Goals as goal

pub returns : goal.returns
returns c =
    words_added c.push-2.result (string_bytes c.args.out.now) (string_bytes c.push.new.text) (string_bytes c.push-2.new.text) c.first_line.result.now c.in_ok-push.ensures c.first_line.ensures c.push-2.ensures
