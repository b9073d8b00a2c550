use Rattle.std.specs.Prelude.{string_bytes}
use Rattle.govisd_folders.specs.Telling.{line_front}
use Rattle.govisd_folders.proofs.LineLemmas.{text_ended}
use Rattle.govisd_folders.proofs.lines.push_text.Goals as goal

pub returns : goal.returns
returns c =
    text_ended c.push_below.result (string_bytes c.args.out.now) (string_bytes c.push_front.new.out) (string_bytes c.push_words.new.out) (string_bytes c.push_below.new.out) (line_front c.args.has_color c.args.file.now c.args.at c.args.rule) c.in_ok-push_front.ensures c.in_ok-push_words.ensures c.push_below.ensures
