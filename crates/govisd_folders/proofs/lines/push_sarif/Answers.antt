use Rattle.std.specs.Prelude.{string_bytes}
use Rattle.govisd_folders.specs.Telling.{sarif_front}
use Rattle.govisd_folders.proofs.LineLemmas.{line_ended}
use Rattle.govisd_folders.proofs.lines.push_sarif.Goals as goal

pub returns : goal.returns
returns c = line_ended c.push_words.result (string_bytes c.args.out.now) (string_bytes c.push_result.new.out) (string_bytes c.push_words.new.out) (sarif_front c.args.is_first c.args.follows c.args.file.now c.args.at c.args.offset c.args.rule) c.in_ok-push_result.ensures c.push_words.ensures
