use Rattle.std.specs.Prelude.{string_bytes}
use Rattle.govisd_folders.specs.Telling.{github_front}
use Rattle.govisd_folders.proofs.LineLemmas.{line_ended}
use Rattle.govisd_folders.proofs.lines.push_github.Goals as goal

pub returns : goal.returns
returns c = line_ended c.push_words.result (string_bytes c.args.out.now) (string_bytes c.push_command.new.out) (string_bytes c.push_words.new.out) (github_front c.args.follows c.args.file.now c.args.at c.args.rule) c.in_ok-push_command.ensures c.push_words.ensures
