use Rattle.std.specs.Prelude.{string_bytes}
use Rattle.govisd_folders.specs.Telling.{json_front}
use Rattle.govisd_folders.proofs.LineLemmas.{line_ended}
use Rattle.govisd_folders.proofs.lines.push_json.Goals as goal

pub returns : goal.returns
returns c = line_ended c.push_words.result (string_bytes c.args.out.now) (string_bytes c.push_object.new.out) (string_bytes c.push_words.new.out) (json_front c.args.«package».now c.args.file.now c.args.at c.args.offset c.args.rule) c.in_ok-push_object.ensures c.push_words.ensures
