use Rattle.govisd.specs.Runs.{around}
use Rattle.govisd.proofs.DaemonLemmas.{bad_workers, nowhere, scripts_alone, scripts_each, serves_each, serves_told}
use Rattle.govisd.proofs.EditorLemmas.{editor_alone, editor_on_stdio, editor_word}
use Rattle.govisd.proofs.FlagLemmas.{help_alone, help_by_flag, nothing_refused, resolve_alone, version_told, word_behind_refused}
use Rattle.govisd.proofs.LaunchLemmas.{bad_steps, runs_each, runs_told}
use Rattle.govisd.proofs.RunLemmas.{all_rules, all_rules_as_json, each_as_json, each_command, each_folder, each_module, each_rule, each_rule_as_json, no_command, no_folder, no_rule}
use Rattle.govisd.proofs.program.runs_answer_words.Goals as goal

pub returns : goal.returns
returns g c =
    let among = around (g.C.Checks.Answers c.args._checks.now) (g.C.Launches.Outcomes c.args._checks.now) in
    record { each = each_rule among; each_as_json = each_rule_as_json among; other = no_rule among; all = all_rules among; all_as_json = all_rules_as_json among; here = no_folder among; folder = each_folder among; of_module = each_module among; as_json = each_as_json among; command = each_command among; no_command = no_command among; resolve = resolve_alone among; help = help_alone among; help_flag = help_by_flag among; version_flag = version_told among; nothing = nothing_refused among; word_behind = word_behind_refused among; script = scripts_alone among; workers = scripts_each among; bad_workers = bad_workers among; serve = serves_each among; serve_told = serves_told among; nowhere = nowhere among; runs_each = runs_each among; runs_told = runs_told among; bad_steps = bad_steps among; editor = editor_alone among; editor_stdio = editor_on_stdio among; editor_word = editor_word among }
