use Rattle.govisd_words.proofs.CommandLemmas.{added, added_last}
use Rattle.govisd_words.proofs.words.command.Goals as goal

pub returns : goal.returns
returns c =
    let help = added c.in_ok-source_commands.field-0 c.in_ok-help.help c.in_ok-subcommand.field-0 _ _ c.in_ok-source_commands.ensures c.in_ok-help.ensures.shape c.in_ok-help.ensures.local c.in_ok-subcommand.ensures in
    let script = added c.in_ok-subcommand.field-0 c.in_ok-script.script c.in_ok-subcommand-2.field-0 _ _ help c.in_ok-script.ensures.shape c.in_ok-script.ensures.local c.in_ok-subcommand-2.ensures in
    let serve = added c.in_ok-subcommand-2.field-0 c.in_ok-serve.serve c.in_ok-subcommand-3.field-0 _ _ script c.in_ok-serve.ensures.shape c.in_ok-serve.ensures.local c.in_ok-subcommand-3.ensures in
    let run = added c.in_ok-subcommand-3.field-0 c.in_ok-run.run' c.in_ok-subcommand-4.field-0 _ _ serve c.in_ok-run.ensures.shape c.in_ok-run.ensures.local c.in_ok-subcommand-4.ensures in
    added_last c.subcommand-5.result c.in_ok-subcommand-4.field-0 c.in_ok-lsp.lsp _ _ run c.in_ok-lsp.ensures.shape c.in_ok-lsp.ensures.local c.subcommand-5.ensures
