use Rattle.govisd_words.proofs.CommandLemmas.{added, added_last, with_required, with_version, without_help}
use Rattle.govisd_words.proofs.words.source_commands.Goals as goal

pub returns : goal.returns
returns c =
    let versioned = with_version c.new.result c.version.result _ _ c.version.ensures c.new.ensures.app in
    let required = with_required c.version.result c.subcommand_required.result _ c.subcommand_required.ensures versioned in
    let settled = without_help c.subcommand_required.result c.disable_help_subcommand.result _ c.disable_help_subcommand.ensures required in
    let resolve = added c.disable_help_subcommand.result c.new-2.result c.in_ok-subcommand.field-0 _ _ settled c.new-2.ensures.app c.new-2.ensures.local c.in_ok-subcommand.ensures in
    let explain = added c.in_ok-subcommand.field-0 c.in_ok-explain.explain c.in_ok-subcommand-2.field-0 _ _ resolve c.in_ok-explain.ensures.shape c.in_ok-explain.ensures.local c.in_ok-subcommand-2.ensures in
    added_last c.subcommand-3.result c.in_ok-subcommand-2.field-0 c.in_ok-check.check _ _ explain c.in_ok-check.ensures.shape c.in_ok-check.ensures.local c.subcommand-3.ensures
