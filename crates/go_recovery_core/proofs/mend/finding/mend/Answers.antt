use Rattle.std.proofs.Common.{◌∙◌}
use Rattle.go_scan_core.specs.Cutting.{tokens_of}
use Rattle.go_recovery_core.specs.mend.Tokens.{tokens_or_none}
use Rattle.go_recovery_core.proofs.MendMendLemmas.{mend_said, told_fits}
use Rattle.go_recovery_core.proofs.mend.finding.mend.Goals as goal

pub returns-clause-said : goal.returns-clause-said
returns-clause-said c =
    let there = c.in_ok-tokens.ensures in
    mend_said c.args.text.now c.args.fault (tokens_or_none (tokens_of c.args.text.now)) c.deref.result.now c.deref-2.result.now c.deref-3.result.now c.deref-4.result.now c.deref-5.result.now
    c.place_of-number.result c.in_ok-told.told c.token_at.result c.open_before.result c.open_offset-open.result c.is_height.result c.mend_of.result
    (c.deref.ensures.value ∙ there) (c.deref-2.ensures.value ∙ there) (c.deref-3.ensures.value ∙ there) (c.deref-4.ensures.value ∙ there) (c.deref-5.ensures.value ∙ there)
    c.place_of-number.ensures.place c.in_ok-told.ensures c.open_before.ensures c.open_offset-open.ensures c.token_at.ensures c.is_height.ensures c.mend_of.ensures

pub returns-clause-fits : goal.returns-clause-fits
returns-clause-fits c =
    told_fits c.args.text.now c.deref-2.result.now c.place_of-number.result c.args.fault c.in_ok-told.told c.args.fault.offset c.token_at.result c.open_offset-open.result c.is_height.result
    c.mend_of.result c.in_ok-told.ensures c.mend_of.ensures
