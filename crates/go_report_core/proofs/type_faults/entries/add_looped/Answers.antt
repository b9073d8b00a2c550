use Rattle.std.proofs.Common.{map}
use Rattle.go_term_core.specs.declared.term.MemberPlace.TheVariants as places
use Rattle.go_path_core.specs.text_core.declared.rule.Rule.TheVariants.{Y1}
use Rattle.go_summary_core.specs.typexpr_core.EntryOutlines.{outline_shown}
use Rattle.go_report_core.specs.type_faults.Places.{located}
use Rattle.go_report_core.proofs.TypeFaultsAdding.{item_step_or, plain_end}
use Rattle.go_report_core.proofs.type_faults.entries.add_looped.Goals as goal

pub loop-alias-preserved : goal.loop-alias-preserved
loop-alias-preserved c =
    item_step_or (λ d. d) (λ d. located (map outline_shown c.args.outlines.now) (places.Declared d) Y1) c.args.looped.now c.loop-alias.alias-index _ c.args.faults.now.items _ _ c.loop-alias-test.true c.in_ok-add_fault.ensures c.loop-alias.invariant

pub returns : goal.returns
returns c =
    plain_end (λ d. located (map outline_shown c.args.outlines.now) (places.Declared d) Y1) c.args.looped.now c.loop-alias.alias-index c.args.faults.now.items _ c.loop-alias-test.false c.loop-alias.invariant
