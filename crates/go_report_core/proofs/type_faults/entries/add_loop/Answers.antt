use Rattle.std.proofs.Common.{◌++◌, map, ap, sym, ◌∙◌}
use Rattle.std.specs.Option.{option_map}
use Rattle.std.proofs.lemmas.List.{append-nil}
use Rattle.std.proofs.lemmas.Option.{slice_get-map, slice_get_past}
use Rattle.std.proofs.lemmas.Result.{on_ok_weaker}
use Rattle.go_summary_core.specs.table_core.Shown.{entry_shown}
use Rattle.go_select_core.specs.type_core.Steps.{entry_read}
use Rattle.go_summary_core.specs.typexpr_core.EntryOutlines.{outline_shown}
use Rattle.go_report_core.specs.type_faults.TypeFaults.{type_loop_fault}
use Rattle.go_report_core.proofs.type_faults.entries.add_loop.Goals as goal

pub returns-in-None : goal.returns-in-None
returns-in-None c =
    let past = slice_get_past c.args.entries.now c.args.fault.entry c.in-None.ensures.lookup.3 in
    sym (append-nil c.args.faults.now.items)
    ∙ ap (λ o. c.args.faults.now.items ++ type_loop_fault (map outline_shown c.args.outlines.now) c.args.fault o) (sym (slice_get-map entry_shown c.args.entries.now c.args.fault.entry ∙ ap (option_map entry_shown) past))

pub returns-in-Some : goal.returns-in-Some
returns-in-Some c =
    let w = c.in-Some in
    let read = entry_read c.args.entries.now c.args.fault.entry w.entry.now w.ensures.lookup.3.0 w.ensures.lookup.1 in
    on_ok_weaker c.add_fault.result
    (λ e. e ∙ ap (λ o. c.args.faults.now.items ++ type_loop_fault (map outline_shown c.args.outlines.now) c.args.fault o) (sym read))
    c.add_fault.ensures
