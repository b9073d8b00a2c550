use Rattle.std.proofs.Common.{◌≡◌, ◌++◌, map, None, sym, ap, ◌∙◌, append-nil}
use Rattle.std.specs.Prelude.{slice_get}
use Rattle.std.specs.Option.{option_map}
use Rattle.std.proofs.lemmas.Option.{slice_get_past}
use Rattle.go_summary_core.specs.declared_core.Held.{declared_shown}
use Rattle.go_summary_core.specs.declared_core.Written.{WrittenOf}
use Rattle.go_report_core.specs.answer.mirrors.Steps.{shown_at}
use Rattle.go_report_core.proofs.AnswerStepping.{none_known}
use Rattle.go_report_core.proofs.answer.faces.add_face_at.Goals as goal

pub returns-in-None-get : goal.returns-in-None-get
returns-in-None-get c =
    let here = option_map (λ (w : WrittenOf). w.decl) (slice_get c.args.written.now c.args.at) in
    let past : slice_get c.args.known.now c.args.at ≡ None = slice_get_past c.args.known.now c.args.at c.in-None-get.ensures.lookup.3 in
    let none = ap (shown_at c.args.sorted.now here) past ∙ none_known c.args.sorted.now here in
    sym (ap (λ l. map declared_shown c.args.faces.now.items ++ l) none ∙ append-nil (map declared_shown c.args.faces.now.items))
