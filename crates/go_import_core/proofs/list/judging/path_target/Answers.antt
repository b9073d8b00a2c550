use Rattle.std.proofs.Common.{List, ℕ, subst}
use Rattle.std.proofs.lemmas.Option.{slice_get_within}
use Rattle.std.proofs.lemmas.Result.{IfOk-weaker}
use Rattle.go_graph_core.specs.Imports.{IsNumbered}
use Rattle.go_import_core.proofs.ListJudged.{somewhere}
use Rattle.go_import_core.proofs.list.judging.path_target.Goals as goal

pub outcome_of-requires : goal.outcome_of-requires
outcome_of-requires c = slice_get_within c.args.packages.now c.in-Some.number (c.as_str-text.result.now, c.in-Some.ensures.0) c.in-Some.ensures.1

pub returns-in-Some : goal.returns-in-Some
returns-in-Some c =
    let ps = c.args.packages.now in
    let number = c.in-Some.number in
    let files = c.in-Some.ensures.0 in
    let numbered = subst (λ (t : List ℕ). IsNumbered ps t number files) c.as_str-text.ensures.text c.in-Some.ensures.1 in
    IfOk-weaker c.outcome_of.result _ _
    (λ outcome h. somewhere ps c.args.from.now c.args.path.now number files outcome c.as_str-text.ensures.path (c.may_import_text.ensures.0 c.if-not-may_import_text.false) numbered h)
    c.outcome_of.ensures
