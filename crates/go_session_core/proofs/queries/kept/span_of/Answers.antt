use Rattle.std.proofs.Common.{◌++◌, ◌∷◌, [], ◌∙◌, ℕ, List, subst}
use Rattle.go_session_core.proofs.QueriesInsides.{AreBefore, AreBehind, all_up_to, none_before}
use Rattle.go_session_core.proofs.queries.kept.span_of.Goals as goal

pub returns-clause-before : goal.returns-clause-before
returns-clause-before c =
    let ps = c.args.snapshot.now.sources in
    let start = c.count_before-start.result in
    none_before c.args.own.now ps start (subst (λ (t : List ℕ). AreBefore ps t start) c.as_str.ensures.text c.count_before-start.ensures.before)

pub returns-clause-behind : goal.returns-clause-behind
returns-clause-behind c k le =
    let ps = c.args.snapshot.now.sources in
    let end = c.count_before-end.result in
    all_up_to c.args.own.now ps end k (subst (λ (t : List ℕ). AreBehind ps t end) (c.as_str-2.ensures.value ∙ c.in_ok-behind.ensures) c.count_before-end.ensures.behind) le
