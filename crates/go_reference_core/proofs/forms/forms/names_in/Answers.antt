use Rattle.std.proofs.Common.{inl, inr, map, string_bytes, ap, sym, subst}
use Rattle.std.specs.List.Sorted.{IsStrictlySortedBy}
use Rattle.std.proofs.lemmas.Result.{IfOk-weaker}
use Rattle.go_graph_core.specs.Workspaces.{by_bytes}
use Rattle.go_reference_core.proofs.FormsForming.{both_ok, none_rise}
use Rattle.go_reference_core.proofs.forms.forms.names_in.Goals as goal

pub returns-in-Ok-clause-names : goal.returns-in-Ok-clause-names
returns-in-Ok-clause-names c = inl c.in-Ok.ensures.ok

pub returns-in-Ok-clause-rising : goal.returns-in-Ok-clause-rising
returns-in-Ok-clause-rising c = (let asked = c.in-Ok.ensures.ok.2 in asked.2.are.rising)

pub returns-in-Err-clause-names : goal.returns-in-Err-clause-names
returns-in-Err-clause-names c =
    both_ok c.none_for.result _ _ _
    (λ names empty memory. elim c.in-Err.ensures.err [ inl wanting ↦ absurd (memory wanting) | inr unasked ↦ inr (ap (map string_bytes) empty, (c.in-Err.rule, unasked)) ])
    c.none_for.ensures.empty c.none_for.ensures.memory

pub returns-in-Err-clause-rising : goal.returns-in-Err-clause-rising
returns-in-Err-clause-rising c = IfOk-weaker c.none_for.result _ _ (λ names empty. subst (IsStrictlySortedBy by_bytes) (sym (ap (map string_bytes) empty)) none_rise) c.none_for.ensures.empty
