use Rattle.std.proofs.Common.{List, Option, Some, All, inl, set, sym, ◌∙◌, ap, subst}
use Rattle.go_digraph_core.specs.needs.Needs.{known_in}
use Rattle.go_digraph_core.specs.needs.mirrors.Filling.{IsThere}
use Rattle.go_digraph_core.proofs.NeedsReading.{none_of}
use Rattle.go_digraph_core.proofs.needs.table.fill.Goals as goal

pub returns : goal.returns
returns g c =
    let table : List (Option g.row.S-Value.Denot) = c.args.table.now.items in
    let all = none_of _ _ c.first_missing.result (sym c.if-is_some.ensures) c.first_missing.ensures in
    let value = c.in_ok-value.ensures ∙ ap (λ t. g.S.Needing.value c.args.stage.now (known_in t) c.args.node) c.deref-2.ensures.value in
    inl (subst (λ t. All (IsThere c.args.ranks.now t c.args.node) c.args.row.now) c.deref.ensures.value all, c.put.ensures ∙ ap (λ v. set table c.args.node (Some v)) value)
