use Rattle.std.proofs.Common.{◌<◌, ◌∙◌, sym, subst, Ok, Err}
use Rattle.std.proofs.lemmas.Option.{slice_get_within}
use Rattle.go_graph_core.specs.mirrors.Positions.{IsPosition}
use Rattle.go_graph_core.proofs.Places.{removed_there, none_there}
use Rattle.go_graph_core.proofs.workspace.remove_package.Goals as goal

pub returns-in_default : goal.returns-in_default
returns-in_default c =
    let gap = subst (λ q. IsPosition c.args.packages.now.items q (Err c.in_default.field-0)) c.as_str.ensures.text (subst (λ l. IsPosition l c.as_str.result.now (Err c.in_default.field-0)) c.as_slice.ensures.value c.in_default.ensures) in
    sym (none_there c.args.packages.now.items c.in_default.field-0 c.args.path.now gap).0

pub remove-requires : goal.remove-requires
remove-requires c = subst (λ n. c.in-Ok.at < n) c.as_slice.ensures.len (slice_get_within c.as_slice.result.now c.in-Ok.at c.in-Ok.ensures.0 c.in-Ok.ensures.1)

pub returns : goal.returns
returns c =
    let there = subst (λ q. IsPosition c.args.packages.now.items q (Ok c.in-Ok.at)) c.as_str.ensures.text (subst (λ l. IsPosition l c.as_str.result.now (Ok c.in-Ok.at)) c.as_slice.ensures.value c.in-Ok.ensures) in
    c.remove.ensures.items ∙ sym (removed_there c.args.packages.now.items c.in-Ok.at there.0 c.args.path.now c.requires there.1 there.2)
