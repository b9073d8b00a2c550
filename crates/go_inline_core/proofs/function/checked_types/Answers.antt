use Rattle.std.proofs.Common.{◌≡◌}
use Rattle.std.proofs.lemmas.Result.{IfOk-weaker}
use Rattle.go_tree_nodes.specs.Shapes.{func_of}
use Rattle.go_typexpr_core.specs.written.Written.{in_file}
use Rattle.go_names_core.specs.Scope.{beyond_in}
use Rattle.go_inline_core.specs.Functions.{scoped_outside, AreInlines}
use Rattle.go_inline_core.proofs.Found.{noted_inlines}
use Rattle.go_inline_core.proofs.function.checked_types.Goals as goal

pub returns : goal.returns
returns g c =
    let kind = g.K.Kinds.kinds c.args.kinds.now in
    let file = in_file c.args.at.now in
    let top = g.N.TypeNames.meaning c.args.top.now in
    let beyond = beyond_in scoped_outside c.args.blocks.now c.args.at.now.file in
    let func = func_of c.args.func.now in
    let checked = c.in_ok-checked.checked in
    IfOk-weaker c.of.result (λ types. types ≡ checked.notes.items) (AreInlines kind file top beyond func)
    (λ types is. noted_inlines kind file top beyond func types checked.notes.items checked.faults.items c.in_ok-checked.ensures.given is) c.of.ensures
