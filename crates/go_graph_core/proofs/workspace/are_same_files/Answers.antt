use Rattle.std.proofs.Common.{refl, sym, ◌∙◌, ◌≤◌, length, arith}
use Rattle.std.proofs.lemmas.List.{take_all}
use Rattle.go_graph_core.proofs.workspace.are_same_files.Goals as goal

pub returns : goal.returns
returns c =
    let far : length c.args.others.now ≤ c.loop-file.file = omega (arith, c.if-files-others.false, c.loop-file-test.false) in
    ((λ _. sym (take_all c.loop-file.file c.args.files.now c.loop-file-test.false) ∙ (c.loop-file.invariant ∙ take_all c.loop-file.file c.args.others.now far)), (λ _. refl))
