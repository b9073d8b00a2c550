use Rattle.std.proofs.Common.{◌≡◌, refl, ◌∙◌}
use Rattle.std.proofs.lemmas.Result.{IfOk-weaker}
use Rattle.go_tree_nodes.specs.Shapes.{file_of}
use Rattle.go_tree_core.specs.copies.Respelled.{file_with}
use Rattle.go_tree_core.proofs.CopiesUnchanged.{keeps_file}
use Rattle.go_tree_core.proofs.copies.file_copies.copy.Goals as goal

pub returns : goal.returns
returns c =
    let tree = file_of c.args.file.now in
    IfOk-weaker c.copy_file.result (λ f. file_of f ≡ file_with (λ x. x) tree) (λ f. file_of f ≡ tree) (λ f same. same ∙ keeps_file (λ x. x) (λ x. refl) tree) c.copy_file.ensures
