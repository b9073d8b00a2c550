use Rattle.std.proofs.Common.{◌≡◌, sym, subst}
use Rattle.std.specs.Prelude.{IfOk}
use Rattle.std.proofs.lemmas.Result.{IfOk-weaker}
use Rattle.go_tree_nodes.specs.Shapes.{file_of}
use Rattle.go_tree_nodes.specs.Spelling.{IsPlaced}
use Rattle.go_tree_core.specs.copies.Respelled.{respelled_file}
use Rattle.go_tree_core.proofs.Respelling.{placed_anew}
use Rattle.go_tree_core.proofs.renaming.renamed.Goals as goal

pub returns-clause-value : goal.returns-clause-value
returns-clause-value c = subst (λ s. IfOk c.respelled.result (λ f. file_of f ≡ respelled_file s c.args.name.now (file_of c.args.file.now))) c.start_of.ensures c.respelled.ensures

pub returns-clause-ordered : goal.returns-clause-ordered
returns-clause-ordered c =
    let tree = file_of c.args.file.now in
    let name = c.args.name.now in
    IfOk-weaker c.respelled.result (λ f. file_of f ≡ respelled_file c.start_of.result name tree) (λ f. IsPlaced (file_of f)) (λ f same. subst IsPlaced (sym same) (placed_anew c.start_of.result name tree c.requires.placed)) c.respelled.ensures
