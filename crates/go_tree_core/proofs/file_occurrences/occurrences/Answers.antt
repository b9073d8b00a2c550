use Rattle.std.proofs.Common.{◌≡◌, List, arith, sym, subst}
use Rattle.std.proofs.lemmas.Grind.{common_steps}
use Rattle.go_tree_core.specs.declared.occurrence.Occ.{Occ}
use Rattle.go_tree_nodes.specs.Shapes.{file_of}
use Rattle.go_tree_core.specs.Occurrences.{file_occs, Follow}
use Rattle.go_tree_core.proofs.Order.{occs_follow}
use Rattle.go_tree_core.proofs.file_occurrences.occurrences.Goals as goal

pub returns-clause-ordered : goal.returns-clause-ordered
returns-clause-ordered c = λ high h.
    let P : List Occ → Type 0 = λ os. Follow 0 os high in
    let value : c.visit_file.new.visitor.occs.items ≡ file_occs (file_of c.args.file.now) = grind (arith, common_steps) in
    subst P (sym value) (occs_follow (file_of c.args.file.now) high h)
