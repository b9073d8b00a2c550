use Rattle.go_tree_core.proofs.Respelling.{respelled_files_write_the_same}
use Rattle.go_tree_core.proofs.laws.respelled_files_write_the_same.Goals as goal

pub returns : goal.returns
returns c = respelled_files_write_the_same
