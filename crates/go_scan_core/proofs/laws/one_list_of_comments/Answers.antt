use Rattle.go_scan_core.proofs.Answered as law
use Rattle.go_scan_core.proofs.laws.one_list_of_comments.Goals as goal

pub returns : goal.returns
returns c = law.one_list_of_comments
