use Rattle.std.proofs.Common.{sym}
use Rattle.go_path_core.proofs.Paths.{cut_at, not_cut}
use Rattle.go_session_core.proofs.overlay.places.next_element.Goals as goal

pub returns-in-Some-clause-cut : goal.returns-in-Some-clause-cut
returns-in-Some-clause-cut c = (cut_at c.args.text.now c.in-Some.at (sym c.in-Some.ensures)).1

pub returns-in-None-clause-cut : goal.returns-in-None-clause-cut
returns-in-None-clause-cut c = not_cut c.args.text.now (sym c.in-None.ensures)
