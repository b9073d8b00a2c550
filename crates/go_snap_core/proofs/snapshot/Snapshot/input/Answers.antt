use Rattle.go_snap_core.proofs.snapshot.Snapshot.input.Goals as goal

pub returns : goal.returns
returns c = (c.in_ok-part.part.now, c.in_ok-part.ensures.part, c.input.ensures)
