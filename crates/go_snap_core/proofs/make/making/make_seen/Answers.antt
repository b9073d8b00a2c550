use Rattle.go_snap_core.proofs.make.making.make_seen.Goals as goal

pub make_all-requires-clause-types : goal.make_all-requires-clause-types
make_all-requires-clause-types c = c.in_ok-seen.ensures.types

pub make_all-requires-clause-shown : goal.make_all-requires-clause-shown
make_all-requires-clause-shown c = c.in_ok-seen.ensures.shown

pub make_all-requires-clause-faces : goal.make_all-requires-clause-faces
make_all-requires-clause-faces c = c.in_ok-seen.ensures.faces
