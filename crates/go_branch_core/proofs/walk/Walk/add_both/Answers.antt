use Rattle.go_branch_core.proofs.walk.Walk.add_both.Goals as goal

pub returns-clause-added : goal.returns-clause-added
returns-clause-added g c =
    (c.in_ok-more.more.notes.items, (c.in_ok-more.more.faults.items, (c.in_ok-more.ensures, (c.in_ok-append.ensures.items, c.in_ok-append-2.ensures.items))))
