use Rattle.test_snapshot.proofs.all_paths.+follow.Given as goal

-- how many more fields a path may have
abbrev pub decreases-follow : goal.decreases-follow
decreases-follow l = l.left
