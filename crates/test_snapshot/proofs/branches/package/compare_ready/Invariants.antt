use Rattle.test_snapshot.proofs.branches.package.compare_ready.Given as goal

-- the types that the package sees
abbrev pub ghosts-compare_files : goal.ghosts-compare_files
ghosts-compare_files g a = record { types = a.scene.now.types.now }
