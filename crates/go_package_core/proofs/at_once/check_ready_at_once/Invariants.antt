use Rattle.go_package_core.proofs.at_once.check_ready_at_once.Given as goal

-- the table of the package
abbrev pub ghosts-check_files_at_once : goal.ghosts-check_files_at_once
ghosts-check_files_at_once g a = record { types = a.scene.now.types.now }
