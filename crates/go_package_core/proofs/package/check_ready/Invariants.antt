use Rattle.go_package_core.proofs.package.check_ready.Given as goal

-- the table of the package
abbrev pub ghosts-check_files : goal.ghosts-check_files
ghosts-check_files g a = record { types = a.scene.now.types.now }
