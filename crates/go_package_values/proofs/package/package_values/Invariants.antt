use Rattle.go_package_values.proofs.package.package_values.Given as goal

-- the table of the package
abbrev pub ghosts-values_in : goal.ghosts-values_in
ghosts-values_in a = record { types = a.scene.now.types.now }
