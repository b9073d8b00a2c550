use Rattle.go_body_core.proofs.file.decls.check_values.Goals as goal

pub check_at_top-requires-clause-types : goal.check_at_top-requires-clause-types
check_at_top-requires-clause-types g c = c.requires.types

pub returns-clause-uses : goal.returns-clause-uses
returns-clause-uses g c = c.check_at_top.ensures.uses

pub returns-clause-faults : goal.returns-clause-faults
returns-clause-faults g c = c.check_at_top.ensures.faults
