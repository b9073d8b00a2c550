use Rattle.go_body_core.proofs.FileStanding.{specs_used, specs_broken}
use Rattle.go_body_core.proofs.file.decls.check_at_top.Goals as goal

pub returns-clause-uses : goal.returns-clause-uses
returns-clause-uses g c =
    let made = c.stand-here.ensures in
    specs_used g.P.ImportedNames.shows c.args.at.now c.stand-here.result c.args.names.now made.scene made.file made.inline made.known made.names c.requires.scopes c.requires.locals
    c.check_spec_decl.result c.args.decl.now c.args.notes.now.uses.items c.check_spec_decl.new.notes.uses.items c.requires.types c.check_spec_decl.ensures.uses

pub returns-clause-faults : goal.returns-clause-faults
returns-clause-faults g c =
    let made = c.stand-here.ensures in
    specs_broken g.P.ImportedNames.shows c.args.at.now c.stand-here.result c.args.names.now made.scene made.file made.inline made.known made.names c.requires.scopes c.requires.locals
    c.check_spec_decl.result c.args.decl.now c.args.notes.now.faults.items c.check_spec_decl.new.notes.faults.items c.requires.types c.check_spec_decl.ensures.faults
