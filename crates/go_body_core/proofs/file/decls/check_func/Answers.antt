use Rattle.go_tree_nodes.specs.Shapes.{func_of}
use Rattle.go_body_core.specs.file.Stands.{stand_of}
use Rattle.go_body_core.proofs.FileStanding.{func_used, func_broken, func_declares}
use Rattle.go_body_core.proofs.file.decls.check_func.Goals as goal

pub returns-clause-uses : goal.returns-clause-uses
returns-clause-uses g c =
    let body = c.in_ok-body.body in
    func_used (stand_of g.P.ImportedNames.shows c.args.at.now) c.args.inline.now (func_of c.args.func.now) body.uses.items body.faults.items body.locals.items c.requires.placed c.requires.types c.in_ok-body.ensures.given
    c.append-3.result c.args.notes.now.uses.items c.append.new.self.items c.in_ok-append.ensures.items

pub returns-clause-locals : goal.returns-clause-locals
returns-clause-locals g c =
    let body = c.in_ok-body.body in
    func_declares (stand_of g.P.ImportedNames.shows c.args.at.now) c.args.inline.now (func_of c.args.func.now) body.uses.items body.faults.items body.locals.items c.requires.placed c.requires.types c.in_ok-body.ensures.given
    c.append-3.result c.args.locals.now.items c.append-2.new.self.items c.in_ok-append-2.ensures.items

pub returns-clause-faults : goal.returns-clause-faults
returns-clause-faults g c =
    let body = c.in_ok-body.body in
    func_broken (stand_of g.P.ImportedNames.shows c.args.at.now) c.args.inline.now (func_of c.args.func.now) body.uses.items body.faults.items body.locals.items c.requires.placed c.requires.types c.in_ok-body.ensures.given
    c.append-3.result c.args.notes.now.faults.items c.append-3.new.self.items c.append-3.ensures.items
