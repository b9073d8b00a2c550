use Rattle.go_reference_core.specs.rename.Moving.{moves_of}
use Rattle.go_reference_core.proofs.RenameKept.{lies_not, role_not, whole_use}
use Rattle.go_reference_core.proofs.rename.outcomes.is_moved_use.Goals as goal

pub returns-then-not-lies : goal.returns-then-not-lies
returns-then-not-lies c = lies_not (moves_of c.args.names.now) c.args.packages.now c.args.«package» c.args.file c.args.old.now c.args.new.now c.lies.result c.if-not-lies.true c.lies.ensures

pub returns-then-not-is_same_role : goal.returns-then-not-is_same_role
returns-then-not-is_same_role c = role_not (moves_of c.args.names.now) c.args.packages.now c.args.«package» c.args.file c.args.old.now c.args.new.now c.is_same_role.result c.if-not-is_same_role.true c.is_same_role.ensures

pub returns : goal.returns
returns c =
    whole_use (moves_of c.args.names.now) c.args.packages.now c.args.«package» c.args.file c.args.old.now c.args.new.now c.keeps_outcome.result c.lies.result c.is_same_role.result c.if-not-lies.false c.lies.ensures c.if-not-is_same_role.false c.is_same_role.ensures c.keeps_outcome.ensures
