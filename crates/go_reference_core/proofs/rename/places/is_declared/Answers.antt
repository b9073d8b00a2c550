use Rattle.go_reference_core.proofs.RenameKept.{declared_there, local_there}
use Rattle.go_reference_core.proofs.rename.places.is_declared.Goals as goal

pub returns-in-Declared : goal.returns-in-Declared
returns-in-Declared c = declared_there c.args.decl c.args.place c.is_same_decl.result c.in-Declared.own c.in-Declared.is c.is_same_decl.ensures

pub returns-in-Local : goal.returns-in-Local
returns-in-Local c = local_there c.args.decl c.args.place _ c.in-Local.is
