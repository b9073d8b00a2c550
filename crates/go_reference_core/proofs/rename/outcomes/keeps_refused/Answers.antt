use Rattle.go_reference_core.proofs.RenameKept.{declared_not, refused_by, selected_not}
use Rattle.go_reference_core.proofs.rename.outcomes.keeps_refused.Goals as goal

pub returns-in-Declared : goal.returns-in-Declared
returns-in-Declared c = declared_not c.args.rule c.args.new.now.outcome _ c.in-Declared.is

pub returns-in-Selected : goal.returns-in-Selected
returns-in-Selected c = selected_not c.args.rule c.args.new.now.outcome _ _ c.in-Selected.is

pub returns-in-Refused : goal.returns-in-Refused
returns-in-Refused c = refused_by c.args.rule c.args.new.now.outcome c.is_same_rule.result c.in-Refused.its c.in-Refused.is c.is_same_rule.ensures
