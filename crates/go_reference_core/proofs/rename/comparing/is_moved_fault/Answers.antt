use Rattle.std.proofs.Common.{sym, ◌∙◌}
use Rattle.std.proofs.lemmas.Bool.{true≢false}
use Rattle.go_reference_core.specs.rename.Moving.{moves_of}
use Rattle.go_reference_core.proofs.RenameKept.{fault_lies, fault_not}
use Rattle.go_reference_core.proofs.rename.comparing.is_moved_fault.Goals as goal

pub returns-then-new-old : goal.returns-then-new-old
returns-then-new-old c = fault_not (moves_of c.args.names.now) c.args.old c.args.new (λ h. c.if-new-old.true h.of_package)

pub returns-then-new-old-2 : goal.returns-then-new-old-2
returns-then-new-old-2 c = fault_not (moves_of c.args.names.now) c.args.old c.args.new (λ h. c.if-new-old-2.true h.file)

pub returns-then-not-is_same_rule : goal.returns-then-not-is_same_rule
returns-then-not-is_same_rule c = fault_not (moves_of c.args.names.now) c.args.old c.args.new (λ h. true≢false (sym (c.is_same_rule.ensures.1 h.rule) ∙ c.if-not-is_same_rule.true))

pub returns : goal.returns
returns c = fault_lies (moves_of c.args.names.now) c.args.old c.args.new c.lies.result c.if-new-old.false c.if-new-old-2.false (c.is_same_rule.ensures.0 c.if-not-is_same_rule.false) c.lies.ensures
