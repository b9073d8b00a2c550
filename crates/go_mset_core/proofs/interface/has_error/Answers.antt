use Rattle.std.proofs.Common.{◌≡◌, true, false, sym, ◌∙◌}
use Rattle.go_select_core.specs.table_core.Entries.{find_entry}
use Rattle.go_mset_core.specs.mirrors.Asking.{holder_shown}
use Rattle.go_mset_core.proofs.Answering.{error_has, error_lacks}
use Rattle.go_mset_core.proofs.interface.has_error.Goals as goal

pub returns-then-branch : goal.returns-then-branch
returns-then-branch c = error_has (find_entry c.args.table.now) (holder_shown c.args.holder) c.in-Ok.from (c.in_ok-has_method.ensures.0 c.if-branch.true)

pub returns : goal.returns
returns c = error_lacks (find_entry c.args.table.now) (holder_shown c.args.holder) c.in-Ok.from (λ h. let z : true ≡ false = sym (c.in_ok-has_method.ensures.1 h) ∙ c.if-branch.false in (cc))
