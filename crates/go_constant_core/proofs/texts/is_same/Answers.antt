use Rattle.std.specs.declared.cmp.Ordering.TheVariants.{Equal}
use Rattle.go_constant_core.specs.Texts.{bytes_left}
use Rattle.go_constant_core.proofs.Joined.{same_text, other_text}
use Rattle.go_constant_core.proofs.texts.is_same.Goals as goal

pub returns-in-Equal : goal.returns-in-Equal
returns-in-Equal c =
    same_text Equal (bytes_left c.left.result) (bytes_left c.left-then-len.result) c.args.a.now c.args.b.now c.in-Equal.ensures c.left.ensures c.left-then-len.ensures

pub returns-in_default : goal.returns-in_default
returns-in_default c =
    other_text c.compared.result (bytes_left c.left.result) (bytes_left c.left-then-len.result) c.args.a.now c.args.b.now c.in_default.not-Equal c.compared.ensures c.left.ensures c.left-then-len.ensures
