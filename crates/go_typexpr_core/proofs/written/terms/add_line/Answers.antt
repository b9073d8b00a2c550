use Rattle.std.proofs.Common.{refl}
use Rattle.std.proofs.lemmas.Result.{on_ok_weaker}
use Rattle.go_typexpr_core.proofs.WrittenCollected.{line_added}
use Rattle.go_typexpr_core.proofs.written.terms.add_line.Goals as goal

pub returns : goal.returns
returns c = on_ok_weaker c.add.result (λ pushed. line_added _ _ _ _ _ pushed refl c.in_ok-tag.ensures) c.add.ensures
