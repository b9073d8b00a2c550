use Rattle.std.proofs.lemmas.Result.{on_ok_weaker}
use Rattle.go_typexpr_core.specs.written.Written.{in_file}
use Rattle.go_typexpr_core.proofs.WrittenCollected.{field_added}
use Rattle.go_typexpr_core.proofs.written.terms.add_field.Goals as goal

pub returns : goal.returns
returns c = on_ok_weaker c.add.result (λ pushed. field_added (in_file c.args.at.now) c.args.ident.now _ _ _ pushed c.in_ok-name.ensures.same c.place-place.ensures) c.add.ensures
