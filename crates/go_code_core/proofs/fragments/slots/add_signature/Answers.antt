use Rattle.std.proofs.Common.{◌++◌, sym, ap, ◌∙◌}
use Rattle.std.proofs.lemmas.Result.{on_ok_weaker}
use Rattle.go_tree_nodes.proofs.TypeShapes.{signature_parts}
use Rattle.go_code_core.specs.fragments.Slots.{signature_slots}
use Rattle.go_code_core.proofs.fragments.slots.add_signature.Goals as goal

pub returns : goal.returns
returns c = on_ok_weaker c.add_params.result (λ e. e ∙ ap (λ t. c.args.slots.now.items ++ signature_slots t) (sym (signature_parts c.args.signature.now))) c.add_params.ensures
