use Rattle.std.proofs.Common.{length, map, sym, ap, ◌∙◌}
use Rattle.std.proofs.lemmas.List.{length-map}
use Rattle.std.proofs.lemmas.Result.{IfOk-weaker}
use Rattle.go_block_core.specs.Naming.{specs_named}
use Rattle.go_block_core.specs.mirrors.Shown.{spec_shown}
use Rattle.go_block_core.proofs.naming.file_named.Goals as goal

pub specs_named-requires : goal.specs_named-requires
specs_named-requires c =
    let shown = ap (map spec_shown) c.deref.ensures.value ∙ c.in_ok-specs.ensures in
    sym (length-map c.deref.result.now spec_shown) ∙ (ap length shown ∙ c.requires)

pub returns : goal.returns
returns c =
    let shown = ap (map spec_shown) c.deref.ensures.value ∙ c.in_ok-specs.ensures in
    IfOk-weaker c.specs_named.result _ _ (λ imports named. named ∙ ap (λ specs. specs_named specs c.args.imported.now) shown) c.specs_named.ensures
