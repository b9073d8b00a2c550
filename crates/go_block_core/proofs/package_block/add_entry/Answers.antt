use Rattle.std.proofs.Common.{◌++◌, [], ◌∷◌, map, ap, ◌∙◌}
use Rattle.std.proofs.lemmas.List.{map-append}
use Rattle.std.proofs.lemmas.Result.{on_ok_weaker}
use Rattle.go_block_core.specs.Exports.{name_and_decl}
use Rattle.go_block_core.proofs.package_block.add_entry.Goals as goal

pub returns : goal.returns
returns c = on_ok_weaker c.add.result
    (λ added. ap (map name_and_decl) added
    ∙ (map-append name_and_decl c.args.names.now.items _
    ∙ ap (λ name. map name_and_decl c.args.names.now.items ++ (name, c.args.decl) ∷ []) c.in_ok-from_text.ensures.spelled))
    c.add.ensures
