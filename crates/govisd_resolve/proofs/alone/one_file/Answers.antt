use Rattle.std.proofs.Common.{◌∷◌, ◌++◌, [], string_bytes, ap, ◌∙◌}
use Rattle.go_block_core.specs.graph_core.Workspaces.{given_files}
use Rattle.govisd_resolve.proofs.alone.one_file.Goals as goal

pub returns : goal.returns
returns c =
    ap given_files (c.in_ok-add.ensures ∙ ap (λ l. l ++ (c.in_ok-name.name, c.args.text) ∷ []) c.new-files.ensures.items)
    ∙ ap (λ name. (name, string_bytes c.args.text) ∷ []) c.in_ok-name.ensures.ok
