use Rattle.std.proofs.Common.{rules}
use Rattle.std.proofs.lemmas.Fn.{always_returns_same}
use Rattle.go_graph_core.specs.Sources.{SourceModel}
use Rattle.go_graph_core.specs.Workspaces.{by_bytes}
use Rattle.go_snap_core.proofs.Finding.{file_found}
use Rattle.go_snap_core.proofs.snapshot.file_of.Goals as goal

pub returns : goal.returns
returns c =
    file_found c.args.files.now c.args.name.now c.binary_search_by.result c.ok.result c.ok.ensures.value c.requires c.binary_search_by.ensures.bound
    (c.binary_search_by.ensures.position (λ (f : SourceModel). by_bytes f.name c.args.name.now) (always_returns_same _ _ _ (λ a r f' k. search rules)))
