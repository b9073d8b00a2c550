use Rattle.std.proofs.Common.{rules}
use Rattle.std.proofs.lemmas.Fn.{always_returns_same}
use Rattle.go_graph_core.specs.Workspaces.{by_bytes}
use Rattle.go_import_core.proofs.ListNumbering.{number_found}
use Rattle.go_import_core.proofs.list.judging.number_of.Goals as goal

pub returns : goal.returns
returns c =
    number_found c.args.packages.now c.args.path.now c.binary_search_by.result c.ok.result c.ok.ensures.value c.requires c.binary_search_by.ensures.bound
    (c.binary_search_by.ensures.position (λ p. by_bytes p.0 c.args.path.now) (always_returns_same _ _ _ (λ a r f' k. search rules)))
