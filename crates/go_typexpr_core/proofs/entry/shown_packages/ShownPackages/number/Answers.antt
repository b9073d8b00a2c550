use Rattle.std.proofs.Common.{ap, ◌∙◌}
use Rattle.go_graph_core.specs.collections_core.NameTableNamed.{value_at}
use Rattle.go_typexpr_core.specs.entry.mirrors.Indexing.{number_of}
use Rattle.go_typexpr_core.proofs.EntryShown.{number_found}
use Rattle.go_typexpr_core.proofs.entry.shown_packages.ShownPackages.number.Goals as goal

pub returns : goal.returns
returns c =
    c.copied.ensures
    ∙ (c.find.ensures
    ∙ (ap (value_at c.self.inside.numbers.names) c.as_str.ensures.text
    ∙ (number_found c.self.inside.numbers.names c.self.inside.packages.items c.args.path.now c.self.invariant ∙ ap (λ ps. number_of ps c.args.path.now) c.self.view_is)))
