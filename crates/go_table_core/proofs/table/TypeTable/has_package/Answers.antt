use Rattle.std.proofs.Common.{◌≡◌, ◌↔◌, false, is_some, ap, ◌∙◌, subst}
use Rattle.go_term_core.specs.Shapes.{shape}
use Rattle.go_table_core.specs.Tables.{AreOthers}
use Rattle.go_table_core.specs.mirrors.Holding.{package_at}
use Rattle.go_table_core.proofs.Finding.{others_tested, some_copied}
use Rattle.go_table_core.proofs.table.TypeTable.has_package.Goals as goal

pub returns : goal.returns
returns c =
    let ps = c.self.inside.packages.names in
    let test = c.is_some.ensures ∙ (some_copied c.find.result ∙ (ap is_some c.find.ensures ∙ ap (λ n. is_some (package_at ps n)) c.as_str.ensures.text)) in
    subst (λ es. (c.is_some.result ≡ false) ↔ AreOthers c.args.path.now es) c.self.view_is
    (others_tested c.self.inside.len ps (shape c.self.inside.nothing) c.args.path.now c.is_some.result c.self.invariant test)
