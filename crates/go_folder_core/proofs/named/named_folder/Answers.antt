use Rattle.std.proofs.Common.{◌++◌, ◌∙◌, ap, sym}
use Rattle.std.specs.Prelude.{codes}
use Rattle.go_folder_core.specs.Named.{IsWithAll}
use Rattle.go_folder_core.proofs.named.named_folder.Goals as goal

pub returns-in-Some : goal.returns-in-Some
returns-in-Some c =
    let h = c.in-Some.ensures.cases in
    IsWithAll c.in-Some.rest.now (h.1.1 ∙ ap (λ l. l ++ codes "/...") (sym h.2)) c.or_root.ensures
