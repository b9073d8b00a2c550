use Rattle.std.proofs.Common.{refl, sym, ◌∙◌}
use Rattle.std.proofs.lemmas.Bool.{true≢false}
use Rattle.go_import_core.proofs.ListStandings.{is_library_named, is_main, named}
use Rattle.go_import_core.proofs.list.standing.standing_of_assembled.Goals as goal

pub returns-then-is_main : goal.returns-then-is_main
returns-then-is_main c =
    let p = c.args.«package».now in
    is_main p c.name.result.now c.files-files.ensures.assembled (named p _ c.name.result.now c.files-files.ensures.well.some refl c.files-files.ensures.assembled c.name.ensures) (c.is_main.ensures.0 c.if-is_main.true)

pub returns-else-is_main : goal.returns-else-is_main
returns-else-is_main c =
    let p = c.args.«package».now in
    is_library_named p c.name.result.now c.files-files.ensures.assembled (named p _ c.name.result.now c.files-files.ensures.well.some refl c.files-files.ensures.assembled c.name.ensures) (λ e. true≢false (sym (c.is_main.ensures.1 e) ∙ c.if-is_main.false))
