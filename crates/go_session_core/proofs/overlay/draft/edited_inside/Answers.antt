use Rattle.go_session_core.proofs.OverlayTexts.{edit_refused}
use Rattle.go_session_core.proofs.overlay.draft.edited_inside.Goals as goal

pub returns-in-Err-clause-err : goal.returns-in-Err-clause-err
returns-in-Err-clause-err c =
    edit_refused c.args.draft.now c.args.path.now c.args.name.now _ c.in-Err.rule c.packages.result.now c.in-Ok.packages c.requires.inside c.requires.named c.in-Ok.ensures c.packages.ensures.packages c.in-Err.ensures.err
