use Rattle.std.proofs.Common.{◌≡◌, Some, None, sym, ◌∙◌}
use Rattle.std.proofs.lemmas.Option.{slice_get_past}
use Rattle.go_batch_core.proofs.rows.files_at.Goals as goal

pub returns-in-None : goal.returns-in-None
returns-in-None c p there = absurd (let no : None ≡ Some p = sym (slice_get_past c.args.packages.now c.args.number c.in-None.ensures.lookup.3) ∙ there in cc)
