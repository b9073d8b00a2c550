use Rattle.std.proofs.Common.{sym, ◌∙◌}
use Rattle.std.specs.Str.{chars}
use Rattle.go_path_core.specs.text_core.Text.{exported}
use Rattle.go_select_core.proofs.SurveysNoting.{word_added}
use Rattle.go_select_core.proofs.surveys.names.add_if.Goals as goal

pub returns-in-Ok : goal.returns-in-Ok
returns-in-Ok c n =
    let name = c.args.id.0.now in
    word_added c.args.hidden.now.keys c.insert.new.self.keys name n (exported (chars name)) (c.in-Ok.ensures.updates.0 (record { ref_ptr = (0, 0); now = n })) (sym c.is_exported.ensures ∙ c.if-is_exported.false)
