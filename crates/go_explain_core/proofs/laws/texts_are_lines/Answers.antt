use Rattle.go_explain_core.proofs.Everywhere.{examples_end_lines, meanings_lie_in_lines, meanings_need_no_escape, mendings_differ, mendings_end_lines, numbers_need_no_escape}
use Rattle.go_explain_core.proofs.laws.texts_are_lines.Goals as goal

pub returns : goal.returns
returns c = record { meaning = meanings_lie_in_lines; escape = meanings_need_no_escape; number = numbers_need_no_escape; example = examples_end_lines; mending = mendings_end_lines; other = mendings_differ }
