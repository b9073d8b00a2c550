use Rattle.std.proofs.Common.{nat_eq, ap, ◌∙◌}
use Rattle.std.specs.List.{find, starts_with}
use Rattle.go_token_core.specs.Spelling.{operator_spelling}
use Rattle.go_scan_core.proofs.CandidateLemmas.{operator_empty, operator_here}
use Rattle.go_scan_core.proofs.reading.operator.Goals as goal

pub returns-in-empty : goal.returns-in-empty
returns-in-empty c = operator_empty c.args.text.now c.in-empty.len_below

pub returns-in-len1-up : goal.returns-in-len1-up
returns-in-len1-up c = c.operator_among.ensures ∙ ap (find (λ o. starts_with nat_eq c.args.text.now (operator_spelling o))) c.operators_with.ensures ∙ operator_here c.first-item.result c.args.text.now c.in-len1-up.len_at_least c.first-item.is
