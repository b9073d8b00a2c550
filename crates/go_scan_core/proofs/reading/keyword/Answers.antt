use Rattle.std.proofs.Common.{ap, ◌∙◌}
use Rattle.std.specs.List.{find}
use Rattle.std.specs.Str.{bytes_eq}
use Rattle.go_token_core.specs.Spelling.{keyword_spelling}
use Rattle.go_scan_core.proofs.CandidateLemmas.{keyword_empty, keyword_here}
use Rattle.go_scan_core.proofs.reading.keyword.Goals as goal

pub returns-in-empty : goal.returns-in-empty
returns-in-empty c = keyword_empty c.args.word.now c.in-empty.len_below

pub returns-in-len1-up : goal.returns-in-len1-up
returns-in-len1-up c = c.keyword_among.ensures ∙ ap (find (λ k. bytes_eq c.args.word.now (keyword_spelling k))) c.keywords_with.ensures ∙ keyword_here c.first-item.result c.args.word.now c.in-len1-up.len_at_least c.first-item.is
