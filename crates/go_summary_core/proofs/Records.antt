-- What is the same in each part is the same.
use Rattle.std.proofs.Common.{◌≡◌}
use Rattle.go_summary_core.specs.Summaries.{SummaryModel}

pub summaries_same : (a b : SummaryModel) → a.exports ≡ b.exports → a.types ≡ b.types → a.faces ≡ b.faces → a.files ≡ b.files → a ≡ b
summaries_same a b e t f n = λ i. record { exports = e i; types = t i; faces = f i; files = n i }
