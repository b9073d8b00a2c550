use Rattle.std.proofs.Common.{refl}
use Rattle.go_workspace_laws.proofs.folding.laws.sample_parts.Goals as goal

pub returns : goal.returns
returns c = record { sums = λ s a. refl; calls = λ s a f b t. refl; conversions = λ s t f x. refl; literals = λ s t k a. refl; written = λ s t b c. refl }
