use Rattle.std.proofs.Common.{refl}
use Rattle.go_type_doc_core.proofs.laws.files_have_looks.Goals as goal

pub returns : goal.returns
returns c = record {
  own = λ p. record { types = refl; select = refl };
  other = λ q p. record { types = refl; select = refl };
}
