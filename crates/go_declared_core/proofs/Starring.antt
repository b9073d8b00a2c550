-- Types under one star more.
use Rattle.std.proofs.Common.{◌≡◌, ℕ, suc, ◌+◌, ◌∙◌, ap, arith}
use Rattle.go_term_core.specs.Terms.{Term, PointerTo}
use Rattle.go_handle_core.specs.Stars.{starred}

pub star_more : (n : ℕ) (t u v : Term) → u ≡ starred n t → v ≡ PointerTo u → v ≡ starred (n + 1) t
star_more n t u v h k = k ∙ (ap PointerTo h ∙ ap (λ (m : ℕ). starred m t) (let e : suc n ≡ n + 1 = omega arith in e))
