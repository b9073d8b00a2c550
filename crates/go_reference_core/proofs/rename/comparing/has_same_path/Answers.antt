use Rattle.std.proofs.Common.{◌≡◌, List, ℕ, subst}
use Rattle.std.specs.Prelude.{◌↔◌, IsTrue}
use Rattle.go_reference_core.proofs.rename.comparing.has_same_path.Goals as goal

pub returns : goal.returns
returns c =
    let r = c.is_same.result in
    subst (λ (p : List ℕ). IsTrue r ↔ (p ≡ c.args.old.now.0)) c.path.ensures (subst (λ (q : List ℕ). IsTrue r ↔ (c.path.result.now ≡ q)) c.path-path.ensures c.is_same.ensures)
