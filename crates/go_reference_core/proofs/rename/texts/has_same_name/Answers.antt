use Rattle.std.proofs.Common.{◌≡◌, List, ℕ, subst}
use Rattle.std.specs.Prelude.{◌↔◌, IsTrue}
use Rattle.go_reference_core.proofs.rename.texts.has_same_name.Goals as goal

pub returns : goal.returns
returns c =
    let r = c.is_same_text.result in
    subst (λ (p : List ℕ). IsTrue r ↔ (p ≡ c.args.own.now.name)) c.name.ensures (subst (λ (q : List ℕ). IsTrue r ↔ (c.name.result.now ≡ q)) c.name-name.ensures c.is_same_text.ensures)
