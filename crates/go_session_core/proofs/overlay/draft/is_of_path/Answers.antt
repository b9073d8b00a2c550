use Rattle.std.proofs.Common.{◌≡◌, subst}
use Rattle.std.specs.Bool.{IsTrue}
use Rattle.go_session_core.proofs.OverlayWalks.{at_path}
use Rattle.go_session_core.proofs.overlay.draft.is_of_path.Goals as goal

pub returns : goal.returns
returns c =
    let says = subst (λ p. (IsTrue c.is_same.result → p ≡ c.args.path.now) × (p ≡ c.args.path.now → IsTrue c.is_same.result)) c.path.ensures c.is_same.ensures in
    at_path c.args.path.now c.args.«package».now.0 c.is_same.result says.0 says.1
