use Rattle.std.proofs.Common.{ℕ, List, subst}
use Rattle.std.specs.Prelude.{◌↔◌, IsTrue}
use Rattle.go_path_core.specs.Path.{elements, IsPrefix}
use Rattle.go_session_core.proofs.OverlayPrefixes.{inside_is}
use Rattle.go_session_core.proofs.overlay.places.is_text_inside.Goals as goal

pub returns : goal.returns
returns c =
    let path = subst (λ (q : List ℕ). IsTrue c.is_within.result ↔ IsPrefix (elements c.as_bytes-2.result.now) (elements q)) c.as_bytes.ensures.value c.is_within.ensures in
    let own = subst (λ (o : List ℕ). IsTrue c.is_within.result ↔ IsPrefix (elements o) (elements c.args.path.now)) c.as_bytes-2.ensures.value path in
    inside_is c.args.own.now c.args.path.now c.is_within.result own
