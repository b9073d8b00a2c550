use Rattle.std.proofs.Common.{List, ℕ, sym, ◌∙◌, subst}
use Rattle.go_cursor_core.specs.Spots.{spot_seen}
use Rattle.go_complete_core.specs.hint.Hints.{AreNamesWith}
use Rattle.go_complete_core.proofs.hint.hints.texts_in.Goals as goal

pub returns : goal.returns
returns c = subst (λ (l : List (List ℕ)). AreNamesWith c.args.part.now c.args.number (spot_seen c.args.found.now) l) (sym (c.in_ok-all.ensures ∙ c.deref.ensures.value)) c.in_ok-names.ensures
