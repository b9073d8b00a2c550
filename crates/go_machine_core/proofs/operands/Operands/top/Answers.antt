use Rattle.std.proofs.Common.{◌≡◌, ◌-◌, List, [], ◌∷◌, drop, length, ℤ, ap, ◌∙◌, subst}
use Rattle.std.specs.Prelude.{MatchOption, slice_get}
use Rattle.go_machine_core.proofs.Tops.{top_of}
use Rattle.go_machine_core.proofs.operands.Operands.top.Goals as goal

pub returns : goal.returns
returns c =
    let items = c.self.inside.words.items in
    subst (λ (s : List ℤ). MatchOption c.copied.result (s ≡ []) (λ v. s ≡ v ∷ drop 1 s)) c.self.view_is
    (top_of items c.copied.result (c.copied.ensures ∙ c.last.ensures.value ∙ ap (λ q. slice_get q (length q - 1)) c.deref.ensures.value))
