use Rattle.std.proofs.Common.{◌≡◌, ◌∷◌, [], true, false, refl, sym, ap, ◌∙◌}
use Rattle.std.proofs.lemmas.Slice.Eq.{bytes_eq-Decides}
use Rattle.go_path_core.specs.Path.{elements}
use Rattle.go_path_core.specs.mirrors.Steps.{left_of}
use Rattle.go_path_core.proofs.Paths.{first_only, ends_early, unnot}
use Rattle.go_session_core.proofs.overlay.places.+is_within.Goals as goal

pub returns-in-None-default : goal.returns-in-None-default
returns-in-None-default t c =
    let outer : elements c.args.outer.now ≡ c.next_element.result.0.now ∷ [] = c.next_element.ensures.cut ∙ ap (λ o. c.next_element.result.0.now ∷ left_of o) c.in-None-default.is-0 in
    ((λ h. first_only _ _ [] _ _ _ outer c.next_element-2.ensures.cut ((bytes_eq-Decides _ _).0 (unnot _ (sym c.if-ne.false ∙ c.ne.ensures)))), (λ h. refl))

pub returns-in-Some-None : goal.returns-in-Some-None
returns-in-Some-None t c =
    let outer : elements c.args.outer.now ≡ c.next_element.result.0.now ∷ elements c.in-Some-None.field-0-0.now = c.next_element.ensures.cut ∙ ap (λ o. c.next_element.result.0.now ∷ left_of o) c.in-Some-None.is-0 in
    let path : elements c.args.path.now ≡ c.next_element-2.result.0.now ∷ [] = c.next_element-2.ensures.cut ∙ ap (λ o. c.next_element-2.result.0.now ∷ left_of o) c.in-Some-None.is-1 in
    ((λ (h : false ≡ true). absurd (cc)), (λ h. absurd (ends_early _ _ c.in-Some-None.field-0-0.now _ _ outer path h)))
