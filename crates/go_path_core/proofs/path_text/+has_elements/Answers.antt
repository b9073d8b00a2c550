use Rattle.std.proofs.Common.{◌≡◌, ◌∷◌, ◌<◌, true, false, ap, ◌∙◌, arith}
use Rattle.go_path_core.specs.Path.{elements}
use Rattle.go_path_core.specs.mirrors.Steps.{left_of}
use Rattle.go_path_core.proofs.Paths.{none_fits, first_fits, rest_fits, more_fits, FitsIn}
use Rattle.go_path_core.proofs.path_text.+has_elements.Goals as goal

pub returns-then-limit-eq0 : goal.returns-then-limit-eq0
returns-then-limit-eq0 t c = ((λ (h : false ≡ true). absurd (cc)), (λ (f : FitsIn c.args.limit (elements c.args.text.now)). let z : c.args.limit ≡ 0 = omega arith in absurd (none_fits c.args.text.now (rw z at f))))

pub returns-then-not-is_element : goal.returns-then-not-is_element
returns-then-not-is_element t c = (
  (λ (h : false ≡ true). absurd (cc)),
  (λ (f : FitsIn c.args.limit (elements c.args.text.now)).
      let i : c.is_element.result ≡ true = c.is_element.ensures.1 (first_fits c.args.limit _ _ _ c.next_element.ensures.cut f) in absurd (cc)),
)

pub returns-in-Some : goal.returns-in-Some
returns-in-Some t c =
    let cut : elements c.args.text.now ≡ c.next_element.result.0.now ∷ elements c.in-Some.text.now = c.next_element.ensures.cut ∙ ap (λ o. c.next_element.result.0.now ∷ left_of o) c.in-Some.is in
    let up : 0 < c.args.limit = omega arith in
    ((λ h. more_fits c.args.limit _ _ _ cut up (c.is_element.ensures.0 c.if-not-is_element.false) (c.has_elements.ensures.0 h)), (λ f. c.has_elements.ensures.1 (rest_fits c.args.limit _ _ _ cut up f)))
