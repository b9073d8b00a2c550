-- Parts that are read one by one of one value.
use Rattle.std.proofs.Common.{◌≡◌, ap, ◌∙◌}

pub two : {A X : Type 0} (f : A → A → X) (a b d : A) → a ≡ d → b ≡ d → f a b ≡ f d d
two f a b d p q = ap (λ x. f x b) p ∙ ap (f d) q

pub three : {A X : Type 0} (f : A → A → A → X) (a b c d : A) → a ≡ d → b ≡ d → c ≡ d → f a b c ≡ f d d d
three f a b c d p q r = ap (λ x. f x b c) p ∙ (ap (λ x. f d x c) q ∙ ap (f d d) r)
