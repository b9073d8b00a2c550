-- What stands behind a mark.
use Rattle.std.proofs.Common.{◌≡◌, ◌≢◌, ◌∙◌, ℕ, Bool, true, false, List, [], ◌∷◌, Option, Some, None, Bor, refl, sym, ap}
use Rattle.std.specs.Prelude.{MatchOption, eqb, if◌then◌else◌, option_map}
use Rattle.std.proofs.lemmas.Bool.{eq-eqb, eqb-true}
use Rattle.govisd_words.specs.Addresses.{behind}

-- a text that begins with no mark
none_behind : (mark b : ℕ) (bs : List ℕ) → ((rest : List ℕ) → b ∷ bs ≢ mark ∷ rest) → None ≡ behind mark (b ∷ bs)
none_behind mark b bs never = by (eqb b mark) refl
  where
    by : (t : Bool) → eqb b mark ≡ t → None ≡ (if t then Some bs else None)
    by true is = absurd (never bs (ap (λ m. m ∷ bs) (eqb-true b mark is)))
    by false is = refl

-- what `strip_prefix` gives
pub behind_is : (mark : ℕ) (text : List ℕ) (r : Option (Bor (List ℕ))) → MatchOption r ((rest : List ℕ) → text ≢ mark ∷ rest) (λ x. text ≡ mark ∷ x.now) → option_map (λ rest. rest.now) r ≡ behind mark text
behind_is mark [] None never = refl
behind_is mark (b ∷ bs) None never = none_behind mark b bs never
behind_is mark text (Some x) is = sym (ap (behind mark) is ∙ ap (λ t. if t then Some x.now else None) (eq-eqb mark mark refl))
