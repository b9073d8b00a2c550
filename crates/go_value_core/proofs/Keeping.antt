-- Flags of constants.
use Rattle.std.proofs.Common.{◌≡◌, ℕ, zero, suc, Bool, true, false, ◌&&◌, List, [], ◌∷◌, length, get_or, slice_get, refl, sym, ap, ◌∙◌, subst}
use Rattle.std.specs.Prelude.{Result, Ok, Err, IfOk, Vec}
use Rattle.std.specs.declared.alloc.Global.{Global}
use Rattle.std.proofs.lemmas.Bool.{both_ways}
use Rattle.go_env_core.specs.Scenes.{SceneModel}
use Rattle.go_value_core.specs.Around.{LeadsBack, AreLeadingBack}
use Rattle.go_value_core.specs.Package.{PlacedOf, declares_constant, some_constant, package_needs, IsThroughItself, AreThroughThemselves}
use Rattle.go_value_core.specs.mirrors.Kept.{constant_flags}

-- of constants

pub constant_at : (bs : List Bool) (ps : List PlacedOf) (n : ℕ) → get_or (constant_flags bs ps) n false ≡ (get_or bs n false && some_constant (slice_get ps n))
constant_at bs [] n = never (get_or bs n false)
  where
    never : (b : Bool) → false ≡ (b && false)
    never true = refl
    never false = refl
constant_at [] (p ∷ ps) zero = refl
constant_at [] (p ∷ ps) (suc n) = constant_at [] ps n
constant_at (b ∷ bs) (p ∷ ps) zero = refl
constant_at (b ∷ bs) (p ∷ ps) (suc n) = constant_at bs ps n

pub constants_counted : (bs : List Bool) (ps : List PlacedOf) → length (constant_flags bs ps) ≡ length ps
constants_counted bs [] = refl
constants_counted [] (p ∷ ps) = ap suc (constants_counted [] ps)
constants_counted (b ∷ bs) (p ∷ ps) = ap suc (constants_counted bs ps)

-- what the code answers

pub kept_from : {E : Type 0} (s : SceneModel) (ds es : List PlacedOf) (rows : List (List ℕ)) (bs : List Bool) (r : Result (Vec Bool Global) E) → rows ≡ package_needs s es → es ≡ ds → AreLeadingBack rows bs
    → IfOk r (λ flags. flags.items ≡ constant_flags bs es) → IfOk r (λ flags. AreThroughThemselves s ds flags.items)
kept_from s ds es rows bs (Ok flags) of_rows of_ds back h =
    subst (λ l. AreThroughThemselves s l flags.items) of_ds
    (subst (AreThroughThemselves s es) (sym h) (record {
      as_many = constants_counted bs es;
      each = λ n. (λ t. forth n t, λ i. back_from n i);
    }))
  where
    both : (a b : Bool) → (a && b) ≡ true → (a ≡ true) × (b ≡ true)
    both true true q = (refl, refl)
    both true false q = (refl, q)
    both false b q = absurd (both_ways false refl q)

    join : (a b : Bool) → a ≡ true → b ≡ true → (a && b) ≡ true
    join a b p q = ap (λ x. x && b) p ∙ q

    forth : (n : ℕ) → get_or (constant_flags bs es) n false ≡ true → IsThroughItself s es n
    forth n t =
        let parts = both (get_or bs n false) (some_constant (slice_get es n)) (sym (constant_at bs es n) ∙ t) in
        record { constant = parts.1; leads = subst (λ l. LeadsBack l n) of_rows ((back.each n).0 parts.0) }

    back_from : (n : ℕ) → IsThroughItself s es n → get_or (constant_flags bs es) n false ≡ true
    back_from n i = constant_at bs es n ∙ join (get_or bs n false) (some_constant (slice_get es n)) ((back.each n).1 (subst (λ l. LeadsBack l n) (sym of_rows) i.leads)) i.constant
kept_from s ds es rows bs (Err e) of_rows of_ds back h = tt
