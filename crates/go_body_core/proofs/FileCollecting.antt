-- What a list of results says that is collected into one.
use Rattle.std.proofs.Common.{◌≡◌, List, [], ◌∷◌, map, IfOk, refl}
use Rattle.std.specs.Prelude.{Result, Ok, Err, Vec, MatchResult}
use Rattle.std.specs.declared.alloc.Global.{Global}
use Rattle.std.specs.declared.alloc.AllocError.{AllocError}
use Rattle.std.specs.List.{AllZip}

module _ {A B C : Type 0} (show : B → C) (given : A → C) where
  -- what one gives, shown
  abbrev pub Gives : A → Result B AllocError → Type 0
  Gives x r = IfOk r (λ y. show y ≡ given x)

  shown : (xs : List A) (ys : List B) → AllZip Gives xs (map Ok ys) → map show ys ≡ map given xs
  shown [] [] h = refl
  shown [] (y ∷ ys) h = absurd h
  shown (x ∷ xs) [] h = absurd h
  shown (x ∷ xs) (y ∷ ys) h = rw (h.0, shown xs ys h.1) refl

  pub collected : (xs : List A) (rs : List (Result B AllocError)) (r : Result (Vec B Global) AllocError) (Q : AllocError → Type 0) → AllZip Gives xs rs
      → MatchResult r (λ v. (ys : List B) × (rs ≡ map Ok ys) × (v.items ≡ ys)) Q → IfOk r (λ v. map show v.items ≡ map given xs)
  collected xs rs (Ok v) Q z h = rw h.2 (shown xs h.0 (rw h.1 at z))
  collected xs rs (Err e) Q z h = tt
