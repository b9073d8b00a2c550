-- Each predeclared name is found by its spelling, and what is found is spelled so.
use Rattle.std.proofs.Common.{subst, ◌≡◌, ℕ, Bool, true, false, List, [], ◌∷◌, Option, Some, None, cond, ◌⊎◌, inl, inr, refl, sym, ap, ◌∙◌}
use Rattle.std.specs.Str.{bytes_eq}
use Rattle.std.specs.Prelude.{find}
use Rattle.std.proofs.lemmas.Slice.Eq.{bytes_eq-Decides}
use Rattle.go_universe_core.specs.declared.TheConstants.{PREDECLARED}
use Rattle.go_universe_core.specs.declared.Predeclared.{Predeclared}
use Rattle.go_universe_core.specs.declared.Predeclared.TheVariants as name
use Rattle.go_universe_core.specs.Universe.{spelling_of, found, EachIsFound, NamesDiffer}

pub chosen : {X : Type 0} (b : Bool) (x y z : X) → cond b x y ≡ z → ((b ≡ true) × (x ≡ z)) ⊎ ((b ≡ false) × (y ≡ z))
chosen true x y z e = inl (refl, e)
chosen false x y z e = inr (refl, e)

-- what is found passes the test
pub find_passes : {X : Type 0} (p : X → Bool) (xs : List X) (x : X) → find p xs ≡ Some x → p x ≡ true
find_passes p [] x e = cc
find_passes p (y ∷ ys) x e = elim (chosen (p y) (Some y) (find p ys) (Some x) e) [ inl h ↦ (let same : y ≡ x = cc in let P : _ → Type 0 = λ v. p v ≡ true in subst P same h.0) | inr h ↦ find_passes p ys x h.1 ]

pub found_again : (p : Predeclared) → found (spelling_of p) ≡ Some p
unfolding found spelling_of
found_again name.Any = refl
found_again name.Append = refl
found_again name.Bool = refl
found_again name.Byte = refl
found_again name.Cap = refl
found_again name.Clear = refl
found_again name.Close = refl
found_again name.Comparable = refl
found_again name.Complex = refl
found_again name.Complex128 = refl
found_again name.Complex64 = refl
found_again name.Copy = refl
found_again name.Delete = refl
found_again name.Error = refl
found_again name.False = refl
found_again name.Float32 = refl
found_again name.Float64 = refl
found_again name.Imag = refl
found_again name.Int = refl
found_again name.Int16 = refl
found_again name.Int32 = refl
found_again name.Int64 = refl
found_again name.Int8 = refl
found_again name.Iota = refl
found_again name.Len = refl
found_again name.Make = refl
found_again name.Max = refl
found_again name.Min = refl
found_again name.New = refl
found_again name.Nil = refl
found_again name.Panic = refl
found_again name.Print = refl
found_again name.Println = refl
found_again name.Real = refl
found_again name.Recover = refl
found_again name.Rune = refl
found_again name.String = refl
found_again name.True = refl
found_again name.Uint = refl
found_again name.Uint16 = refl
found_again name.Uint32 = refl
found_again name.Uint64 = refl
found_again name.Uint8 = refl
found_again name.Uintptr = refl

pub found_is_spelled : (text : List ℕ) (p : Predeclared) → found text ≡ Some p → text ≡ spelling_of p
unfolding found
found_is_spelled text p e = (bytes_eq-Decides text (spelling_of p)).0 (find_passes (λ q. bytes_eq text (spelling_of q)) PREDECLARED p e)

pub each_is_found : EachIsFound
each_is_found text p = (found_is_spelled text p, λ e. ap found e ∙ found_again p)

pub names_differ : NamesDiffer
names_differ p q e = let same : Some p ≡ Some q = sym (found_again p) ∙ ap found e ∙ found_again q in cc
