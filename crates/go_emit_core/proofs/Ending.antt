-- Behind the end of the shorter of two lists nothing is left to be made of both.
use Rattle.std.proofs.Common.{◌≡◌, ◌⊎◌, inl, inr, ℕ, ◌≤◌, List, [], ◌∷◌, length, map, drop, refl, ap, ◌∙◌, arith}
use Rattle.std.proofs.lemmas.List.{drop_all}
use Rattle.go_declared_core.specs.typexpr_core.EntryOutlines.{FileOutline}
use Rattle.go_package_core.specs.package_part.Parts.{FileOf}
use Rattle.go_emit_core.specs.meaning.Scenes.{CodeScene}
use Rattle.go_emit_core.specs.mirrors.Listing.{outlines_functions}

no_files : (s : CodeScene) (n : ℕ) (os : List FileOutline) → outlines_functions s n os [] ≡ []
no_files s n [] = refl
no_files s n (o ∷ os) = refl

pub functions_end : {A B : Type 0} (f : A → FileOutline) (g : B → FileOf) (s : CodeScene) (n end : ℕ) (xs : List A) (ys : List B) → (end ≡ length xs) ⊎ (end ≡ length ys) → end ≤ n
    → outlines_functions s n (map f (drop n xs)) (map g (drop n ys)) ≡ []
functions_end f g s n end xs ys (inl e) le = ap (λ l. outlines_functions s n (map f l) (map g (drop n ys))) (drop_all n xs (omega (arith, e, le)))
functions_end f g s n end xs ys (inr e) le = ap (λ l. outlines_functions s n (map f (drop n xs)) (map g l)) (drop_all n ys (omega (arith, e, le))) ∙ no_files s n (map f (drop n xs))
