-- Loops over two lists at once.
use Rattle.std.proofs.Common.{◌≡◌, ℕ, ◌⊎◌, inl, inr, Bool, List, [], ◌∷◌, map, length, drop, Option, None, refl, sym, ap, ◌∙◌, Bor, Iter}
use Rattle.std.specs.Iterator.{Yields}
use Rattle.std.specs.Iterator.Adapters.{zip_first, zip_second}
use Rattle.std.specs.declared.iter.Zip.{Zip}
use Rattle.std.specs.Slice.Iter.{iter_rest}
use Rattle.std.proofs.iter.Yields.{fronts}
use Rattle.std.proofs.lemmas.Iterator.{zips}
use Rattle.std.proofs.lemmas.Slice.Zip.{either_empty_from_Zip, Zip-so_far}
use Rattle.go_tree_nodes.specs.declared.names.Ident.{Ident}
use Rattle.go_local_core.specs.scope_stack.declared.short.ShortName.{ShortName}
use Rattle.go_names_core.specs.mirrors.Declaring.{faults_of_second}
use Rattle.go_names_core.specs.Scenes.{NameScene, locals_declared}

-- one of the two lists is over
pub zip_over : {A B : Type 0} (ks : List A) (vs : List B) (xs : List (Bor A × Bor B)) (s t u : Zip (Iter A) (Iter B)) (r : Option (Bor A × Bor B)) → iter_rest (zip_first s) ≡ ks → iter_rest (zip_second s) ≡ vs → Yields (zips fronts fronts) s xs t → r ≡ None → zips fronts fronts t r u
    → (drop (length xs) ks ≡ []) ⊎ (drop (length xs) vs ≡ [])
zip_over ks vs xs s t u r first second y e h =
    let so_far = Zip-so_far xs s t y in
    by (either_empty_from_Zip t u r e h) (sym (so_far.0 ∙ ap (drop (length xs)) first)) (sym (so_far.1 ∙ ap (drop (length xs)) second))
  where
    by : (iter_rest (zip_first t) ≡ []) ⊎ (iter_rest (zip_second t) ≡ []) → drop (length xs) ks ≡ iter_rest (zip_first t) → drop (length xs) vs ≡ iter_rest (zip_second t) → (drop (length xs) ks ≡ []) ⊎ (drop (length xs) vs ≡ [])
    by (inl w) a b = inl (a ∙ w)
    by (inr w) a b = inr (b ∙ w)

no_faults : (is_short : Bool) (shorts : List ShortName) → faults_of_second is_short shorts [] ≡ []
no_faults is_short [] = refl
no_faults is_short (s ∷ shorts) = refl

pub faults_over : (is_short : Bool) (shorts : List ShortName) (idents : List (Bor Ident)) (n : ℕ) → (drop n idents ≡ []) ⊎ (drop n shorts ≡ []) → faults_of_second is_short (drop n shorts) (map (λ i. i.now) (drop n idents)) ≡ []
faults_over is_short shorts idents n (inl e) = ap (λ l. faults_of_second is_short (drop n shorts) (map (λ (i : Bor Ident). i.now) l)) e ∙ no_faults is_short (drop n shorts)
faults_over is_short shorts idents n (inr e) = ap (λ l. faults_of_second is_short l (map (λ (i : Bor Ident). i.now) (drop n idents))) e

none_declared : {X : Type 0} (s : NameScene X) (xs : List Ident) → locals_declared s xs [] ≡ s
none_declared s [] = refl
none_declared s (x ∷ xs) = refl

pub locals_over : {X : Type 0} (s : NameScene X) (idents : List (Bor Ident)) (ms : List X) (n : ℕ) → (drop n idents ≡ []) ⊎ (drop n ms ≡ []) → locals_declared s (map (λ i. i.now) (drop n idents)) (drop n ms) ≡ s
locals_over s idents ms n (inl e) = ap (λ l. locals_declared s (map (λ (i : Bor Ident). i.now) l) (drop n ms)) e
locals_over s idents ms n (inr e) = ap (locals_declared s (map (λ (i : Bor Ident). i.now) (drop n idents))) e ∙ none_declared s (map (λ (i : Bor Ident). i.now) (drop n idents))
