-- Behind the end of the shorter of two lists nothing is left to be made of both.
use Rattle.std.proofs.Common.{◌≡◌, ◌⊎◌, inl, inr, ℕ, ◌≤◌, List, [], ◌∷◌, length, map, drop, Option, refl, ap, ◌∙◌, arith}
use Rattle.std.proofs.lemmas.List.{drop_all}
use Rattle.go_term_core.specs.decl_core.declared.keys.DeclRef.{DeclRef}
use Rattle.go_table_core.specs.Entries.{Entry}
use Rattle.go_declared_core.specs.Faces.{TheFace}
use Rattle.go_emit_core.specs.meaning.Scenes.{own_spotted}

none_known : (es : List Entry) (path : List ℕ) (ds : List DeclRef) → own_spotted es path ds [] ≡ []
none_known es path [] = refl
none_known es path (d ∷ ds) = refl

pub own_end : {A : Type 0} (g : A → Option TheFace) (es : List Entry) (path : List ℕ) (n end : ℕ) (ds : List DeclRef) (ys : List A) → (end ≡ length ds) ⊎ (end ≡ length ys) → end ≤ n
    → own_spotted es path (drop n ds) (map g (drop n ys)) ≡ []
own_end g es path n end ds ys (inl e) le = ap (λ l. own_spotted es path l (map g (drop n ys))) (drop_all n ds (omega (arith, e, le)))
own_end g es path n end ds ys (inr e) le = ap (λ l. own_spotted es path (drop n ds) (map g l)) (drop_all n ys (omega (arith, e, le))) ∙ none_known es path (drop n ds)
