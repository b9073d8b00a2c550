-- The lines of the elements of lists, one element after the other.
use Rattle.std.proofs.Common.{◌≡◌, ℕ, ◌+◌, ◌<◌, ◌≤◌, List, [], ◌∷◌, ◌++◌, length, get_or, take, flat_map, refl, sym, ap, ◌∙◌}
use Rattle.std.proofs.lemmas.List.{append_assoc, append-nil, take_more, take_all, flat_map_more}
use Rattle.go_parse_core.specs.tree_core.declared.occurrence.Occ.{Occ}
use Rattle.go_term_core.specs.decl_core.declared.places.Place.{Place}
use Rattle.go_handle_core.specs.Declarations.{Declaration}
use Rattle.go_expr_core.specs.declared.things.Use.{Use}
use Rattle.govisd_resolve.specs.told_lines.Lines.{occurrence_line, occurrence_lines}

-- one more turn of a loop that writes them
pub lines_more : {X : Type 0} (f : X → List ℕ) (xs : List X) (i : ℕ) (x : X) (start outs outs' : List ℕ) → i < length xs → outs ≡ start ++ flat_map f (take i xs) → outs' ≡ outs ++ f (get_or xs i x) → outs' ≡ start ++ flat_map f (take (i + 1) xs)
lines_more f xs i x start outs outs' h so_far new =
    new
    ∙ ap (λ l. l ++ f (get_or xs i x)) so_far
    ∙ flat_map_more f start (take i xs) (get_or xs i x)
    ∙ ap (λ l. start ++ flat_map f l) (sym (take_more xs i x h))

-- the end of the loop
pub lines_all : {X : Type 0} (f : X → List ℕ) (xs : List X) (i : ℕ) (start outs : List ℕ) → length xs ≤ i → outs ≡ start ++ flat_map f (take i xs) → outs ≡ start ++ flat_map f xs
lines_all f xs i start outs h so_far = so_far ∙ ap (λ l. start ++ flat_map f l) (take_all i xs h)

-- occurrences, with what they have: one more
pub occurrence_more : (name : List ℕ) (ps : List Place) (old new all : List ℕ) (os rest : List Occ) (us left : List (Use Declaration (List ℕ))) (o : Occ) (u : Use Declaration (List ℕ))
    → os ≡ o ∷ rest → us ≡ u ∷ left → new ≡ old ++ occurrence_line name ps o u → old ++ occurrence_lines name ps os us ≡ all → new ++ occurrence_lines name ps rest left ≡ all
occurrence_more name ps old new all os rest us left o u of_occs of_uses added so_far =
    let line = occurrence_line name ps o u in
    let behind = occurrence_lines name ps rest left in
    ap (λ l. l ++ behind) added
    ∙ (append_assoc old line behind
    ∙ (ap (λ l. old ++ l) (sym (ap (λ l. occurrence_lines name ps l us) of_occs ∙ ap (λ l. occurrence_lines name ps (o ∷ rest) l) of_uses))
    ∙ so_far))

-- no occurrence is left
pub no_occurrence : (name : List ℕ) (ps : List Place) (now all : List ℕ) (os : List Occ) (us : List (Use Declaration (List ℕ))) → os ≡ [] → now ++ occurrence_lines name ps os us ≡ all → now ≡ all
no_occurrence name ps now all os us none so_far = sym (append-nil now) ∙ (ap (λ l. now ++ l) (sym (ap (λ l. occurrence_lines name ps l us) none)) ∙ so_far)

without_uses : (name : List ℕ) (ps : List Place) (os : List Occ) → occurrence_lines name ps os [] ≡ []
without_uses name ps [] = refl
without_uses name ps (o ∷ os) = refl

-- nothing more is known of one
pub no_use : (name : List ℕ) (ps : List Place) (now all : List ℕ) (os : List Occ) (us : List (Use Declaration (List ℕ))) → us ≡ [] → now ++ occurrence_lines name ps os us ≡ all → now ≡ all
no_use name ps now all os us none so_far =
    sym (append-nil now) ∙ (ap (λ l. now ++ l) (sym (ap (λ l. occurrence_lines name ps os l) none ∙ without_uses name ps os)) ∙ so_far)
