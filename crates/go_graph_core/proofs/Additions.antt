-- Outcomes that are added for texts.
use Rattle.std.proofs.Common.{◌≡◌, ℕ, ◌<◌, ◌+◌, List, [], ◌∷◌, ◌++◌, length, get_or, take, map, refl, sym, ◌∙◌, ap, subst}
use Rattle.std.specs.List.{AllZip, flat_map}
use Rattle.std.proofs.lemmas.List.{take_more, append_assoc, flat_map_more}
use Rattle.go_tree_nodes.specs.declared.files.ImportLine.{ImportLine}
use Rattle.go_tree_nodes.specs.Terminals.{value_of}
use Rattle.go_tree_nodes.specs.Shapes.{shape_import_line}
use Rattle.go_graph_core.specs.declared.imports.ImportOutcome.{ImportOutcome}
use Rattle.go_graph_core.specs.mirrors.Targets.{Adds}
use Rattle.go_graph_core.proofs.Zips.{zip_append}

pub map_append : {A B : Type 0} (f : A → B) (xs ys : List A) → map f (xs ++ ys) ≡ map f xs ++ map f ys
map_append f [] ys = refl
map_append f (x ∷ xs) ys = ap (λ l. f x ∷ l) (map_append f xs ys)

-- one more outcome, for the item at a place
pub adds_more : {A : Type 0} (R : List ℕ → ImportOutcome → Type 0) (f : A → List ℕ) (xs : List A) (i : ℕ) (x : A) (o : ImportOutcome) (old cur new : List ImportOutcome) → i < length xs → x ≡ get_or xs i x → Adds R (map f (take i xs)) old cur → new ≡ cur ++ o ∷ [] → R (f x) o → Adds R (map f (take (i + 1) xs)) old new
adds_more {A} R f xs i x o old cur new lt at h e r =
    let more : take (i + 1) xs ≡ take i xs ++ x ∷ [] = take_more xs i x lt ∙ ap (λ (z : A). take i xs ++ z ∷ []) (sym at) in
    let texts : map f (take (i + 1) xs) ≡ map f (take i xs) ++ f x ∷ [] = ap (map f) more ∙ map_append f (take i xs) (x ∷ []) in
    let same : new ≡ old ++ (h.0 ++ o ∷ []) = e ∙ (ap (λ (l : List ImportOutcome). l ++ o ∷ []) h.1 ∙ append_assoc old h.0 (o ∷ [])) in
    (h.0 ++ o ∷ [], same, subst (λ (l : List (List ℕ)). AllZip R l (h.0 ++ o ∷ [])) (sym texts) (zip_append R (map f (take i xs)) (f x ∷ []) h.0 (o ∷ []) h.2 (r, tt)))

-- the outcomes that are added for the item at a place
pub zip_adds : {A : Type 0} (R : List ℕ → ImportOutcome → Type 0) (g : A → List (List ℕ)) (xs : List A) (i : ℕ) (x : A) (cur new : List ImportOutcome) → i < length xs → x ≡ get_or xs i x → AllZip R (flat_map g (take i xs)) cur → Adds R (g x) cur new → AllZip R (flat_map g (take (i + 1) xs)) new
zip_adds {A} R g xs i x cur new lt at h added =
    let more : take (i + 1) xs ≡ take i xs ++ x ∷ [] = take_more xs i x lt ∙ ap (λ (z : A). take i xs ++ z ∷ []) (sym at) in
    let texts : flat_map g (take i xs) ++ g x ≡ flat_map g (take (i + 1) xs) = flat_map_more g [] (take i xs) x ∙ ap (flat_map g) (sym more) in
    subst (λ (l : List ImportOutcome). AllZip R (flat_map g (take (i + 1) xs)) l) (sym added.1) (subst (λ (l : List (List ℕ)). AllZip R l (cur ++ added.0)) texts (zip_append R (flat_map g (take i xs)) (g x) cur added.0 h added.2))

-- the texts of imports in parentheses
pub group_texts : (lines : List ImportLine) → map (λ i. value_of i.0.path) (map shape_import_line lines) ≡ map (λ (i : ImportLine). value_of i.spec.path) lines
group_texts [] = refl
group_texts (i ∷ is) = ap (λ l. value_of i.spec.path ∷ l) (group_texts is)
