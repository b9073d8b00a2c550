-- Lists of names that are made one by one, and the names of members.
use Rattle.std.proofs.Common.{◌≡◌, ℕ, ◌+◌, ◌<◌, ◌≤◌, List, [], ◌∷◌, ◌++◌, length, map, drop, get_or, refl, sym, ap, ◌∙◌}
use Rattle.std.specs.Borrow.{Bor}
use Rattle.std.proofs.lemmas.List.{append_assoc, append-nil, map-append, drop_more, drop_all}
use Rattle.go_term_core.specs.declared.term.Field.{Field}
use Rattle.go_term_core.specs.declared.term.Method.{Method}
use Rattle.go_term_core.specs.Shapes.{Line, fields_in, method_shapes}
use Rattle.go_table_core.specs.declared.entry.DeclaredMethod.{DeclaredMethod}
use Rattle.go_table_core.specs.Shown.{member_shown}
use Rattle.go_table_core.specs.MemberNames.{field_names, method_names}

-- one name more, and the end
pub named_turn : {X : Type 0} (nm : X → List ℕ) (xs : List X) (i : ℕ) (x : X) (ns next : List (Bor (List ℕ))) (n : Bor (List ℕ)) → i < length xs → x ≡ get_or xs i x → n.now ≡ nm x → next ≡ ns ++ n ∷ []
    → map (λ m. m.now) ns ++ map nm (drop i xs) ≡ map nm xs → map (λ m. m.now) next ++ map nm (drop (i + 1) xs) ≡ map nm xs
named_turn nm xs i x ns next n lt is name more before =
    let rest = map nm (drop (i + 1) xs) in
    ap (λ (l : List (Bor (List ℕ))). map (λ m. m.now) l ++ rest) more
    ∙ (ap (λ l. l ++ rest) (map-append (λ (m : Bor (List ℕ)). m.now) ns (n ∷ []))
    ∙ (append_assoc (map (λ m. m.now) ns) (n.now ∷ []) rest
    ∙ (ap (λ l. map (λ m. m.now) ns ++ l ∷ rest) (name ∙ ap nm is)
    ∙ (ap (λ l. map (λ m. m.now) ns ++ map nm l) (sym (drop_more xs i x lt)) ∙ before))))

pub named_end : {X : Type 0} (nm : X → List ℕ) (xs : List X) (i : ℕ) (ns : List (Bor (List ℕ))) → length xs ≤ i → map (λ m. m.now) ns ++ map nm (drop i xs) ≡ map nm xs → map (λ m. m.now) ns ≡ map nm xs
named_end nm xs i ns past before = sym (append-nil (map (λ m. m.now) ns)) ∙ (ap (λ l. map (λ m. m.now) ns ++ map nm l) (sym (drop_all i xs past)) ∙ before)

pub fields_are : (ls : List Line) (fs : List Field) → map (λ f. f.name) fs ≡ field_names (fields_in ls fs)
fields_are ls [] = refl
fields_are ls (f ∷ fs) = ap (λ l. f.name ∷ l) (fields_are ls fs)

pub methods_are : (ms : List Method) → map (λ m. m.name) ms ≡ method_names (method_shapes ms)
methods_are [] = refl
methods_are (m ∷ ms) = ap (λ l. m.name ∷ l) (methods_are ms)

pub members_are : (ms : List DeclaredMethod) → map (λ m. m.name) ms ≡ map (λ m. m.name) (map member_shown ms)
members_are [] = refl
members_are (m ∷ ms) = ap (λ l. m.name ∷ l) (members_are ms)
