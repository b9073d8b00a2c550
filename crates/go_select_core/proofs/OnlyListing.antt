-- Two listings of the same names are one.
use Rattle.std.proofs.Common.{◌≡◌, ℕ, Bool, List, [], ◌∷◌, map, Less, refl, sym, ap, ◌∙◌, subst, inl, inr}
use Rattle.std.specs.Prelude.{Ok}
use Rattle.std.specs.Ordering.{nat_cmp}
use Rattle.std.specs.Cmp.Lexicographic.{slice_cmp}
use Rattle.go_path_core.specs.text_core.declared.name.Name.{Name}
use Rattle.go_term_core.specs.Terms.{Term}
use Rattle.go_term_core.proofs.Members.{In, Rises, contained_in, in_contained, in_map, map_in, pairs_rise}
use Rattle.go_embed_core.specs.table_core.Entries.{EntryLook}
use Rattle.go_embed_core.specs.Owners.{Found}
use Rattle.go_embed_core.specs.OwnersShown.{found_shown}
use Rattle.go_select_core.specs.declared.levels.search.Selected.{Selected}
use Rattle.go_select_core.specs.levels.Selectors.{IsSelectorAnswer}
use Rattle.go_select_core.specs.Selections.{IsListing}
use Rattle.go_select_core.specs.Laws.{name_listed, OneListing}
use Rattle.go_select_core.proofs.Identifiers.{never_below, never_both}
use Rattle.go_select_core.proofs.Meanings.{one_answer}

abbrev Row : Type 0
Row = List ℕ × (List ℕ × (Found × Bool))

abbrev Below : Row → Row → Type 0
Below a b = slice_cmp nat_cmp a.0 b.0 ≡ Less

-- two rising lists of the same rows are one
rows_same : (xs ys : List Row) → Rises Below xs → Rises Below ys → ((r : Row) → In xs r → In ys r) → ((r : Row) → In ys r → In xs r) → xs ≡ ys
rows_same [] [] hx hy to back = refl
rows_same [] (y ∷ ys) hx hy to back = absurd (back y (inl refl))
rows_same (x ∷ xs) [] hx hy to back = absurd (to x (inl refl))
rows_same (x ∷ xs) (y ∷ ys) hx hy to back =
    let same : x ≡ y = heads (to x (inl refl)) (back y (inl refl)) in
    let rest : xs ≡ ys = rows_same xs ys hx.1 hy.1 (λ r m. tail same r m (to r (inr m))) (λ r m. tail_back same r m (back r (inr m))) in
    λ i. same i ∷ rest i
  where
    heads : In (y ∷ ys) x → In (x ∷ xs) y → x ≡ y
    heads (inl e) m = sym e
    heads (inr m) (inl e) = e
    heads (inr m) (inr n) = absurd (never_both x.0 y.0 (hx.0 y n) (hy.0 x m))

    tail : x ≡ y → (r : Row) → In xs r → In (y ∷ ys) r → In ys r
    tail same r m (inl e) = absurd (never_below x.0 (subst (λ q. Below x q) (sym (same ∙ e)) (hx.0 r m)))
    tail same r m (inr n) = n

    tail_back : x ≡ y → (r : Row) → In ys r → In (x ∷ xs) r → In xs r
    tail_back same r m (inl e) = absurd (never_below y.0 (subst (λ q. Below y q) (sym (sym same ∙ e)) (hy.0 r m)))
    tail_back same r m (inr n) = n

rows_rise : (ns : List (Name × Selected)) → Rises (λ a b. slice_cmp nat_cmp a.0 b.0 ≡ Less) ns → Rises Below (map name_listed ns)
rows_rise [] h = tt
rows_rise (n ∷ ns) h = (λ r m. let o = map_in name_listed ns r m in subst (λ q. Below (name_listed n) q) o.2 (h.0 o.0 o.1), rows_rise ns h.1)

-- what one has the other has
there : (look : EntryLook) (t : Term) (from : List ℕ) (a b : List (Name × Selected)) → IsListing look t from a → IsListing look t from b → (r : Row) → In (map name_listed a) r → In (map name_listed b) r
there look t from a b la lb r h =
    let n = map_in name_listed a r h in
    let answer = la.sound n.0 (contained_in a n.0 n.1) in
    let m = lb.whole n.0.0 n.0.1.path n.0.1.through_pointer (found_shown n.0.1.member) answer in
    let other : IsSelectorAnswer look t n.0.0 from (Ok m.0.1) = subst (λ q. IsSelectorAnswer look t q from (Ok m.0.1)) m.2 (lb.sound m.0 m.1) in
    let same = one_answer.selected look t n.0.0 from m.0.1 n.0.1 other answer in
    subst (In (map name_listed b)) ((λ i. (m.2 i, (same.0 i, (same.1 i, same.2 i)))) ∙ n.2) (in_map name_listed b m.0 (in_contained b m.0 m.1))

pub one_list : OneListing
one_list look t from a b la lb =
    rows_same (map name_listed a) (map name_listed b) (rows_rise a (pairs_rise (λ (x y : Name × Selected). slice_cmp nat_cmp x.0 y.0 ≡ Less) a la.rising))
    (rows_rise b (pairs_rise (λ (x y : Name × Selected). slice_cmp nat_cmp x.0 y.0 ≡ Less) b lb.rising)) (λ r h. there look t from a b la lb r h) (λ r h. there look t from b a lb la r h)
