-- The keys of the other elements.
use Rattle.std.proofs.Common.{◌≡◌, ℕ, zero, suc, ◌+◌, ◌<◌, ◌≤◌, Bool, true, false, nat_eq, List, [], ◌∷◌, ◌++◌, Bor, length, get_or, map, drop, Option, Some, None, refl, sym, ap, ap₂, ◌∙◌, append-nil, append_assoc, arith, eq-eqb, eqb-true, add-one}
use Rattle.std.proofs.lemmas.List.{drop_all, drop_more, length-map}
use Rattle.go_tree_nodes.specs.declared.exprs.«Item» as declared_item
use Rattle.go_tree_nodes.specs.declared.exprs.Key.{Key}
use Rattle.go_tree_nodes.specs.Shapes.{items_of, shape, shape_key}
use Rattle.go_tree_nodes.specs.Trees.{Item}
use Rattle.go_tree_nodes.specs.Counts.{item_count}
use Rattle.go_expr_core.specs.denote_core.CompositeLiterals.{keys_among}
use Rattle.go_cursor_core.specs.Contexts.{other_keys}
use Rattle.go_expr_core.specs.Elements.{all_keys, is_mixed, key_names, keys_of}
use Rattle.go_candidate_core.specs.at_place.mirrors.Keys.{key_unless, keys_but}

keys_first : (x : declared_item.Item) (xs : List declared_item.Item) → all_keys (items_of (x ∷ xs)) ≡ key_names (shape_key x.key) ++ all_keys (items_of xs)
keys_first x xs = by (shape_key x.key)
  where
    by : (k : Option Key) → all_keys (Item k (shape x.value) x.comma (items_of xs)) ≡ key_names k ++ all_keys (items_of xs)
    by None = refl
    by (Some k) = refl

apart : (a b : ℕ) → a < b → nat_eq b a ≡ false
apart a b lt = by (nat_eq b a) refl
  where
    by : (c : Bool) → nat_eq b a ≡ c → nat_eq b a ≡ false
    by false e = e
    by true e = (let same : b ≡ a = eqb-true b a e in absurd (omega (arith, lt, same)))

-- behind the element that is left out there are all
but_past : (at number : ℕ) (xs : List declared_item.Item) → at < number → keys_but at number xs ≡ all_keys (items_of xs)
but_past at number [] h = refl
but_past at number (x ∷ xs) h =
    ap (λ (b : Bool). key_unless b (shape_key x.key) ++ keys_but at (suc number) xs) (apart at number h)
    ∙ (ap (λ (l : List (List ℕ)). key_names (shape_key x.key) ++ l) (but_past at (suc number) xs (omega (arith, h))) ∙ sym (keys_first x xs))

but_is : (left number at : ℕ) (xs : List declared_item.Item) → at ≡ number + left → keys_but at number xs ≡ other_keys left (items_of xs)
but_is left number at [] e = refl
but_is zero number at (x ∷ xs) e =
    ap (λ (b : Bool). key_unless b (shape_key x.key) ++ keys_but at (suc number) xs) (eq-eqb number at (omega (arith, e))) ∙ but_past at (suc number) xs (omega (arith, e))
but_is (suc left) number at (x ∷ xs) e =
    ap (λ (b : Bool). key_unless b (shape_key x.key) ++ keys_but at (suc number) xs) (before number at (omega (arith, e)))
    ∙ ap (λ (l : List (List ℕ)). key_names (shape_key x.key) ++ l) (but_is left (suc number) at xs (omega (arith, e)))
  where
    before : (a b : ℕ) → a < b → nat_eq a b ≡ false
    before a b lt = by (nat_eq a b) refl
      where
        by : (c : Bool) → nat_eq a b ≡ c → nat_eq a b ≡ false
        by false e = e
        by true e = (let same : a ≡ b = eqb-true a b e in absurd (omega (arith, lt, same)))

pub others_are : (at : ℕ) (xs : List declared_item.Item) → keys_but at 0 xs ≡ other_keys at (items_of xs)
others_are at xs = but_is at 0 at xs (omega arith)

-- a turn of the loops

pub but_turn : (at i : ℕ) (xs : List declared_item.Item) (x : declared_item.Item) (old new all : List (List ℕ)) (same : Bool) → i < length xs → x ≡ get_or xs i x → same ≡ nat_eq i at → new ≡ old ++ key_unless same (shape_key x.key)
    → old ++ keys_but at i (drop i xs) ≡ all → new ++ keys_but at (i + 1) (drop (i + 1) xs) ≡ all
but_turn at i xs x old new all same h is left_out now before =
    ap (λ (l : List (List ℕ)). l ++ keys_but at (i + 1) (drop (i + 1) xs)) (now ∙ ap (λ (b : Bool). old ++ key_unless b (shape_key x.key)) left_out)
    ∙ (append_assoc old (key_unless (nat_eq i at) (shape_key x.key)) (keys_but at (i + 1) (drop (i + 1) xs))
    ∙ (ap (λ (l : List (List ℕ)). old ++ l)
    (ap (λ (j : ℕ). key_unless (nat_eq i at) (shape_key x.key) ++ keys_but at j (drop (i + 1) xs)) (add-one i)
    ∙ sym (ap (keys_but at i) (drop_more xs i x h ∙ ap (λ (y : declared_item.Item). y ∷ drop (i + 1) xs) (sym is))))
    ∙ before))

pub but_end : (at i : ℕ) (xs : List declared_item.Item) (now : List (List ℕ)) → length xs ≤ i → now ++ keys_but at i (drop i xs) ≡ keys_but at 0 xs → now ≡ other_keys at (items_of xs)
but_end at i xs now past h = sym (append-nil now) ∙ (sym (ap (λ (l : List declared_item.Item). now ++ keys_but at i l) (drop_all i xs past)) ∙ (h ∙ others_are at xs))

pub all_turn : (i : ℕ) (xs : List declared_item.Item) (x : declared_item.Item) (old new all : List (List ℕ)) → i < length xs → x ≡ get_or xs i x → new ≡ old ++ key_names (shape_key x.key)
    → old ++ all_keys (items_of (drop i xs)) ≡ all → new ++ all_keys (items_of (drop (i + 1) xs)) ≡ all
all_turn i xs x old new all h is now before =
    ap (λ (l : List (List ℕ)). l ++ all_keys (items_of (drop (i + 1) xs))) now
    ∙ (append_assoc old (key_names (shape_key x.key)) (all_keys (items_of (drop (i + 1) xs)))
    ∙ (ap (λ (l : List (List ℕ)). old ++ l)
    (sym (keys_first x (drop (i + 1) xs)) ∙ sym (ap (λ (l : List declared_item.Item). all_keys (items_of l)) (drop_more xs i x h ∙ ap (λ (y : declared_item.Item). y ∷ drop (i + 1) xs) (sym is))))
    ∙ before))

pub all_end : (i : ℕ) (xs : List declared_item.Item) (now : List (List ℕ)) → length xs ≤ i → now ++ all_keys (items_of (drop i xs)) ≡ all_keys (items_of xs) → now ≡ all_keys (items_of xs)
all_end i xs now past h = sym (append-nil now) ∙ (sym (ap (λ (l : List declared_item.Item). now ++ all_keys (items_of l)) (drop_all i xs past)) ∙ h)

count_is : (xs : List declared_item.Item) → item_count (items_of xs) ≡ length xs
count_is [] = refl
count_is (x ∷ xs) = ap suc (count_is xs)

pub mixed_is : (xs : List declared_item.Item) (names : List (Bor (List ℕ))) → map (λ n. n.now) names ≡ all_keys (items_of xs) → is_mixed (keys_among (length xs) (length names)) ≡ is_mixed (keys_of (items_of xs))
mixed_is xs names e =
    ap₂ (λ (a b : ℕ). is_mixed (keys_among a b)) (sym (count_is xs)) (sym (length-map names (λ (n : Bor (List ℕ)). n.now)) ∙ ap length e)
