-- Lists of the locals that are open.
use Rattle.std.proofs.Common.{◌≡◌, ℕ, ◌+◌, ◌-◌, ◌<◌, ◌≤◌, min, Bool, true, false, ◌||◌, ◌&&◌, not, List, [], ◌∷◌, ◌++◌, length, get_or, take, drop, Bor, sym, ap, ◌∙◌, arith}
use Rattle.std.specs.Prelude.{if◌then◌else◌}
use Rattle.std.specs.List.{list_any}
use Rattle.std.specs.Str.{bytes_eq}
use Rattle.go_tree_nodes.specs.text_core.Text.{is_blank}
use Rattle.std.proofs.lemmas.List.{drop_more, take_all, length-drop, take-map, drop-map, take_min, drop_min, map-append, length-map, take-append-le, drop-append-le}
use Rattle.go_tree_nodes.specs.declared.names.Ident.{Ident}
use Rattle.go_cursor_core.specs.Blocks.{opened}
use Rattle.go_cursor_core.specs.Shown.{idents_shown}
use Rattle.go_cursor_core.specs.Opened.{is_new, with_ident}

pub any_at : (p : Ident → Bool) (xs : List (Bor Ident)) (i : ℕ) (x : Bor Ident) → i < length xs → x ≡ get_or xs i x → list_any p (idents_shown (drop i xs)) ≡ (p x.now || list_any p (idents_shown (drop (i + 1) xs)))
any_at p xs i x h is = ap (λ l. list_any p (idents_shown l)) (drop_more xs i x h ∙ ap (λ y. y ∷ drop (i + 1) xs) (sym is))

-- one more at the end, where it is new
pub one_new : (n : ℕ) (xs : List (Bor Ident)) (x : Bor Ident) → n ≤ length xs → is_new (drop n (idents_shown xs)) x.now ≡ true
    → opened (take n (idents_shown (xs ++ x ∷ []))) (drop n (idents_shown (xs ++ x ∷ []))) ≡ opened (take n (idents_shown xs)) (with_ident (drop n (idents_shown xs)) x.now)
one_new n xs x h new =
    let long : n ≤ length (idents_shown xs) = omega (arith, length-map xs (λ (y : Bor Ident). y.now)) in
    let more : idents_shown (xs ++ x ∷ []) ≡ idents_shown xs ++ x.now ∷ [] = map-append (λ (y : Bor Ident). y.now) xs (x ∷ []) in
    ap (λ l. opened (take n l) (drop n l)) more
    ∙ (ap (λ l. opened l (drop n (idents_shown xs ++ x.now ∷ []))) (take-append-le n (idents_shown xs) (x.now ∷ []) long)
    ∙ (ap (opened (take n (idents_shown xs))) (drop-append-le n (idents_shown xs) (x.now ∷ []) long)
    ∙ ap (λ b. opened (take n (idents_shown xs)) (if b then drop n (idents_shown xs) ++ x.now ∷ [] else drop n (idents_shown xs))) (sym new)))

pub none_new : (n : ℕ) (xs : List Ident) (x : Ident) → is_new (drop n xs) x ≡ false → opened (take n xs) (drop n xs) ≡ opened (take n xs) (with_ident (drop n xs) x)
none_new n xs x old = ap (λ b. opened (take n xs) (if b then drop n xs ++ x ∷ [] else drop n xs)) (sym old)

-- the innermost block's names gone
pub left : (o n l : ℕ) (ys xs : List (Bor Ident)) → ys ≡ take n xs → l ≡ length ys
    → opened (take (min o l) (idents_shown ys)) (drop (min o l) (idents_shown ys)) ≡ opened (take o (take n (idents_shown xs))) (drop o (take n (idents_shown xs)))
left o n l ys xs same long =
    let count : l ≡ length (idents_shown ys) = long ∙ sym (length-map ys (λ (y : Bor Ident). y.now)) in
    let shown : idents_shown ys ≡ take n (idents_shown xs) = ap idents_shown same ∙ sym (take-map (λ (y : Bor Ident). y.now) n xs) in
    ap (λ k. opened (take (min o k) (idents_shown ys)) (drop (min o k) (idents_shown ys))) count
    ∙ (ap (λ m. opened m (drop (min o (length (idents_shown ys))) (idents_shown ys))) (take_min o (idents_shown ys))
    ∙ (ap (opened (take o (idents_shown ys))) (drop_min o (idents_shown ys)) ∙ ap (λ m. opened (take o m) (drop o m)) shown))

-- the end of a list, as a slice has it
pub tail_slice : {A : Type 0} (n : ℕ) (xs : List A) → take (length xs - n) (drop n xs) ≡ drop n xs
tail_slice n xs = take_all (length xs - n) (drop n xs) (let long : length (drop n xs) ≡ length xs - n = length-drop n xs in omega (arith, long))

pub new_by : (n : ℕ) (xs : List (Bor Ident)) (x : Ident) (a : Bool) → is_blank x.name ≡ false → a ≡ list_any (λ y. bytes_eq x.name y.name) (idents_shown (drop n xs)) → not a ≡ is_new (drop n (idents_shown xs)) x
new_by n xs x a blank h =
    let p : Ident → Bool = λ y. bytes_eq x.name y.name in
    ap not (h ∙ ap (list_any p) (sym (drop-map (λ (y : Bor Ident). y.now) n xs))) ∙ sym (ap (λ b. not b && not (list_any p (drop n (idents_shown xs)))) blank)
