-- Names in lists and in sets, and those that stand there more than once.
use Rattle.std.proofs.Common.{◌≡◌, ℕ, ◌+◌, ◌<◌, Bool, true, false, not, ◌&&◌, ◌||◌, List, [], ◌∷◌, ◌++◌, map, take, length, get_or, if◌then◌else◌, refl, sym, ap, ◌∙◌, add-one}
use Rattle.std.specs.Borrow.{Bor}
use Rattle.std.specs.BTreeSet.{BTreeSet, Updates}
use Rattle.std.specs.Cmp.Lexicographic.{slice_cmp}
use Rattle.std.specs.List.{list_any}
use Rattle.std.specs.Ordering.{is_eq, nat_cmp}
use Rattle.std.proofs.lemmas.List.{map-append}
use Rattle.std.proofs.lemmas.Bool.{false≢true}
use Rattle.std.proofs.lemmas.Map.Text.{is_eq-slice_cmp}
use Rattle.std.proofs.Math.Seq.{take-suc}
use Rattle.std.specs.Str.{bytes_eq}
use Rattle.std.proofs.lemmas.Slice.Eq.{bytes_eq-Decides}
use Rattle.go_denote_core.specs.composite.Repeats.{has_name, repeats}
use Rattle.go_denote_core.specs.composite.mirrors.Sets.{HasNames, HasRepeats, Notes}

pub bytes_same : (x y : List ℕ) → bytes_eq x y ≡ true → x ≡ y
bytes_same x y h = (bytes_eq-Decides x y).0 h

pub bytes_itself : (x y : List ℕ) → x ≡ y → bytes_eq x y ≡ true
bytes_itself x y h = (bytes_eq-Decides x y).1 h

same_bools : (a b : Bool) → (a ≡ true → b ≡ true) → (b ≡ true → a ≡ true) → a ≡ b
same_bools true b f g = sym (f refl)
same_bools false true f g = g refl
same_bools false false f g = refl

pub bytes_turned : (x y : List ℕ) → bytes_eq x y ≡ bytes_eq y x
bytes_turned x y = same_bools (bytes_eq x y) (bytes_eq y x) (λ h. bytes_itself y x (sym (bytes_same x y h))) (λ h. bytes_itself x y (sym (bytes_same y x h)))

pub has_append : (xs ys : List (List ℕ)) (n : List ℕ) → has_name n (xs ++ ys) ≡ (has_name n xs || has_name n ys)
has_append [] ys n = refl
has_append (x ∷ xs) ys n = by (bytes_eq x n) (has_append xs ys n)
  where
    by : (b : Bool) → has_name n (xs ++ ys) ≡ (has_name n xs || has_name n ys) → (b || has_name n (xs ++ ys)) ≡ ((b || has_name n xs) || has_name n ys)
    by true rest = refl
    by false rest = rest

-- a name behind others stands among them as one before them
has_last : (xs : List (List ℕ)) (y n : List ℕ) → has_name n (xs ++ y ∷ []) ≡ has_name n (y ∷ xs)
has_last xs y n = has_append xs (y ∷ []) n ∙ by (has_name n xs) (bytes_eq y n)
  where
    by : (a b : Bool) → (a || (b || false)) ≡ (b || a)
    by true true = refl
    by true false = refl
    by false true = refl
    by false false = refl

-- names behind references, in the order of their bytes
pub any_named : (name : List ℕ) (xs : List (Bor (List ℕ))) → list_any (λ x. is_eq (slice_cmp nat_cmp name x.now)) xs ≡ has_name name (map (λ x. x.now) xs)
any_named name [] = refl
any_named name (x ∷ xs) =
    ap (λ b. b || list_any (λ y. is_eq (slice_cmp nat_cmp name y.now)) xs) (is_eq-slice_cmp name x.now ∙ bytes_turned name x.now) ∙ ap (λ b. bytes_eq x.now name || b) (any_named name xs)

-- a set of them with one more
pub inserted : (old new : BTreeSet (Bor (List ℕ))) (x : Bor (List ℕ)) → Updates (λ y z. slice_cmp nat_cmp y.now z.now) old new x true
    → (n : List ℕ) → has_name n (map (λ y. y.now) new.keys) ≡ has_name n (x.now ∷ map (λ y. y.now) old.keys)
inserted old new x put n =
    sym (any_named n new.keys)
    ∙ (put.0 (record { ref_ptr = (0, 0); now = n })
    ∙ (ap (λ b. if b then true else list_any (λ y. is_eq (slice_cmp nat_cmp n y.now)) old.keys) (is_eq-slice_cmp x.now n) ∙ by (bytes_eq x.now n)))
  where
    by : (b : Bool) → (if b then true else list_any (λ y. is_eq (slice_cmp nat_cmp n y.now)) old.keys) ≡ (b || has_name n (map (λ y. y.now) old.keys))
    by true = refl
    by false = any_named n old.keys

-- a name is noted: it is new, or it was there

pub noted_new : (seen again : List (List ℕ)) (name : List ℕ) (seen' : List (List ℕ)) (is_new : Bool) → is_new ≡ not (has_name name seen) → is_new ≡ true
    → ((n : List ℕ) → has_name n seen' ≡ has_name n (name ∷ seen)) → Notes seen again name seen' again
noted_new seen again name seen' is_new is h same = record { has_seen = same; has_again = λ n. by (has_name name seen) (bytes_eq name n) (has_name n again) (sym is ∙ h) }
  where
    by : (s b a : Bool) → not s ≡ true → a ≡ ((b && s) || a)
    by true b a h = absurd (false≢true h)
    by false true a h = refl
    by false false a h = refl

pub noted_again : (seen again : List (List ℕ)) (name : List ℕ) (seen' again' : List (List ℕ)) (is_new : Bool) → is_new ≡ not (has_name name seen) → is_new ≡ false
    → ((n : List ℕ) → has_name n seen' ≡ has_name n (name ∷ seen)) → ((n : List ℕ) → has_name n again' ≡ has_name n (name ∷ again)) → Notes seen again name seen' again'
noted_again seen again name seen' again' is_new is h same more = record { has_seen = same; has_again = λ n. more n ∙ by (has_name name seen) (bytes_eq name n) (has_name n again) (sym is ∙ h) }
  where
    by : (s b a : Bool) → not s ≡ false → (b || a) ≡ ((b && s) || a)
    by false b a h = absurd (false≢true (sym h))
    by true true a h = refl
    by true false a h = refl

-- the names seen, with one more behind them

pub names_more : (xs : List (Bor (List ℕ))) (i : ℕ) (d : Bor (List ℕ)) → i < length xs
    → map (λ y. y.now) (take (i + 1) xs) ≡ map (λ y. y.now) (take i xs) ++ (get_or xs i d).now ∷ []
names_more xs i d lt =
    ap (λ j. map (λ y. y.now) (take j xs)) (add-one i)
    ∙ (ap (map (λ y. y.now)) (take-suc xs i d lt) ∙ map-append (λ y. y.now) (take i xs) (get_or xs i d ∷ []))

pub seen_turn : (xs : List (Bor (List ℕ))) (i : ℕ) (d : Bor (List ℕ)) (seen again seen' again' : List (List ℕ)) → i < length xs
    → HasNames seen (map (λ y. y.now) (take i xs)) → Notes seen again (get_or xs i d).now seen' again' → HasNames seen' (map (λ y. y.now) (take (i + 1) xs))
seen_turn xs i d seen again seen' again' lt before noted n =
    let names = map (λ y. y.now) (take i xs) in
    let x = (get_or xs i d).now in
    noted.has_seen n ∙ (ap (λ b. bytes_eq x n || b) (before n) ∙ (sym (has_last names x n) ∙ ap (has_name n) (sym (names_more xs i d lt))))

repeats_last : (xs : List (List ℕ)) (x n : List ℕ) → repeats n (xs ++ x ∷ []) ≡ ((bytes_eq x n && has_name x xs) || repeats n xs)
repeats_last [] x n = by (bytes_eq x n)
  where
    by : (b : Bool) → (if b then false else false) ≡ ((b && false) || false)
    by true = refl
    by false = refl
repeats_last (y ∷ ys) x n = by (bytes_eq y n) (bytes_eq x n) (bytes_eq y x) (has_last ys x n) (repeats_last ys x n) (λ h k. bytes_itself y x (bytes_same y n h ∙ sym (bytes_same x n k))) (λ k h. bytes_itself y n (bytes_same y x h ∙ bytes_same x n k))
  where
    by : (yn xn yx : Bool) → has_name n (ys ++ x ∷ []) ≡ (xn || has_name n ys) → repeats n (ys ++ x ∷ []) ≡ ((xn && has_name x ys) || repeats n ys)
        → (yn ≡ true → xn ≡ true → yx ≡ true) → (xn ≡ true → yx ≡ true → yn ≡ true)
        → (if yn then has_name n (ys ++ x ∷ []) else repeats n (ys ++ x ∷ [])) ≡ ((xn && (yx || has_name x ys)) || (if yn then has_name n ys else repeats n ys))
    by true true true last rest f g = last
    by true true false last rest f g = absurd (false≢true (f refl refl))
    by true false yx last rest f g = last
    by false true true last rest f g = absurd (false≢true (g refl refl))
    by false true false last rest f g = rest
    by false false yx last rest f g = rest

pub again_turn : (xs : List (Bor (List ℕ))) (i : ℕ) (d : Bor (List ℕ)) (seen again seen' again' : List (List ℕ)) → i < length xs
    → HasNames seen (map (λ y. y.now) (take i xs)) → HasRepeats again (map (λ y. y.now) (take i xs)) → Notes seen again (get_or xs i d).now seen' again' → HasRepeats again' (map (λ y. y.now) (take (i + 1) xs))
again_turn xs i d seen again seen' again' lt before repeats_before noted n =
    let names = map (λ y. y.now) (take i xs) in
    let x = (get_or xs i d).now in
    noted.has_again n
    ∙ (ap (λ b. (bytes_eq x n && b) || has_name n again) (before x)
    ∙ (ap (λ b. (bytes_eq x n && has_name x names) || b) (repeats_before n)
    ∙ (sym (repeats_last names x n) ∙ ap (repeats n) (sym (names_more xs i d lt)))))
