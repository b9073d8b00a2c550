-- Names among others.
use Rattle.std.proofs.Common.{◌≡◌, ℕ, Bool, true, false, not, ◌&&◌, ◌||◌, List, [], ◌∷◌, ◌++◌, map, if◌then◌else◌, refl, sym, ap, ◌∙◌, subst}
use Rattle.std.specs.Borrow.{Bor}
use Rattle.std.specs.BTreeSet.{BTreeSet, Updates}
use Rattle.std.specs.Cmp.Lexicographic.{slice_cmp}
use Rattle.std.specs.List.{list_any}
use Rattle.std.specs.Ordering.{is_eq, nat_cmp}
use Rattle.std.specs.Str.{bytes_eq}
use Rattle.std.proofs.lemmas.Map.Text.{is_eq-slice_cmp}
use Rattle.std.proofs.lemmas.Slice.Eq.{bytes_eq-Decides}
use Rattle.go_tree_nodes.specs.text_core.Text.{is_blank}
use Rattle.go_term_core.specs.settling.Settled.{is_among_names, repeats_earlier}

-- the same names stand among two lists
abbrev pub SameNames : List (List ℕ) → List (List ℕ) → Type 0
SameNames seen other = (n : List ℕ) → is_among_names seen n ≡ is_among_names other n

pub one_more : (name : List ℕ) (seen other : List (List ℕ)) → SameNames seen other → SameNames (name ∷ seen) (name ∷ other)
one_more name seen other same n = ap (λ b. if bytes_eq name n then true else b) (same n)

pub repeats_alike : (seen other : List (List ℕ)) (name : List ℕ) → SameNames seen other → repeats_earlier seen name ≡ repeats_earlier other name
repeats_alike seen other name same = ap (λ b. not (is_blank name) && b) (same name)

pub left_alike : (seen other : List (List ℕ)) (name : List ℕ) → SameNames seen other → (is_blank name || is_among_names seen name) ≡ (is_blank name || is_among_names other name)
left_alike seen other name same = ap (λ b. is_blank name || b) (same name)

pub bytes_same : (x y : List ℕ) → bytes_eq x y ≡ true → x ≡ y
bytes_same x y h = (bytes_eq-Decides x y).0 h

pub bytes_itself : (x : List ℕ) → bytes_eq x x ≡ true
bytes_itself x = (bytes_eq-Decides x x).1 refl

pub has_first : (name : List ℕ) (seen : List (List ℕ)) → is_among_names (name ∷ seen) name ≡ true
has_first name seen = ap (λ b. if b then true else is_among_names seen name) (bytes_itself name)

pub has_later : (other name : List ℕ) (seen : List (List ℕ)) → is_among_names seen name ≡ true → is_among_names (other ∷ seen) name ≡ true
has_later other name seen h = by (bytes_eq other name)
  where
    by : (b : Bool) → (if b then true else is_among_names seen name) ≡ true
    by true = refl
    by false = h

-- a name that is there changes nothing
pub seen_again : (name : List ℕ) (seen : List (List ℕ)) → is_among_names seen name ≡ true → SameNames (name ∷ seen) seen
seen_again name seen h n = by (bytes_eq name n) (bytes_same name n)
  where
    by : (b : Bool) → (b ≡ true → name ≡ n) → (if b then true else is_among_names seen n) ≡ is_among_names seen n
    by true same = (let P : List ℕ → Type 0 = λ x. is_among_names seen x ≡ true in sym (subst P (same refl) h))
    by false same = refl

-- names behind others

same_bools : (a b : Bool) → (a ≡ true → b ≡ true) → (b ≡ true → a ≡ true) → a ≡ b
same_bools true b f g = sym (f refl)
same_bools false true f g = g refl
same_bools false false f g = refl

bytes_turned : (x y : List ℕ) → bytes_eq x y ≡ bytes_eq y x
bytes_turned x y =
    same_bools (bytes_eq x y) (bytes_eq y x) (λ h. (bytes_eq-Decides y x).1 (sym (bytes_same x y h))) (λ h. (bytes_eq-Decides x y).1 (sym (bytes_same y x h)))

pub has_append : (xs ys : List (List ℕ)) (n : List ℕ) → is_among_names (xs ++ ys) n ≡ (if is_among_names xs n then true else is_among_names ys n)
has_append [] ys n = refl
has_append (x ∷ xs) ys n = by (bytes_eq x n) (has_append xs ys n)
  where
    by : (b : Bool) → is_among_names (xs ++ ys) n ≡ (if is_among_names xs n then true else is_among_names ys n) → (if b then true else is_among_names (xs ++ ys) n) ≡ (if (if b then true else is_among_names xs n) then true else is_among_names ys n)
    by true rest = refl
    by false rest = rest

-- a name behind others stands among them as one before them
pub has_last : (xs : List (List ℕ)) (y n : List ℕ) → is_among_names (xs ++ y ∷ []) n ≡ is_among_names (y ∷ xs) n
has_last xs y n = has_append xs (y ∷ []) n ∙ by (is_among_names xs n) (bytes_eq y n)
  where
    by : (a b : Bool) → (if a then true else (if b then true else false)) ≡ (if b then true else a)
    by true true = refl
    by true false = refl
    by false true = refl
    by false false = refl

-- names behind references, in the order of their bytes
pub any_named : (name : List ℕ) (xs : List (Bor (List ℕ))) → list_any (λ x. is_eq (slice_cmp nat_cmp name x.now)) xs ≡ is_among_names (map (λ x. x.now) xs) name
any_named name [] = refl
any_named name (x ∷ xs) =
    ap (λ b. b || list_any (λ y. is_eq (slice_cmp nat_cmp name y.now)) xs) (is_eq-slice_cmp name x.now ∙ bytes_turned name x.now) ∙ by (bytes_eq x.now name) (any_named name xs)
  where
    by : (b : Bool) → list_any (λ y. is_eq (slice_cmp nat_cmp name y.now)) xs ≡ is_among_names (map (λ y. y.now) xs) name
        → (b || list_any (λ y. is_eq (slice_cmp nat_cmp name y.now)) xs) ≡ (if b then true else is_among_names (map (λ y. y.now) xs) name)
    by true rest = refl
    by false rest = rest

-- a set of them with one more
pub put_among : (old new : BTreeSet (Bor (List ℕ))) (x : Bor (List ℕ)) → Updates (λ y z. slice_cmp nat_cmp y.now z.now) old new x true → SameNames (map (λ y. y.now) new.keys) (x.now ∷ map (λ y. y.now) old.keys)
put_among old new x put n =
    sym (any_named n new.keys)
    ∙ (put.0 (record { ref_ptr = (0, 0); now = n })
    ∙ (ap (λ b. if b then true else list_any (λ y. is_eq (slice_cmp nat_cmp n y.now)) old.keys) (is_eq-slice_cmp x.now n) ∙ ap (λ b. if bytes_eq x.now n then true else b) (any_named n old.keys)))

-- two lists of names, of which the first has the name
pub among_few : (xs ys : List (List ℕ)) (n : List ℕ) → is_among_names xs n ≡ true → is_among_names (xs ++ ys) n ≡ true
among_few xs ys n h = has_append xs ys n ∙ ap (λ b. if b then true else is_among_names ys n) h

-- or not
pub among_more : (xs ys : List (List ℕ)) (n : List ℕ) → is_among_names xs n ≡ false → is_among_names (xs ++ ys) n ≡ is_among_names ys n
among_more xs ys n h = has_append xs ys n ∙ ap (λ b. if b then true else is_among_names ys n) h

pub more_few : (xs xs' ys : List (List ℕ)) (name : List ℕ) → SameNames xs' (name ∷ xs) → SameNames (xs' ++ ys) (name ∷ (xs ++ ys))
more_few xs xs' ys name same n =
    has_append xs' ys n ∙ (ap (λ b. if b then true else is_among_names ys n) (same n) ∙ (by (bytes_eq name n) ∙ ap (λ b. if bytes_eq name n then true else b) (sym (has_append xs ys n))))
  where
    by : (b : Bool) → (if (if b then true else is_among_names xs n) then true else is_among_names ys n) ≡ (if b then true else (if is_among_names xs n then true else is_among_names ys n))
    by true = refl
    by false = refl

pub more_more : (xs ys ys' : List (List ℕ)) (name : List ℕ) → SameNames ys' (name ∷ ys) → SameNames (xs ++ ys') (name ∷ (xs ++ ys))
more_more xs ys ys' name same n =
    has_append xs ys' n ∙ (ap (λ b. if is_among_names xs n then true else b) (same n) ∙ (by (is_among_names xs n) (bytes_eq name n) ∙ ap (λ b. if bytes_eq name n then true else b) (sym (has_append xs ys n))))
  where
    by : (a b : Bool) → (if a then true else (if b then true else is_among_names ys n)) ≡ (if b then true else (if a then true else is_among_names ys n))
    by true true = refl
    by true false = refl
    by false true = refl
    by false false = refl
