-- Files that are checked, and lists of them that correspond to others.
use Rattle.std.proofs.Common.{◌≡◌, ℕ, zero, suc, ◌+◌, ◌<◌, ◌≤◌, List, [], ◌∷◌, ◌++◌, map, length, take, drop, get_or, All, refl, sym, ap, subst, ◌∙◌, append_assoc, append-nil, arith}
use Rattle.std.specs.Borrow.{Bor}
use Rattle.std.specs.Prelude.{Some, Result, Ok, Err, Vec, MatchResult, IfOk, slice_get}
use Rattle.std.specs.declared.alloc.Global.{Global}
use Rattle.std.specs.declared.alloc.AllocError.{AllocError}
use Rattle.std.specs.List.{AllZip, flat_map, enumerate_from}
use Rattle.std.proofs.lemmas.List.{drop-drop, map-append}
use Rattle.std.proofs.lemmas.List.Elements.{All-nil, All-cons}
use Rattle.std.proofs.lemmas.Grind.{flat_map-append}
use Rattle.go_package_core.proofs.PrepareLists.{zip_both}
use Rattle.go_package_core.proofs.Numbered.{numbered_more}

-- a front of a list, and the next item

one_further : {A : Type 0} (xs : List A) (i : ℕ) (x : A) → i < length xs → x ≡ get_or xs i x → take (suc i) xs ≡ take i xs ++ x ∷ []
one_further [] i x lt is = absurd (omega arith)
one_further (y ∷ xs) zero x lt is = ap (λ z. z ∷ []) (sym is)
one_further (y ∷ xs) (suc i) x lt is = ap (λ l. y ∷ l) (one_further xs i x (let below : i < length xs = omega arith in below) is)

pub further : {A : Type 0} (xs : List A) (i : ℕ) (x : A) → i < length xs → x ≡ get_or xs i x → take (i + 1) xs ≡ take i xs ++ x ∷ []
further xs i x lt is =
    let next : i + 1 ≡ suc i = omega arith in
    ap (λ (k : ℕ). take k xs) next ∙ one_further xs i x lt is

-- one more in lists that correspond
pub zip_further : {A B V : Type 0} (R : A → B → Type 0) (show : V → B) (xs : List A) (i : ℕ) (x : A) (old new : List V) (v : V) → i < length xs → x ≡ get_or xs i x → new ≡ old ++ v ∷ [] → R x (show v)
    → AllZip R (take i xs) (map show old) → AllZip R (take (i + 1) xs) (map show new)
zip_further R show xs i x old new v lt is added one before =
    subst (λ l. AllZip R l (map show new)) (sym (further xs i x lt is))
    (subst (λ l. AllZip R (take i xs ++ x ∷ []) l) (sym (ap (map show) added ∙ map-append show old (v ∷ [])))
    (zip_both R (take i xs) (x ∷ []) (map show old) (show v ∷ []) before (one, tt)))

-- one file more
pub task_more : {A V : Type 0} (R : ℕ × A → V → Type 0) (fs : List A) (n : ℕ) (f : A) (old new : List V) (v : V) → slice_get fs n ≡ Some f → new ≡ old ++ v ∷ [] → R (n, f) v
    → AllZip R (enumerate_from 0 (take n fs)) old → AllZip R (enumerate_from 0 (take (n + 1) fs)) new
task_more R fs n f old new v at added one before =
    subst (λ l. AllZip R l new) (sym (numbered_more fs n f at))
    (subst (λ l. AllZip R (enumerate_from 0 (take n fs) ++ (n, f) ∷ []) l) (sym added) (zip_both R (enumerate_from 0 (take n fs)) ((n, f) ∷ []) old (v ∷ []) before (one, tt)))

-- what holds of an item where its partner is
pub zip_all : {A B : Type 0} (R : A → B → Type 0) (P : B → Type 0) → ((x : A) (y : B) → R x y → P y) → (xs : List A) (ys : List B) → AllZip R xs ys → All P ys
zip_all R P f [] [] h = All-nil P
zip_all R P f [] (y ∷ ys) h = absurd h
zip_all R P f (x ∷ xs) [] h = absurd h
zip_all R P f (x ∷ xs) (y ∷ ys) h = All-cons P y ys (f x y h.0) (zip_all R P f xs ys h.1)

-- partners of partners
pub zip_through : {A T B : Type 0} (R : A → T → Type 0) (S : T → B → Type 0) (Q : A → B → Type 0) → ((x : A) (t : T) (y : B) → R x t → S t y → Q x y) → (xs : List A) (ts : List T) (ys : List B)
    → AllZip R xs ts → AllZip S ts ys → AllZip Q xs ys
zip_through R S Q f [] [] [] h k = tt
zip_through R S Q f [] [] (y ∷ ys) h k = absurd k
zip_through R S Q f [] (t ∷ ts) ys h k = absurd h
zip_through R S Q f (x ∷ xs) [] ys h k = absurd h
zip_through R S Q f (x ∷ xs) (t ∷ ts) [] h k = absurd k
zip_through R S Q f (x ∷ xs) (t ∷ ts) (y ∷ ys) h k = (f x t y h.0 k.0, zip_through R S Q f xs ts ys h.1 k.1)

-- what is appended of one list after another
pub appended : {C B : Type 0} (f : C → List B) (c : C) (rest : List C) (old new all : List B) → new ≡ old ++ f c → old ++ flat_map f (c ∷ rest) ≡ all → new ++ flat_map f rest ≡ all
appended f c rest old new all added before = ap (λ l. l ++ flat_map f rest) added ∙ (append_assoc old (f c) (flat_map f rest) ∙ before)

-- pieces of a list

pub piece_more : {T : Type 0} (ps new : List (Bor (List T))) (p : Bor (List T)) (left rest all : List T) → new ≡ ps ++ p ∷ [] → left ≡ p.now ++ rest → flat_map (λ (q : Bor (List T)). q.now) ps ++ left ≡ all
    → flat_map (λ (q : Bor (List T)). q.now) new ++ rest ≡ all
piece_more ps new p left rest all added split before =
    ap (λ l. flat_map (λ (q : Bor (List _)). q.now) l ++ rest) added
    ∙ (ap (λ l. l ++ rest) (flat_map-append (λ (q : Bor (List _)). q.now) ps (p ∷ []))
    ∙ (append_assoc (flat_map (λ (q : Bor (List _)). q.now) ps) (p.now ++ []) rest
    ∙ (ap (λ l. flat_map (λ (q : Bor (List _)). q.now) ps ++ (l ++ rest)) (append-nil p.now) ∙ (ap (λ l. flat_map (λ (q : Bor (List _)). q.now) ps ++ l) (sym split) ∙ before))))

-- and where the next piece begins
pub piece_moves : {T : Type 0} (ps new : List (Bor (List T))) (p : Bor (List T)) (left rest all : List T) (i k n : ℕ) → new ≡ ps ++ p ∷ [] → left ≡ p.now ++ rest → left ≡ drop i all → rest ≡ drop k left → n ≡ i + k
    → flat_map (λ (q : Bor (List T)). q.now) ps ++ drop i all ≡ all → flat_map (λ (q : Bor (List T)). q.now) new ++ drop n all ≡ all
piece_moves ps new p left rest all i k n added split here back moved before =
    let behind : rest ≡ drop n all = back ∙ (ap (drop k) here ∙ (drop-drop k i all ∙ ap (λ (m : ℕ). drop m all) (sym moved))) in
    subst (λ l. flat_map (λ (q : Bor (List _)). q.now) new ++ l ≡ all) behind
    (piece_more ps new p left rest all added split (subst (λ l. flat_map (λ (q : Bor (List _)). q.now) ps ++ l ≡ all) (sym here) before))

all_apart : {T : Type 0} (P : T → Type 0) (xs ys : List T) → All P (xs ++ ys) → All P xs × All P ys
all_apart P [] ys h = (All-nil P, h)
all_apart P (x ∷ xs) ys h =
    let rest = all_apart P xs ys (λ k d lt. h (suc k) d (let below : suc k < length (x ∷ (xs ++ ys)) = omega (arith, lt) in below)) in
    (All-cons P x xs (h 0 x (omega arith)) rest.0, rest.1)

-- what holds of all holds in each piece
in_pieces : {T : Type 0} (P : T → Type 0) (ps : List (Bor (List T))) → All P (flat_map (λ (q : Bor (List T)). q.now) ps) → All (λ (q : Bor (List T)). All P q.now) ps
in_pieces P [] h = All-nil (λ (q : Bor (List _)). All P q.now)
in_pieces P (p ∷ ps) h =
    let both = all_apart P p.now (flat_map (λ (q : Bor (List _)). q.now) ps) h in
    All-cons (λ (q : Bor (List _)). All P q.now) p ps both.0 (in_pieces P ps both.1)

pub all_in_pieces : {T : Type 0} (P : T → Type 0) (ps : List (Bor (List T))) (all : List T) → flat_map (λ (q : Bor (List T)). q.now) ps ≡ all → All P all → All (λ (q : Bor (List T)). All P q.now) ps
all_in_pieces P ps all is h = in_pieces P ps (subst (All P) (sym is) h)

-- pieces that correspond are lists that do, one behind another
zip_pieces : {T V B : Type 0} (S : T → B → Type 0) (show : V → B) (ps : List (Bor (List T))) (vs : List (Vec V Global)) → AllZip (λ (p : Bor (List T)) (v : Vec V Global). AllZip S p.now (map show v.items)) ps vs
    → AllZip S (flat_map (λ (q : Bor (List T)). q.now) ps) (map show (flat_map (λ (v : Vec V Global). v.items) vs))
zip_pieces S show [] [] h = tt
zip_pieces S show [] (v ∷ vs) h = absurd h
zip_pieces S show (p ∷ ps) [] h = absurd h
zip_pieces S show (p ∷ ps) (v ∷ vs) h =
    let rest = flat_map (λ (q : Bor (List _)). q.now) ps in
    let more = flat_map (λ (w : Vec _ Global). w.items) vs in
    subst (λ l. AllZip S (p.now ++ rest) l) (sym (map-append show v.items more)) (zip_both S p.now rest (map show v.items) (map show more) h.0 (zip_pieces S show ps vs h.1))

pub joined_zip : {T V B : Type 0} (S : T → B → Type 0) (show : V → B) (ps : List (Bor (List T))) (vs : List (Vec V Global)) (all : List T) (files : List V) → flat_map (λ (q : Bor (List T)). q.now) ps ≡ all
    → files ≡ flat_map (λ (v : Vec V Global). v.items) vs → AllZip (λ (p : Bor (List T)) (v : Vec V Global). AllZip S p.now (map show v.items)) ps vs → AllZip S all (map show files)
joined_zip S show ps vs all files is are h =
    subst (λ l. AllZip S l (map show files)) is (subst (λ l. AllZip S (flat_map (λ (q : Bor (List _)). q.now) ps) (map show l)) (sym are) (zip_pieces S show ps vs h))

-- results that are collected into one

oks : {A B : Type 0} (S : A → B → Type 0) (xs : List A) (ys : List B) → AllZip (λ x (r : Result B AllocError). IfOk r (S x)) xs (map Ok ys) → AllZip S xs ys
oks S [] [] h = tt
oks S [] (y ∷ ys) h = absurd h
oks S (x ∷ xs) [] h = absurd h
oks S (x ∷ xs) (y ∷ ys) h = (h.0, oks S xs ys h.1)

pub collected_zip : {A B : Type 0} (S : A → B → Type 0) (xs : List A) (rs : List (Result B AllocError)) (r : Result (Vec B Global) AllocError) (Q : AllocError → Type 0) → AllZip (λ x (y : Result B AllocError). IfOk y (S x)) xs rs
    → MatchResult r (λ v. (ys : List B) × (rs ≡ map Ok ys) × (v.items ≡ ys)) Q → IfOk r (λ v. AllZip S xs v.items)
collected_zip S xs rs (Ok v) Q z h = subst (AllZip S xs) (sym h.2) (oks S xs h.0 (subst (AllZip (λ x y. IfOk y (S x)) xs) h.1 z))
collected_zip S xs rs (Err e) Q z h = tt
