-- The names of blocks, each once.
use Rattle.std.proofs.Common.{◌≡◌, ℕ, ◌+◌, ◌<◌, ◌≤◌, Bool, true, false, ◌||◌, List, [], ◌∷◌, ◌++◌, map, length, take, drop, get_or, Option, Some, None, cond, if◌then◌else◌, refl, sym, ap, ◌∙◌, subst, arith}
use Rattle.std.specs.Prelude.{Contains, AllPairs, IsSome, is_some}
use Rattle.std.specs.Str.{bytes_eq}
use Rattle.std.specs.Cmp.{IsEquivalence}
use Rattle.std.specs.List.{list_any}
use Rattle.std.specs.Borrow.{Bor}
use Rattle.std.specs.BTreeSet.{BTreeSet, Updates}
use Rattle.std.specs.Cmp.Lexicographic.{slice_cmp}
use Rattle.std.specs.Ordering.{is_eq, nat_cmp}
use Rattle.std.proofs.lemmas.Bool.{true≢false}
use Rattle.std.proofs.lemmas.List.{drop_more, drop_all, length-map, take-map, take_all, take-append-le, get_or_default}
use Rattle.std.proofs.lemmas.List.Quantifiers.{all_pairs_push}
use Rattle.std.proofs.lemmas.Map.Text.{is_eq-slice_cmp}
use Rattle.std.proofs.lemmas.Map.Views.{list_any-from_Contains, Contains-from_any}
use Rattle.std.proofs.lemmas.Slice.Eq.{bytes_eq-Decides}
use Rattle.go_scope_stack.specs.Blocks.{found_in, in_block, or_else, names_in, all_names, is_listed, list_name, list_names}

-- names behind references, in the order of their bytes
pub any_shown : (name : List ℕ) (xs : List (Bor (List ℕ))) → list_any (λ x. is_eq (slice_cmp nat_cmp name x.now)) xs ≡ is_listed (map (λ x. x.now) xs) name
any_shown name [] = refl
any_shown name (x ∷ xs) = ap (λ b. b || list_any (λ y. is_eq (slice_cmp nat_cmp name y.now)) xs) (is_eq-slice_cmp name x.now) ∙ ap (λ b. bytes_eq name x.now || b) (any_shown name xs)

pub list_names-append : (s xs ys : List (List ℕ)) → list_names s (xs ++ ys) ≡ list_names (list_names s xs) ys
list_names-append s [] ys = refl
list_names-append s (x ∷ xs) ys = list_names-append (list_name s x) xs ys

-- one name more
pub name_step : (xs : List (Bor (List ℕ))) (i : ℕ) (x : Bor (List ℕ)) (s s' all : List (List ℕ)) → i < length xs → s' ≡ list_name s (get_or xs i x).now → list_names s (map (λ n. n.now) (drop i xs)) ≡ all → list_names s' (map (λ n. n.now) (drop (i + 1) xs)) ≡ all
name_step xs i x s s' all h now left =
    ap (λ l. list_names l (map (λ n. n.now) (drop (i + 1) xs))) now
    ∙ (ap (λ l. list_names s (map (λ n. n.now) l)) (sym (drop_more xs i x h)) ∙ left)

-- one block more
pub names_step : {T X : Type 0} (f : T → List (List ℕ × X)) (ts : List T) (i : ℕ) (t : T) (s s' all : List (List ℕ)) → i < length ts → t ≡ get_or ts i t → s' ≡ list_names s (names_in (f t)) → list_names s (all_names (map f (drop i ts))) ≡ all → list_names s' (all_names (map f (drop (i + 1) ts))) ≡ all
names_step f ts i t s s' all h is now left =
    ap (λ l. list_names l (all_names (map f (drop (i + 1) ts)))) now
    ∙ (sym (list_names-append s (names_in (f t)) (all_names (map f (drop (i + 1) ts))))
    ∙ (ap (λ l. list_names s (all_names (map f l))) (ap (λ y. y ∷ drop (i + 1) ts) is ∙ sym (drop_more ts i t h)) ∙ left))

-- the end of the loop
pub names_end : {T X : Type 0} (f : T → List (List ℕ × X)) (ts : List T) (i : ℕ) (s all : List (List ℕ)) → length ts ≤ i → list_names s (all_names (map f (drop i ts))) ≡ all → s ≡ all
names_end f ts i s all h left = ap (λ l. list_names s (all_names (map f l))) (sym (drop_all i ts h)) ∙ left

pub or-none : (b : Bool) → b ≡ b || false
or-none true = refl
or-none false = refl

or-assoc : (a b c : Bool) → (a || b) || c ≡ a || (b || c)
or-assoc true b c = refl
or-assoc false b c = refl

pub or-swap : (a b : Bool) → a || b ≡ b || a
or-swap true true = refl
or-swap true false = refl
or-swap false true = refl
or-swap false false = refl

pub listed-append : (xs ys : List (List ℕ)) (name : List ℕ) → is_listed (xs ++ ys) name ≡ is_listed xs name || is_listed ys name
listed-append [] ys name = refl
listed-append (x ∷ xs) ys name = ap (λ b. bytes_eq name x || b) (listed-append xs ys name) ∙ sym (or-assoc (bytes_eq name x) (is_listed xs name) (is_listed ys name))

pub same_bytes : (x y : List ℕ) → bytes_eq x y ≡ true → x ≡ y
same_bytes x y h = (bytes_eq-Decides x y).0 h

pub bytes_equiv : IsEquivalence bytes_eq
bytes_equiv = record {
  refl = λ x. (bytes_eq-Decides x x).1 refl;
  symm = λ x y. grind (arith, bytes_eq-Decides x y, bytes_eq-Decides y x);
  congr = λ x y z h. ap (λ w. bytes_eq w z) (same_bytes x y h);
}

-- a set of them with one more
pub put_listed : (old new : BTreeSet (Bor (List ℕ))) (x : Bor (List ℕ)) → Updates (λ y z. slice_cmp nat_cmp y.now z.now) old new x true → (n : List ℕ) → is_listed (map (λ k. k.now) new.keys) n ≡ is_listed (map (λ k. k.now) old.keys ++ x.now ∷ []) n
put_listed old new x put n =
    sym (any_shown n new.keys)
    ∙ (put.0 (record { ref_ptr = (0, 0); now = n })
    ∙ (ap (λ b. cond b true (list_any (λ y. is_eq (slice_cmp nat_cmp n y.now)) old.keys)) (is_eq-slice_cmp x.now n)
    ∙ (by (bytes_eq x.now n) (list_any (λ y. is_eq (slice_cmp nat_cmp n y.now)) old.keys)
    ∙ (ap (λ b. list_any (λ y. is_eq (slice_cmp nat_cmp n y.now)) old.keys || b) (bytes_equiv.symm x.now n)
    ∙ (ap (λ b. b || bytes_eq n x.now) (any_shown n old.keys)
    ∙ (ap (λ b. is_listed (map (λ k. k.now) old.keys) n || b) (or-none (bytes_eq n x.now)) ∙ sym (listed-append (map (λ k. k.now) old.keys) (x.now ∷ []) n)))))))
  where
    by : (a b : Bool) → cond a true b ≡ b || a
    by true true = refl
    by true false = refl
    by false true = refl
    by false false = refl

-- a name that is added again changes nothing
listed-name : (s : List (List ℕ)) (m name : List ℕ) → is_listed (list_name s m) name ≡ is_listed s name || bytes_eq name m
listed-name s m name = by (is_listed s m) refl
  where
    again : (b : Bool) → bytes_eq name m ≡ b → is_listed s m ≡ true → is_listed s name ≡ is_listed s name || b
    again true e there = let n = ap (is_listed s) (same_bytes name m e) ∙ there in n ∙ sym (ap (λ b. b || true) n)
    again false e there = or-none (is_listed s name)

    by : (b : Bool) → is_listed s m ≡ b → is_listed (if b then s else s ++ m ∷ []) name ≡ is_listed s name || bytes_eq name m
    by true there = again (bytes_eq name m) refl there
    by false there = listed-append s (m ∷ []) name ∙ ap (λ b. is_listed s name || b) (sym (or-none (bytes_eq name m)))

pub listed-names : (s ns : List (List ℕ)) (name : List ℕ) → is_listed (list_names s ns) name ≡ is_listed s name || is_listed ns name
listed-names s [] name = or-none (is_listed s name)
listed-names s (n ∷ ns) name =
    listed-names (list_name s n) ns name
    ∙ (ap (λ b. b || is_listed ns name) (listed-name s n name) ∙ or-assoc (is_listed s name) (bytes_eq name n) (is_listed ns name))

pub listed-block : {X : Type 0} (block : List (List ℕ × X)) (name : List ℕ) → is_listed (names_in block) name ≡ is_some (in_block block name)
listed-block [] name = refl
listed-block (e ∷ es) name = by (bytes_eq name e.0) (listed-block es name)
  where
    by : (b : Bool) → is_listed (names_in es) name ≡ is_some (in_block es name) → b || is_listed (names_in es) name ≡ is_some (cond b (Some e.1) (in_block es name))
    by true h = refl
    by false h = h

listed-found : {X : Type 0} (blocks : List (List (List ℕ × X))) (name : List ℕ) → is_listed (all_names blocks) name ≡ is_some (found_in blocks name)
listed-found [] name = refl
listed-found {X} (block ∷ blocks) name =
    listed-append (names_in block) (all_names blocks) name
    ∙ (ap (λ b. b || is_listed (all_names blocks) name) (listed-block block name)
    ∙ (ap (λ b. is_some (in_block block name) || b) (listed-found blocks name)
    ∙ by (found_in blocks name) (in_block block name)))
  where
    by : (a b : Option X) → is_some b || is_some a ≡ is_some (or_else a b)
    by None None = refl
    by None (Some x) = refl
    by (Some x) None = refl
    by (Some x) (Some y) = refl

-- the names that are listed are those that are found
pub names_found : {X : Type 0} (blocks : List (List (List ℕ × X))) (listed : List (List ℕ)) (name : List ℕ) → listed ≡ list_names [] (all_names blocks) → (Contains listed name → IsSome (found_in blocks name)) × (IsSome (found_in blocks name) → Contains listed name)
names_found blocks listed name e =
    let same : is_listed listed name ≡ is_some (found_in blocks name) = ap (λ l. is_listed l name) e ∙ (listed-names [] (all_names blocks) name ∙ listed-found blocks name) in
    (λ there. sym same ∙ list_any-from_Contains bytes_equiv name listed there, λ found. Contains-from_any same_bytes name listed (same ∙ found))

-- no name is listed twice
abbrev Apart : List (List ℕ) → Type 0
Apart names = AllPairs (λ a b. ¬ (a ≡ b)) names

apart-name : (s : List (List ℕ)) (name : List ℕ) → Apart s → Apart (list_name s name)
apart-name s name h = by (is_listed s name) refl
  where
    by : (b : Bool) → is_listed s name ≡ b → Apart (if b then s else s ++ name ∷ [])
    by true there = h
    by false there = all_pairs_push (λ a b. ¬ (a ≡ b)) s name h (λ k d in_s same. true≢false (sym (list_any-from_Contains bytes_equiv name s (k, in_s, get_or_default s k name d in_s ∙ same)) ∙ there))

apart-names : (s ns : List (List ℕ)) → Apart s → Apart (list_names s ns)
apart-names s [] h = h
apart-names s (n ∷ ns) h = apart-names (list_name s n) ns (apart-name s n h)

pub names_once : (ns listed : List (List ℕ)) → listed ≡ list_names [] ns → Apart listed
names_once ns listed e = let P : List (List ℕ) → Type 0 = Apart in subst P (sym e) (apart-names [] ns (λ i j d lt in_nil same. absurd (omega arith)))

-- names that are found by their order

abbrev pub KnowsNames : List (Bor (List ℕ)) → List (Bor (List ℕ)) → Type 0
KnowsNames known names = (name : List ℕ) → is_listed (map (λ k. k.now) known) name ≡ is_listed (map (λ k. k.now) names) name

pub known_still : (known known' names names' : List (Bor (List ℕ))) → KnowsNames known names → map (λ k. k.now) names' ≡ map (λ k. k.now) names → known' ≡ known → KnowsNames known' names'
known_still known known' names names' before same kept n =
    ap (λ l. is_listed (map (λ k. k.now) l) n) kept ∙ (before n ∙ ap (λ l. is_listed l n) (sym same))

-- what truncate leaves of a name more
pub taken_back : (names more cut : List (Bor (List ℕ))) (name : List ℕ) (n : ℕ) → n ≡ length names → map (λ k. k.now) more ≡ map (λ k. k.now) names ++ name ∷ [] → cut ≡ take n more → map (λ k. k.now) cut ≡ map (λ k. k.now) names
taken_back names more cut name n count added is =
    let size = length-map names (λ (k : Bor (List ℕ)). k.now) in
    ap (map (λ k. k.now)) is
    ∙ (sym (take-map (λ k. k.now) n more)
    ∙ (ap (take n) added
    ∙ (take-append-le n (map (λ k. k.now) names) (name ∷ []) (omega (arith, count, size))
    ∙ take_all n (map (λ k. k.now) names) (omega (arith, count, size)))))

-- no name
pub no_names : (xs : List (Bor (List ℕ))) → length xs ≡ 0 → map (λ k. k.now) xs ≡ []
no_names [] h = refl
no_names (x ∷ xs) h = absurd (omega (arith, h))

pub none_there : (xs : List (Bor (List ℕ))) → map (λ k. k.now) xs ≡ [] → length xs ≡ 0
none_there xs h = sym (length-map xs (λ (k : Bor (List ℕ)). k.now)) ∙ ap length h
