-- Tables that have things by their names: the places of names in a list.
use Rattle.std.proofs.Common.{◌≡◌, ℕ, suc, ◌+◌, ◌<◌, Bool, true, false, List, [], ◌∷◌, ◌++◌, length, get_or, Option, Some, None, cond, refl, sym, ap, ◌∙◌, arith}
use Rattle.std.specs.Str.{bytes_eq}
use Rattle.std.specs.List.{position_from}
use Rattle.std.specs.Map.{keys_of}
use Rattle.std.proofs.lemmas.List.{length-map, map-append}
use Rattle.std.proofs.lemmas.Slice.Eq.{bytes_eq-Decides}
use Rattle.go_block_core.specs.scope_stack.Blocks.{or_else}
use Rattle.go_block_core.specs.Tables.{in_block}
use Rattle.go_declared_core.specs.mirrors.Tables.{place_of, ArePlaced}

same_text : (a b : List ℕ) → bytes_eq a b ≡ true → a ≡ b
same_text a b h = (bytes_eq-Decides a b).0 h

-- a name that is there, by its place

pub record Found {X : Type 0} (es : List (List ℕ × X)) (name : List ℕ) (k n : ℕ) (d : List ℕ × X) : Type 0 where
  pub place : ℕ
  pub is : n ≡ k + place
  pub within : place < length es
  pub has : in_block es name ≡ Some (get_or es place d).1
  pub key : (e : List ℕ) → get_or (keys_of es) place e ≡ name

pub found : {X : Type 0} (es : List (List ℕ × X)) (name : List ℕ) (k n : ℕ) (d : List ℕ × X) → position_from (bytes_eq name) k (keys_of es) ≡ Some n → Found es name k n d
found [] name k n d h = cc
found {X} (e ∷ es) name k n d h = by (bytes_eq name e.0) refl h (found es name (k + 1) n d)
  where
    by : (b : Bool) → bytes_eq name e.0 ≡ b → cond b (Some k) (position_from (bytes_eq name) (k + 1) (keys_of es)) ≡ Some n → (position_from (bytes_eq name) (k + 1) (keys_of es) ≡ Some n → Found es name (k + 1) n d) → Found (e ∷ es) name k n d
    by true t h rest = record {
      place = 0;
      is = (let same : k ≡ n = (let s : Some k ≡ Some n = h in cc) in omega (arith, same));
      within = omega arith;
      has = ap (λ b. cond b (Some e.1) (in_block es name)) t;
      key = λ f. sym (same_text name e.0 t);
    }
    by false t h rest = (let behind = rest h in record {
      place = suc behind.place;
      is = omega (arith, behind.is);
      within = omega (arith, behind.within);
      has = ap (λ b. cond b (Some e.1) (in_block es name)) t ∙ behind.has;
      key = behind.key;
    })

pub missing : {X : Type 0} (es : List (List ℕ × X)) (name : List ℕ) (k : ℕ) → position_from (bytes_eq name) k (keys_of es) ≡ None → in_block es name ≡ None
missing [] name k h = refl
missing (e ∷ es) name k h = by (bytes_eq name e.0) refl h (missing es name (k + 1))
  where
    by : (b : Bool) → bytes_eq name e.0 ≡ b → cond b (Some k) (position_from (bytes_eq name) (k + 1) (keys_of es)) ≡ None → (position_from (bytes_eq name) (k + 1) (keys_of es) ≡ None → in_block es name ≡ None) → in_block (e ∷ es) name ≡ None
    by true t h rest = cc
    by false t h rest = ap (λ b. cond b (Some e.1) (in_block es name)) t ∙ rest h

pub place_within : {X : Type 0} (es : List (List ℕ × X)) (name : List ℕ) (n : ℕ) (d : List ℕ × X) → place_of es name ≡ Some n → n < length es
place_within es name n d h = let f = found es name 0 n d h in omega (arith, f.is, f.within)

-- a name more goes last

pub in_both : {X : Type 0} (xs ys : List (List ℕ × X)) (name : List ℕ) → in_block (xs ++ ys) name ≡ or_else (in_block xs name) (in_block ys name)
in_both [] ys name = refl
in_both {X} (x ∷ xs) ys name = by (bytes_eq name x.0) (in_both xs ys name)
  where
    by : (b : Bool) → in_block (xs ++ ys) name ≡ or_else (in_block xs name) (in_block ys name) → cond b (Some x.1) (in_block (xs ++ ys) name) ≡ or_else (cond b (Some x.1) (in_block xs name)) (in_block ys name)
    by true rest = refl
    by false rest = rest

last_place : (ks : List (List ℕ)) (name q : List ℕ) (k : ℕ) → position_from (bytes_eq q) k (ks ++ name ∷ []) ≡ or_else (position_from (bytes_eq q) k ks) (cond (bytes_eq q name) (Some (k + length ks)) None)
last_place [] name q k =
    let none : k ≡ k + 0 = omega arith in
    ap (λ (n : ℕ). cond (bytes_eq q name) (Some n) None) none
last_place (x ∷ ks) name q k = by (bytes_eq q x) (last_place ks name q (k + 1))
  where
    by : (b : Bool) → position_from (bytes_eq q) (k + 1) (ks ++ name ∷ []) ≡ or_else (position_from (bytes_eq q) (k + 1) ks) (cond (bytes_eq q name) (Some (k + 1 + length ks)) None)
        → cond b (Some k) (position_from (bytes_eq q) (k + 1) (ks ++ name ∷ [])) ≡ or_else (cond b (Some k) (position_from (bytes_eq q) (k + 1) ks)) (cond (bytes_eq q name) (Some (k + suc (length ks))) None)
    by true rest = refl
    by false rest =
        let one : k + 1 + length ks ≡ k + suc (length ks) = omega arith in
        rest ∙ ap (λ (n : ℕ). or_else (position_from (bytes_eq q) (k + 1) ks) (cond (bytes_eq q name) (Some n) None)) one

pub placed_last : {X : Type 0} (old new : List (List ℕ × ℕ)) (es : List (List ℕ × X)) (name : List ℕ) (n : ℕ) (x : List ℕ × X) → ArePlaced old es → name ≡ x.0 → n ≡ length es → new ≡ old ++ (name, n) ∷ [] → ArePlaced new (es ++ x ∷ [])
placed_last {X} old new es name n x before is count more q =
    let size = length-map es (λ (e : List ℕ × X). e.0) in
    let first : n ≡ 0 + length (keys_of es) = omega (arith, count, size) in
    ap (λ (l : List (List ℕ × ℕ)). in_block l q) more
    ∙ (in_both old ((name, n) ∷ []) q
    ∙ (ap (λ (o : Option ℕ). or_else o (cond (bytes_eq q name) (Some n) None)) (before q)
    ∙ (ap (λ (k : List ℕ). or_else (place_of es q) (cond (bytes_eq q k) (Some n) None)) is
    ∙ (ap (λ (m : ℕ). or_else (place_of es q) (cond (bytes_eq q x.0) (Some m) None)) first
    ∙ (sym (last_place (keys_of es) x.0 q 0) ∙ ap (position_from (bytes_eq q) 0) (sym (map-append (λ (e : List ℕ × X). e.0) es (x ∷ []))))))))
