-- A block's table, and the list of blocks.
use Rattle.std.proofs.Common.{◌≡◌, ℕ, ◌+◌, ◌-◌, ◌<◌, ◌≤◌, zero, suc, Bool, true, false, ◌⊎◌, inl, inr, ⊎_elim, ◌&&◌, not, List, [], ◌∷◌, ◌++◌, map, length, Option, Some, None, is_some, Vec, Result, Ok, Err, refl, sym, ap, ◌∙◌, arith, if◌then◌else◌, take, get_or, set}
use Rattle.std.specs.Prelude.{vec_len}
use Rattle.std.specs.Borrow.{Bor}
use Rattle.std.specs.Result.{is_err, OnOk, OnErr}
use Rattle.std.proofs.lemmas.List.{map-append, map_more, length-append, length-map, take_all, take-append-le}
use Rattle.std.specs.Option.{option_to_list}
use Rattle.std.proofs.lemmas.Bool.{true≢false}
use Rattle.go_collections_core.specs.name_table.Named.{Named}
use Rattle.go_scope_stack.specs.declared.DeclId.{DeclId}
use Rattle.go_scope_stack.specs.Blocks.{block_of, in_block, found_in, innermost, with_innermost, or_else, is_new, is_taken, block_with, block_after, named}
use Rattle.go_collections_core.specs.text_core.Text.{is_blank}

-- the innermost of blocks that end with one
pub innermost-push : (xs : List (List (List ℕ × DeclId))) (x : List (List ℕ × DeclId)) → innermost (xs ++ x ∷ []) ≡ x
innermost-push [] x = refl
innermost-push (y ∷ []) x = refl
innermost-push (y ∷ z ∷ zs) x = innermost-push (z ∷ zs) x

pub with_innermost-push : (xs : List (List (List ℕ × DeclId))) (x y : List (List ℕ × DeclId)) → with_innermost (xs ++ x ∷ []) y ≡ xs ++ y ∷ []
with_innermost-push [] x y = refl
with_innermost-push (z ∷ []) x y = refl
with_innermost-push (z ∷ w ∷ ws) x y = ap (λ l. z ∷ l) (with_innermost-push (w ∷ ws) x y)

-- the innermost block decides first
pub found_in-push : (xs : List (List (List ℕ × DeclId))) (x : List (List ℕ × DeclId)) (name : List ℕ) → found_in (xs ++ x ∷ []) name ≡ or_else (in_block x name) (found_in xs name)
found_in-push [] x name = by (in_block x name)
  where
    by : (o : Option DeclId) → or_else None o ≡ or_else o None
    by None = refl
    by (Some d) = refl
found_in-push (y ∷ ys) x name = ap (λ o. or_else o (in_block y name)) (found_in-push ys x name) ∙ by (in_block x name) (found_in ys name) (in_block y name)
  where
    by : (a b c : Option DeclId) → or_else (or_else a b) c ≡ or_else a (or_else b c)
    by None b c = refl
    by (Some d) b c = refl

module _ {T : Type 0} (f : T → List (List ℕ × DeclId)) where
  -- a write to the last place
  pub map-set_last : (ts : List T) (i : ℕ) (t : T) → i + 1 ≡ length ts → map f (set ts i t) ≡ with_innermost (map f ts) (f t)
  map-set_last [] i t e = absurd (omega arith)
  map-set_last (a ∷ []) zero t e = refl
  map-set_last (a ∷ []) (suc i) t e = absurd (omega arith)
  map-set_last (a ∷ b ∷ ts) zero t e = absurd (omega arith)
  map-set_last (a ∷ b ∷ ts) (suc i) t e =
      let e' : i + 1 ≡ length (b ∷ ts) = omega arith in
      ap (λ l. f a ∷ l) (map-set_last (b ∷ ts) i t e')

  -- what the last place has
  pub innermost-last : (ts : List T) (i : ℕ) (d : T) → i + 1 ≡ length ts → innermost (map f ts) ≡ f (get_or ts i d)
  innermost-last [] i d e = absurd (omega arith)
  innermost-last (a ∷ []) zero d e = refl
  innermost-last (a ∷ []) (suc i) d e = absurd (omega arith)
  innermost-last (a ∷ b ∷ ts) zero d e = absurd (omega arith)
  innermost-last (a ∷ b ∷ ts) (suc i) d e =
      let e' : i + 1 ≡ length (b ∷ ts) = omega arith in innermost-last (b ∷ ts) i d e'

  -- one place more
  pub found_in_more : (ts : List T) (i : ℕ) (d : T) (name : List ℕ) → i < length ts → found_in (map f (take (i + 1) ts)) name ≡ or_else (in_block (f (get_or ts i d)) name) (found_in (map f (take i ts)) name)
  found_in_more ts i d name h = ap (λ bs. found_in bs name) (map_more f ts i d h) ∙ found_in-push (map f (take i ts)) (f (get_or ts i d)) name

pub with_innermost-same : (xs : List (List (List ℕ × DeclId))) → with_innermost xs (innermost xs) ≡ xs
with_innermost-same [] = refl
with_innermost-same (x ∷ []) = refl
with_innermost-same (x ∷ y ∷ ys) = ap (λ l. x ∷ l) (with_innermost-same (y ∷ ys))

-- what is left by a pop
pub innermost-pop : (xs ys : List (List (List ℕ × DeclId))) (x : List (List ℕ × DeclId)) → xs ≡ ys ++ x ∷ [] → xs ≡ ys ++ innermost xs ∷ []
innermost-pop xs ys x e = e ∙ ap (λ b. ys ++ b ∷ []) (sym (ap innermost e ∙ innermost-push ys x))

-- one name more
pub block_after-push : (names : List (List ℕ × DeclId)) (n : List ℕ × DeclId) (block : List (List ℕ × DeclId)) → block_after block (names ++ n ∷ []) ≡ (if is_new (block_after block names) n.0 then block_after block names ++ n ∷ [] else block_after block names)
block_after-push [] n block = refl
block_after-push (m ∷ names) n block = block_after-push names n (if is_new block m.0 then block ++ m ∷ [] else block)

-- a declaration in the last table, at the blocks
pub declared_last : {T : Type 0} (f : T → List (List ℕ × DeclId)) (ts : List T) (old : List (List (List ℕ × DeclId))) (i : ℕ) (was new : T) (name : List ℕ) (id : DeclId) → map f ts ≡ old → i + 1 ≡ length ts → was ≡ get_or ts i was → is_blank name ≡ false → in_block (f was) name ≡ None → f new ≡ f was ++ (name, id) ∷ [] → (is_taken old name ≡ false) × (map f (set ts i new) ≡ with_innermost old (block_with (innermost old) name id))
declared_last f ts old i was new name id view n is_was plain absent e =
    let top : innermost old ≡ f was = sym (ap innermost view) ∙ (innermost-last f ts i was n ∙ sym (ap f is_was)) in (
      ap (λ b. not b && is_some (in_block (innermost old) name)) plain ∙ (ap (λ b. is_some (in_block b name)) top ∙ ap is_some absent),
      map-set_last f ts i new n ∙ (ap (λ o. with_innermost o (f new)) view ∙ ap (with_innermost old) (e ∙ (ap (λ b. b ++ (name, id) ∷ []) (sym top) ∙ sym (ap (λ b. if b then innermost old else innermost old ++ (name, id) ∷ []) plain)))),
    )

-- a last table that stays the same
pub same_last : {T : Type 0} (f : T → List (List ℕ × DeclId)) (ts : List T) (old : List (List (List ℕ × DeclId))) (i : ℕ) (was new : T) → map f ts ≡ old → i + 1 ≡ length ts → was ≡ get_or ts i was → f new ≡ f was → map f (set ts i new) ≡ old
same_last f ts old i was new view n is_was e =
    map-set_last f ts i new n ∙ (ap (with_innermost (map f ts)) (e ∙ (ap f is_was ∙ sym (innermost-last f ts i was n))) ∙ (with_innermost-same (map f ts) ∙ view))

-- what the last table has is what the innermost block has
pub top_is : {T : Type 0} (f : T → List (List ℕ × DeclId)) (ts : List T) (old : List (List (List ℕ × DeclId))) (i : ℕ) (was : T) → map f ts ≡ old → i + 1 ≡ length ts → was ≡ get_or ts i was → f was ≡ innermost old
top_is f ts old i was view n is_was = ap f is_was ∙ (sym (innermost-last f ts i was n) ∙ ap innermost view)

-- what a pop leaves
pub left_by_pop : {T : Type 0} (f : T → List (List ℕ × DeclId)) (ts us : List T) (old : List (List (List ℕ × DeclId))) (o : Option T) → is_some o ≡ true → map f ts ≡ old → ts ≡ us ++ option_to_list o → old ≡ map f us ++ innermost old ∷ []
left_by_pop f ts us old None s view e = absurd (true≢false (sym s))
left_by_pop f ts us old (Some t) s view e = innermost-pop old (map f us) (f t) (sym view ∙ (ap (map f) e ∙ map-append f us (t ∷ [])))

-- a short declaration only adds
pub take-block_after : (names block : List (List ℕ × DeclId)) (n : ℕ) → n ≤ length block → take n (block_after block names) ≡ take n block
take-block_after [] block n h = refl
take-block_after (m ∷ names) block n h =
    by (is_new block m.0) (λ b l. take-block_after names b n l)
  where
    by : (b : Bool) → ((block' : List (List ℕ × DeclId)) → n ≤ length block' → take n (block_after block' names) ≡ take n block') → take n (block_after (if b then block ++ m ∷ [] else block) names) ≡ take n block
    by true rest = rest (block ++ m ∷ []) (omega (arith, length-append block (m ∷ []))) ∙ take-append-le n block (m ∷ []) h
    by false rest = rest block h

pub taken_err : (b : List (List ℕ × DeclId)) (old : List (List (List ℕ × DeclId))) (name : List ℕ) {P Q : Type 0} → b ≡ innermost old → is_blank name ≡ false → (P × (is_some (in_block b name) ≡ false)) ⊎ (Q × (is_some (in_block b name) ≡ true)) → (P × (is_taken old name ≡ false)) ⊎ (Q × (is_taken old name ≡ true))
taken_err b old name top plain =
    let same : is_taken old name ≡ is_some (in_block b name) = ap (λ t. not t && is_some (in_block (innermost old) name)) plain ∙ ap (λ x. is_some (in_block x name)) (sym top) in
    ⊎_elim (λ p. inl (p.0, same ∙ p.1)) (λ q. inr (q.0, same ∙ q.1))

pub on_ok_at : {T E P : Type 0} (r : Result T E) → is_err r ≡ false → OnOk r P → P
on_ok_at (Ok x) h p = p
on_ok_at (Err e) h p = absurd (true≢false h)

pub on_err_at : {T E P : Type 0} (r : Result T E) → is_err r ≡ true → OnErr r P → P
on_err_at (Ok x) h p = absurd (true≢false (sym h))
on_err_at (Err e) h p = p

module _ (names : List (Bor (List ℕ) × DeclId)) (start now new : List (List ℕ × DeclId)) (i : ℕ) (d : Bor (List ℕ) × DeclId) (h : i < length names) where
  pub named_more : named (take (i + 1) names) ≡ named (take i names) ++ ((get_or names i d).0.now, (get_or names i d).1) ∷ []
  named_more = map_more (λ n. (n.0.now, n.1)) names i d h

  pub block_step : now ≡ block_after start (named (take i names)) → new ≡ (if is_new now (get_or names i d).0.now then now ++ ((get_or names i d).0.now, (get_or names i d).1) ∷ [] else now) → new ≡ block_after start (named (take (i + 1) names))
  block_step inv e =
      let n : List ℕ × DeclId = ((get_or names i d).0.now, (get_or names i d).1) in
      e ∙ (ap (λ b. if is_new b (get_or names i d).0.now then b ++ n ∷ [] else b) inv
      ∙ (sym (block_after-push (named (take i names)) n start) ∙ sym (ap (block_after start) named_more)))

-- what truncate leaves
pub undone : (was now cut : Named DeclId) (names : List (List ℕ × DeclId)) (n : ℕ) → n ≡ length was.names → block_of now ≡ block_after (block_of was) names → cut.names ≡ take n now.names → block_of cut ≡ block_of was
undone was now cut names n e inv c =
    c
    ∙ (ap (take n) inv
    ∙ (take-block_after names (block_of was) n (omega (arith, e))
    ∙ take_all n (block_of was) (omega (arith, e))))

-- numbers of blocks

pub some_blocks : {A B : Type 0} (f : A → B) (xs : List A) (env : List B) → map f xs ≡ env → 0 < length env → 0 < length xs
some_blocks f xs env view some = omega (arith, ap length view, length-map xs f)

pub last_place : {A B : Type 0} (f : A → B) (xs : List A) (env : List B) (n : ℕ) → n ≡ length xs → map f xs ≡ env → 0 < length env → n - 1 + 1 ≡ length xs
last_place f xs env n is view some = let any = some_blocks f xs env view some in omega arith

pub one_less : (n : ℕ) → 0 < n → n ≡ n - 1 + 1
one_less n some = omega arith

pub less_within : (n all : ℕ) → 0 < n → n ≤ all → n - 1 < all
less_within n all some within = omega arith

pub less_at_most : (n all : ℕ) → n ≤ all → n - 1 ≤ all
less_at_most n all within = omega arith

-- the number of elements, as a list and as a vector has it
pub len_as_list : {T A : Type 0} (v : Vec T A) (n : ℕ) → n ≡ vec_len v → n ≡ length v.items
len_as_list v n is = omega (arith, v.ok.0)

pub some_len : {T A : Type 0} (v : Vec T A) → 0 < length v.items → 0 < vec_len v
some_len v some = omega (arith, v.ok.0)
