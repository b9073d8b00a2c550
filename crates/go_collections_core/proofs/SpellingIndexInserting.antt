-- A map of names with one name more, and the loop over a list of names.
use Rattle.std.proofs.Common.{◌≡◌, ℕ, ◌+◌, ◌<◌, ◌≤◌, Bool, true, false, List, [], ◌∷◌, length, map, drop, get_or, Option, Some, None, refl, sym, ap, ◌∙◌, cond}
use Rattle.std.specs.Prelude.{string_bytes}
use Rattle.std.specs.Borrow.{Bor}
use Rattle.std.specs.Str.{bytes_eq}
use Rattle.std.specs.String.{string_cmp}
use Rattle.std.specs.BTreeMap.{BTreeMap, Updates}
use Rattle.std.specs.Map.{lookup}
use Rattle.std.specs.declared.string.String.{String}
use Rattle.std.proofs.lemmas.Slice.Eq.{bytes_eq-Decides}
use Rattle.std.proofs.lemmas.Cmp.{nat_list_eq_equiv}
use Rattle.std.proofs.lemmas.List.{drop_more, drop_all}
use Rattle.std.proofs.lemmas.Map.Text.{btree_map_updates_text, is_eq-slice_cmp}
use Rattle.std.specs.BTreeMap.{is_at}
use Rattle.std.specs.Cmp.Lexicographic.{slice_cmp}
use Rattle.std.specs.Ordering.{nat_cmp}
use Rattle.go_collections_core.specs.declared.spelling_index.spellings.Spelling.{Spelling}
use Rattle.go_collections_core.specs.spelling_index.Spelled.{spelling, joined, spelled_if, spelled_from, spelled, spelled_in, AreSpelled}

same_bytes : (x y : List ℕ) → bytes_eq x y ≡ true → x ≡ y
same_bytes x y h = (bytes_eq-Decides x y).0 h

bytes_turned : (x y : List ℕ) → bytes_eq x y ≡ bytes_eq y x
bytes_turned x y = nat_list_eq_equiv.symm x y

-- what a map has at a name
pub in_names : {Y : Type 0} (name : List ℕ) (es : List (String Y × Spelling)) → lookup (is_at (λ k. slice_cmp nat_cmp name (string_bytes k))) es ≡ spelled_in (map (λ e. (string_bytes e.0, e.1)) es) name
in_names name [] = refl
in_names name (e ∷ es) = ap (λ b. cond b (Some e.1) (lookup (is_at (λ k. slice_cmp nat_cmp name (string_bytes k))) es)) (is_eq-slice_cmp name (string_bytes e.0)) ∙ ap (λ o. cond (bytes_eq name (string_bytes e.0)) (Some e.1) o) (in_names name es)

joined_none : (o : Option Spelling) → o ≡ joined o None
joined_none None = refl
joined_none (Some s) = refl

joined_assoc : (a b c : Option Spelling) → joined (joined a b) c ≡ joined a (joined b c)
joined_assoc None b c = refl
joined_assoc (Some a) None c = refl
joined_assoc (Some a) (Some b) None = refl
joined_assoc (Some a) (Some b) (Some c) = refl

-- a map with a name more
pub name_noted : {Y : Type 0} (old new : BTreeMap (String Y) Spelling) (key : String Y) (name : List ℕ) (at : ℕ) (v : Spelling) → string_bytes key ≡ name
    → Some v ≡ joined (spelled_in (map (λ e. (string_bytes e.0, e.1)) old.entries) name) (Some (spelling at false)) → Updates string_cmp old new key (Some v)
    → (n : List ℕ) → spelled_in (map (λ e. (string_bytes e.0, e.1)) new.entries) n ≡ joined (spelled_in (map (λ e. (string_bytes e.0, e.1)) old.entries) n) (spelled_if at (bytes_eq n name))
name_noted old new key name at v is now put n =
    sym (in_names n new.entries)
    ∙ (btree_map_updates_text (string_bytes key) old new (Some v) put n
    ∙ (ap (cond (bytes_eq (string_bytes key) n) (Some v)) (in_names n old.entries)
    ∙ (ap (λ m. cond (bytes_eq m n) (Some v) (before n)) is ∙ by (bytes_eq name n) refl (bytes_turned name n))))
  where
    before : List ℕ → Option Spelling
    before m = spelled_in (map (λ e. (string_bytes e.0, e.1)) old.entries) m

    by : (b : Bool) → bytes_eq name n ≡ b → bytes_eq name n ≡ bytes_eq n name → cond b (Some v) (before n) ≡ joined (before n) (spelled_if at (bytes_eq n name))
    by true h t =
        now ∙ (ap (λ m. joined (before m) (Some (spelling at false))) (same_bytes name n h) ∙ ap (λ c. joined (before n) (spelled_if at c)) (sym h ∙ t))
    by false h t = joined_none (before n) ∙ ap (λ c. joined (before n) (spelled_if at c)) (sym h ∙ t)

-- the loop over names: one more, and the end
pub name_turn : (xs : List (Bor (List ℕ))) (i : ℕ) (d : Bor (List ℕ)) (old new : List (List ℕ × Spelling)) → i < length xs
    → ((n : List ℕ) → joined (spelled_in old n) (spelled_from i (map (λ m. m.now) (drop i xs)) n) ≡ spelled (map (λ m. m.now) xs) n)
    → ((n : List ℕ) → spelled_in new n ≡ joined (spelled_in old n) (spelled_if i (bytes_eq n (get_or xs i d).now)))
    → (n : List ℕ) → joined (spelled_in new n) (spelled_from (i + 1) (map (λ m. m.now) (drop (i + 1) xs)) n) ≡ spelled (map (λ m. m.now) xs) n
name_turn xs i d old new lt before adds n =
    let rest = spelled_from (i + 1) (map (λ m. m.now) (drop (i + 1) xs)) n in
    let one = spelled_if i (bytes_eq n (get_or xs i d).now) in
    ap (λ o. joined o rest) (adds n)
    ∙ (joined_assoc (spelled_in old n) one rest
    ∙ (ap (λ (l : List (Bor (List ℕ))). joined (spelled_in old n) (spelled_from i (map (λ m. m.now) l) n)) (sym (drop_more xs i d lt)) ∙ before n))

pub names_end : (xs : List (Bor (List ℕ))) (i : ℕ) (ps : List (List ℕ × Spelling)) → length xs ≤ i
    → ((n : List ℕ) → joined (spelled_in ps n) (spelled_from i (map (λ m. m.now) (drop i xs)) n) ≡ spelled (map (λ m. m.now) xs) n)
    → AreSpelled ps (map (λ m. m.now) xs)
names_end xs i ps past before n =
    joined_none (spelled_in ps n)
    ∙ (ap (λ (l : List (Bor (List ℕ))). joined (spelled_in ps n) (spelled_from i (map (λ m. m.now) l) n)) (sym (drop_all i xs past)) ∙ before n)
