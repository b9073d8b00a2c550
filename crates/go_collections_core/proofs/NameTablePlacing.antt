-- Where names stand in a table of names.
use Rattle.std.proofs.Common.{◌≡◌, ℕ, zero, suc, ◌+◌, ◌≤◌, Bool, true, false, List, [], ◌∷◌, ◌++◌, ◌<◌, ◌⊎◌, inl, inr, length, take, Option, Some, None, refl, sym, ap, ◌∙◌, subst, arith, cond, if◌then◌else◌}
use Rattle.std.specs.Prelude.{slice_get, string_bytes}
use Rattle.std.specs.BTreeMap.{BTreeMap, Updates, IsUnchanged, get_by_text, is_at}
use Rattle.std.specs.List.{position_from}
use Rattle.std.specs.Map.{lookup}
use Rattle.std.specs.Str.{bytes_eq}
use Rattle.std.specs.String.{string_cmp}
use Rattle.std.specs.declared.string.String.{String}
use Rattle.std.proofs.lemmas.Cmp.{nat_list_eq_equiv}
use Rattle.std.proofs.lemmas.Map.Text.{btree_map_updates_text}
use Rattle.std.proofs.lemmas.Slice.Eq.{bytes_eq-Decides}
use Rattle.go_collections_core.specs.name_table.Named.{value_at, place_of, AreOnce}
use Rattle.go_collections_core.specs.name_table.Placed.{if_named, behind, behind_at, start_of, IsNear, IsNoted, ArePlaced, Noted}
use Rattle.std.specs.Prelude.{slice_set}
use Rattle.std.proofs.lemmas.List.{length-set}
use Rattle.std.specs.Cmp.Lexicographic.{slice_cmp}
use Rattle.std.specs.Ordering.{nat_cmp}

same_bytes : (x y : List ℕ) → bytes_eq x y ≡ true → x ≡ y
same_bytes x y h = (bytes_eq-Decides x y).0 h

pub bytes_turned : (x y : List ℕ) → bytes_eq x y ≡ bytes_eq y x
bytes_turned x y = nat_list_eq_equiv.symm x y

-- where a name stands first, counted from a number on
abbrev place_from : {V : Type 0} → ℕ → List (List ℕ × V) → List ℕ → Option ℕ
place_from n ns q = position_from (λ e. bytes_eq q e.0) n ns

module _ {V : Type 0} where
  -- what stands at the place of a name
  abbrev Has : List (List ℕ × V) → List ℕ → ℕ → Type 0
  Has ns q j = if_named (slice_get ns j) q ≡ value_at ns q

  later : (n i : ℕ) (q : List ℕ) (e : List ℕ × V) (ns : List (List ℕ × V)) → bytes_eq q e.0 ≡ false → n + 1 ≤ i → ((j : ℕ) → j + (n + 1) ≡ i → Has ns q j) → (j : ℕ) → j + n ≡ i → Has (e ∷ ns) q j
  later n i q e ns other low rest zero sum = absurd (omega (arith, low, sum))
  later n i q e ns other low rest (suc j) sum =
      let sum' : j + (n + 1) ≡ i = omega (arith, sum) in
      rest j sum' ∙ sym (ap (λ b. cond b (Some e.1) (value_at ns q)) other)

  first : (q : List ℕ) (e : List ℕ × V) (ns : List (List ℕ × V)) → bytes_eq q e.0 ≡ true → Has (e ∷ ns) q 0
  first q e ns same = ap (λ b. if b then Some e.1 else None) same ∙ sym (ap (λ b. cond b (Some e.1) (value_at ns q)) same)

  placed_has : (n : ℕ) (ns : List (List ℕ × V)) (q : List ℕ) (i : ℕ) → place_from n ns q ≡ Some i → (n ≤ i) × ((j : ℕ) → j + n ≡ i → Has ns q j)
  placed_has n [] q i h = absurd (let no : None ≡ Some i = h in cc)
  placed_has n (e ∷ ns) q i h = by (bytes_eq q e.0) refl h (placed_has (n + 1) ns q i)
    where
      by : (b : Bool) → bytes_eq q e.0 ≡ b → cond b (Some n) (place_from (n + 1) ns q) ≡ Some i → (place_from (n + 1) ns q ≡ Some i → (n + 1 ≤ i) × ((j : ℕ) → j + (n + 1) ≡ i → Has ns q j)) → (n ≤ i) × ((j : ℕ) → j + n ≡ i → Has (e ∷ ns) q j)
      by true same at rest =
          let here : n ≡ i = cc in (
            omega arith,
            λ j sum. (let start : 0 ≡ j = omega (arith, sum, here) in subst (Has (e ∷ ns) q) start (first q e ns same)),
          )
      by false other at rest =
          let r = rest at in
          let low : n + 1 ≤ i = r.0 in (omega (arith, low), later n i q e ns other low r.1)

  -- a name without a place is not there
  nowhere : (n : ℕ) (ns : List (List ℕ × V)) (q : List ℕ) → place_from n ns q ≡ None → (value_at ns q ≡ None) × ((j : ℕ) → if_named (slice_get ns j) q ≡ None)
  nowhere n [] q h = (refl, λ j. refl)
  nowhere n (e ∷ ns) q h = by (bytes_eq q e.0) refl h (nowhere (n + 1) ns q)
    where
      none : bytes_eq q e.0 ≡ false → ((j : ℕ) → if_named (slice_get ns j) q ≡ None) → (j : ℕ) → if_named (slice_get (e ∷ ns) j) q ≡ None
      none other rest zero = ap (λ b. if b then Some e.1 else None) other
      none other rest (suc j) = rest j

      by : (b : Bool) → bytes_eq q e.0 ≡ b → cond b (Some n) (place_from (n + 1) ns q) ≡ None → (place_from (n + 1) ns q ≡ None → (value_at ns q ≡ None) × ((j : ℕ) → if_named (slice_get ns j) q ≡ None))
          → (cond b (Some e.1) (value_at ns q) ≡ None) × ((j : ℕ) → if_named (slice_get (e ∷ ns) j) q ≡ None)
      by true same at rest = absurd (let no : Some n ≡ None = at in cc)
      by false other at rest = ((rest at).0, none other (rest at).1)

  unplaced : (n : ℕ) (ns : List (List ℕ × V)) (q : List ℕ) → value_at ns q ≡ None → place_from n ns q ≡ None
  unplaced n [] q h = refl
  unplaced n (e ∷ ns) q h = by (bytes_eq q e.0) h (unplaced (n + 1) ns q)
    where
      by : (b : Bool) → cond b (Some e.1) (value_at ns q) ≡ None → (value_at ns q ≡ None → place_from (n + 1) ns q ≡ None) → cond b (Some n) (place_from (n + 1) ns q) ≡ None
      by true at rest = absurd (let no : Some e.1 ≡ None = at in cc)
      by false at rest = rest at

  -- one name more
  placed_last : (n : ℕ) (ns : List (List ℕ × V)) (e : List ℕ × V) (q : List ℕ) (m : ℕ) → place_from n ns q ≡ None → bytes_eq q e.0 ≡ true → m ≡ n + length ns → place_from n (ns ++ e ∷ []) q ≡ Some m
  placed_last n [] e q m none is at = ap (λ b. cond b (Some n) None) is ∙ (let same : n ≡ m = omega arith in ap Some same)
  placed_last n (d ∷ ns) e q m none is at = by (bytes_eq q d.0) none (λ h. (let at' : m ≡ n + 1 + length ns = omega arith in placed_last (n + 1) ns e q m h is at'))
    where
      by : (b : Bool) → cond b (Some n) (place_from (n + 1) ns q) ≡ None → (place_from (n + 1) ns q ≡ None → place_from (n + 1) (ns ++ e ∷ []) q ≡ Some m) → cond b (Some n) (place_from (n + 1) (ns ++ e ∷ []) q) ≡ Some m
      by true h rest = absurd (let no : Some n ≡ None = h in cc)
      by false h rest = rest h

  placed_before : (n : ℕ) (ns : List (List ℕ × V)) (e : List ℕ × V) (q : List ℕ) → bytes_eq q e.0 ≡ false → place_from n (ns ++ e ∷ []) q ≡ place_from n ns q
  placed_before n [] e q other = ap (λ b. cond b (Some n) None) other
  placed_before n (d ∷ ns) e q other = ap (λ o. cond (bytes_eq q d.0) (Some n) o) (placed_before (n + 1) ns e q other)

  -- the first names alone
  placed_in_first : (n k : ℕ) (ns : List (List ℕ × V)) (q : List ℕ) (i : ℕ) → place_from n (take k ns) q ≡ Some i → place_from n ns q ≡ Some i
  placed_in_first n zero ns q i h = absurd (let no : None ≡ Some i = h in cc)
  placed_in_first n (suc k) [] q i h = h
  placed_in_first n (suc k) (e ∷ ns) q i h = by (bytes_eq q e.0) h (placed_in_first (n + 1) k ns q i)
    where
      by : (b : Bool) → cond b (Some n) (place_from (n + 1) (take k ns) q) ≡ Some i → (place_from (n + 1) (take k ns) q ≡ Some i → place_from (n + 1) ns q ≡ Some i) → cond b (Some n) (place_from (n + 1) ns q) ≡ Some i
      by true h rest = h
      by false h rest = rest h

module _ {V : Type 0} where
  pub place_below : (n : ℕ) (ns : List (List ℕ × V)) (q : List ℕ) (i : ℕ) → place_from n ns q ≡ Some i → i < n + length ns
  place_below n [] q i h = absurd (let no : None ≡ Some i = h in cc)
  place_below n (e ∷ ns) q i h = by (bytes_eq q e.0) h (place_below (n + 1) ns q i)
    where
      by : (b : Bool) → cond b (Some n) (place_from (n + 1) ns q) ≡ Some i → (place_from (n + 1) ns q ≡ Some i → i < n + 1 + length ns) → i < n + suc (length ns)
      by true at rest = let here : n ≡ i = cc in omega (arith, here)
      by false at rest = let r = rest at in omega (arith, r)

  -- what stands anywhere under a name that stands once is what the name has
  pub any_is : (ns : List (List ℕ × V)) (q : List ℕ) (p : ℕ) (v : V) → AreOnce ns → if_named (slice_get ns p) q ≡ Some v → value_at ns q ≡ Some v
  unfolding AreOnce
  any_is [] q p v once h = absurd (let no : None ≡ Some v = h in cc)
  any_is (e ∷ ns) q zero v once h = by (bytes_eq q e.0) h
    where
      by : (b : Bool) → cond b (Some e.1) None ≡ Some v → cond b (Some e.1) (value_at ns q) ≡ Some v
      by true at = at
      by false at = absurd (let no : None ≡ Some v = at in cc)
  any_is (e ∷ ns) q (suc p) v once h = by (bytes_eq q e.0) refl (any_is ns q p v once.1 h)
    where
      by : (b : Bool) → bytes_eq q e.0 ≡ b → value_at ns q ≡ Some v → cond b (Some e.1) (value_at ns q) ≡ Some v
      by true same behind = absurd (let no : None ≡ Some v = sym once.0 ∙ (ap (value_at ns) (sym (same_bytes q e.0 same)) ∙ behind) in cc)
      by false other behind = behind

module _ {Y V : Type 0} where
  pub none_placed : (slots : List ℕ) (more : BTreeMap (String Y) ℕ) (ns : List (List ℕ × V)) → ns ≡ [] → ArePlaced slots more ns
  unfolding ArePlaced
  none_placed slots more ns empty q i h = absurd (let no : None ≡ Some i = sym (ap (λ l. place_of l q) empty) ∙ h in cc)

  pub placed_still : (slots now : List ℕ) (old new : BTreeMap (String Y) ℕ) (ns : List (List ℕ × V)) → ArePlaced slots old ns → now ≡ slots → IsUnchanged old new → ArePlaced now new ns
  unfolding ArePlaced IsNoted
  placed_still slots now old new ns placed same kept q i h = by (placed q i h)
    where
      by : IsNear slots (start_of q (length slots)) i ⊎ (get_by_text old q ≡ Some i) → IsNear now (start_of q (length now)) i ⊎ (get_by_text new q ≡ Some i)
      by (inl near) = inl (let P : List ℕ → Type 0 = λ s. IsNear s (start_of q (length s)) i in subst P (sym same) near)
      by (inr there) = inr (ap (lookup (is_at (λ k. slice_cmp nat_cmp q (string_bytes k)))) kept ∙ there)

  pub placed_first : (slots : List ℕ) (more : BTreeMap (String Y) ℕ) (ns now : List (List ℕ × V)) (k : ℕ) → now ≡ take k ns → ArePlaced slots more ns → ArePlaced slots more now
  unfolding ArePlaced
  placed_first slots more ns now k cut placed q i h = placed q i (placed_in_first 0 k ns q i (sym (ap (λ l. place_of l q) cut) ∙ h))

  -- one more name, in the list or not
  pub placed_more : (slots now : List ℕ) (old new : BTreeMap (String Y) ℕ) (ns ms : List (List ℕ × V)) (name : List ℕ) (v : V) (place : ℕ) → ArePlaced slots old ns → value_at ns name ≡ None → place ≡ length ns → ms ≡ ns ++ (name, v) ∷ []
      → Noted slots old now new name place → ArePlaced now new ms
  unfolding ArePlaced Noted
  placed_more slots now old new ns ms name v place placed absent at more noted q i h = by (bytes_eq name q) refl
    where
      here : place_of (ns ++ (name, v) ∷ []) q ≡ Some i
      here = sym (ap (λ l. place_of l q) more) ∙ h

      by : (b : Bool) → bytes_eq name q ≡ b → IsNoted now new q i
      by true same =
          let is_q : name ≡ q = same_bytes name q same in
          let at' : place ≡ 0 + length ns = omega (arith, at) in
          let is : Some place ≡ Some i = sym (placed_last 0 ns (name, v) q place (unplaced 0 ns q (ap (value_at ns) (sym is_q) ∙ absent)) (sym (bytes_turned name q) ∙ same) at') ∙ here in
          let is_i : place ≡ i = cc in
          let P : List ℕ → Type 0 = λ n. IsNoted now new n i in
          let Q : ℕ → Type 0 = λ j. IsNoted now new name j in
          subst P is_q (subst Q is_i noted.0)
      by false other =
          let before : place_of ns q ≡ Some i = sym (placed_before 0 ns (name, v) q (sym (bytes_turned name q) ∙ other)) ∙ here in
          let low : i < 0 + length ns = place_below 0 ns q i before in
          let low' : i < place = omega (arith, low, at) in
          noted.1 q i other low' (placed q i before)

  pub placed_besides : (slots now : List ℕ) (old new : BTreeMap (String Y) ℕ) (ns : List (List ℕ × V)) (name : List ℕ) (place : ℕ) → ArePlaced slots old ns → value_at ns name ≡ None → place ≡ length ns → Noted slots old now new name place → ArePlaced now new ns
  unfolding ArePlaced Noted
  placed_besides slots now old new ns name place placed absent at noted q i h = by (bytes_eq name q) refl
    where
      by : (b : Bool) → bytes_eq name q ≡ b → IsNoted now new q i
      by true same = absurd (let no : None ≡ Some i = sym (unplaced 0 ns q (ap (value_at ns) (sym (same_bytes name q same)) ∙ absent)) ∙ h in cc)
      by false other =
          let low : i < 0 + length ns = place_below 0 ns q i h in
          let low' : i < place = omega (arith, low, at) in
          noted.1 q i other low' (placed q i h)

  -- what is found is what the name has
  pub found_behind : (slots : List ℕ) (more : BTreeMap (String Y) ℕ) (ns : List (List ℕ × V)) (q : List ℕ) → ArePlaced slots more ns → ((i : ℕ) → IsNear slots (start_of q (length slots)) i → if_named (slice_get ns i) q ≡ None) → behind more ns q ≡ value_at ns q
  unfolding ArePlaced IsNoted
  found_behind slots more ns q placed none = by (place_of ns q) refl
    where
      by : (o : Option ℕ) → place_of ns q ≡ o → behind more ns q ≡ value_at ns q
      by None at = look (get_by_text more q) refl ∙ sym (nowhere 0 ns q at).0
        where
          look : (o : Option ℕ) → get_by_text more q ≡ o → behind more ns q ≡ None
          look None is = ap (behind_at ns q) is
          look (Some p) is = ap (behind_at ns q) is ∙ (nowhere 0 ns q at).1 p
      by (Some i) at = which (placed q i at)
        where
          is : if_named (slice_get ns i) q ≡ value_at ns q
          is = (placed_has 0 ns q i at).1 i (let sum : i + 0 ≡ i = omega arith in sum)

          which : IsNear slots (start_of q (length slots)) i ⊎ (get_by_text more q ≡ Some i) → behind more ns q ≡ value_at ns q
          which (inr there) = ap (behind_at ns q) there ∙ is
          which (inl near) =
              let gone : value_at ns q ≡ None = sym is ∙ none i near in
              absurd (let no : None ≡ Some i = sym (unplaced 0 ns q gone) ∙ at in cc)

set_here : (xs : List ℕ) (k v : ℕ) → k < length xs → slice_get (slice_set xs k v) k ≡ Some v
set_here [] k v low = absurd (omega (arith, low))
set_here (x ∷ xs) zero v low = refl
set_here (x ∷ xs) (suc k) v low = set_here xs k v (omega (arith, low))

-- what stands there after a write is what was written, or was there
set_there : (xs : List ℕ) (k v m i : ℕ) → slice_get xs m ≡ Some i → (slice_get (slice_set xs k v) m ≡ Some i) ⊎ (k ≡ m)
set_there [] k v m i h = absurd (let no : None ≡ Some i = h in cc)
set_there (x ∷ xs) zero v zero i h = inr refl
set_there (x ∷ xs) zero v (suc m) i h = inl h
set_there (x ∷ xs) (suc k) v zero i h = inl h
set_there (x ∷ xs) (suc k) v (suc m) i h = up (set_there xs k v m i h)
  where
    up : (slice_get (slice_set xs k v) m ≡ Some i) ⊎ (k ≡ m) → (slice_get (slice_set xs k v) m ≡ Some i) ⊎ (suc k ≡ suc m)
    up (inl still) = inl still
    up (inr same) = inr (ap suc same)

module _ {Y : Type 0} where
  pub noted_near : (slots : List ℕ) (more : BTreeMap (String Y) ℕ) (name : List ℕ) (place free start : ℕ) → start ≡ start_of name (length slots) → start + 4 ≤ length slots → start ≤ free → free < start + 4 → ((i : ℕ) → slice_get slots free ≡ Some i → place ≤ i)
      → Noted slots more (slice_set slots free place) more name place
  unfolding Noted IsNoted IsNear
  noted_near slots more name place free start is room above below taken = (inl (room', free, above', below', set_here slots free place inside), others)
    where
      now : List ℕ
      now = slice_set slots free place

      size : length now ≡ length slots
      size = length-set slots free place

      at : start ≡ start_of name (length now)
      at = is ∙ ap (start_of name) (sym size)

      inside : free < length slots
      inside = omega (arith, room, below)

      room' : start_of name (length now) + 4 ≤ length now
      room' = omega (arith, room, size, at)

      above' : start_of name (length now) ≤ free
      above' = omega (arith, above, at)

      below' : free < start_of name (length now) + 4
      below' = omega (arith, below, at)

      others : (q : List ℕ) (i : ℕ) → bytes_eq name q ≡ false → i < place → IsNear slots (start_of q (length slots)) i ⊎ (get_by_text more q ≡ Some i) → IsNear now (start_of q (length now)) i ⊎ (get_by_text more q ≡ Some i)
      others q i other low (inr there) = inr there
      others q i other low (inl near) = inl (stays near)
        where
          stays : IsNear slots (start_of q (length slots)) i → IsNear now (start_of q (length now)) i
          stays (fits, m, from, to, there) = by (set_there slots free place m i there)
            where
              same : start_of q (length now) ≡ start_of q (length slots)
              same = ap (start_of q) size

              by : (slice_get now m ≡ Some i) ⊎ (free ≡ m) → IsNear now (start_of q (length now)) i
              by (inl still) = (omega (arith, fits, size, same), m, omega (arith, from, same), omega (arith, to, same), still)
              by (inr hit) =
                  let high : place ≤ i = taken i (ap (slice_get slots) hit ∙ there) in
                  absurd (omega (arith, high, low))

  pub noted_behind : (slots : List ℕ) (old new : BTreeMap (String Y) ℕ) (key : String Y) (name : List ℕ) (place : ℕ) → string_bytes key ≡ name → Updates string_cmp old new key (Some place) → Noted slots old slots new name place
  unfolding Noted IsNoted
  noted_behind slots old new key name place is put = (inr here, others)
    where
      read : (q : List ℕ) → get_by_text new q ≡ cond (bytes_eq name q) (Some place) (get_by_text old q)
      read q = btree_map_updates_text (string_bytes key) old new (Some place) put q ∙ ap (λ k. cond (bytes_eq k q) (Some place) (get_by_text old q)) is

      here : get_by_text new name ≡ Some place
      here = read name ∙ ap (λ b. cond b (Some place) (get_by_text old name)) ((bytes_eq-Decides name name).1 refl)

      others : (q : List ℕ) (i : ℕ) → bytes_eq name q ≡ false → i < place → IsNear slots (start_of q (length slots)) i ⊎ (get_by_text old q ≡ Some i) → IsNear slots (start_of q (length slots)) i ⊎ (get_by_text new q ≡ Some i)
      others q i other low (inl near) = inl near
      others q i other low (inr there) = inr (read q ∙ (ap (λ b. cond b (Some place) (get_by_text old q)) other ∙ there))

module _ {V : Type 0} (slots : List ℕ) (ns : List (List ℕ × V)) (q : List ℕ) where
  -- where nothing in the slots is the name's
  pub none_near : (start : ℕ) → start ≡ start_of q (length slots) → ((m p : ℕ) → start ≤ m → m < start + 4 → slice_get slots m ≡ Some p → if_named (slice_get ns p) q ≡ None) → (i : ℕ) → IsNear slots (start_of q (length slots)) i → if_named (slice_get ns i) q ≡ None
  unfolding IsNear
  none_near start is none i (fits, m, from, to, there) = none m i (omega (arith, from, is)) (omega (arith, to, is)) there

  pub too_few : length slots < 4 → (i : ℕ) → IsNear slots (start_of q (length slots)) i → if_named (slice_get ns i) q ≡ None
  unfolding IsNear
  too_few few i (fits, m, from, to, there) = absurd (omega (arith, few, fits))
