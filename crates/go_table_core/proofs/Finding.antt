-- What is found among the types of packages.
use Rattle.std.proofs.Common.{◌≡◌, ℕ, ◌+◌, ◌-◌, ◌<◌, ◌≤◌, zero, suc, Bool, true, false, ◌&&◌, List, [], ◌∷◌, ◌++◌, length, All, Option, Some, None, is_some, ◌↔◌, refl, sym, ap, ◌∙◌, arith, cond, if◌then◌else◌}
use Rattle.std.specs.Prelude.{slice_get, option_copied}
use Rattle.std.specs.Borrow.{Bor}
use Rattle.std.specs.Str.{bytes_eq}
use Rattle.std.proofs.lemmas.Bool.{true≢false}
use Rattle.std.proofs.lemmas.Slice.Eq.{bytes_eq-Decides}
use Rattle.std.proofs.lemmas.List.Elements.{All-nil, All-cons, All-head, All-tail, All-append}
use Rattle.std.proofs.lemmas.Option.{slice_get_within}
use Rattle.go_term_core.specs.decl_core.declared.keys.DeclKey.{DeclKey}
use Rattle.go_term_core.specs.Terms.{Term}
use Rattle.go_term_core.proofs.SettlingNames.{bytes_same as same_bytes}
use Rattle.go_table_core.specs.declared.table.Numbered.{Numbered}
use Rattle.go_table_core.specs.Entries.{Entry, same_decl, same_key, find_entry, IsUnnamed}
use Rattle.go_table_core.specs.Tables.{AreOf, AreOthers, IsPlaceOf}
use Rattle.go_table_core.specs.mirrors.Holding.{all_entries, package_at, AreKept, IsTable}

pub bytes_same : (x y : List ℕ) → x ≡ y → bytes_eq x y ≡ true
bytes_same x y h = (bytes_eq-Decides x y).1 h

pub bytes_apart : (x y : List ℕ) → bytes_eq x y ≡ false → x ≡ y → ⊥
bytes_apart x y apart same = true≢false (sym (bytes_same x y same) ∙ apart)

pub bytes_turned : (x y : List ℕ) → bytes_eq x y ≡ false → bytes_eq y x ≡ false
bytes_turned x y apart = by (bytes_eq y x) refl
  where
    by : (b : Bool) → bytes_eq y x ≡ b → b ≡ false
    by true e = absurd (bytes_apart x y apart (sym (same_bytes y x e)))
    by false e = refl

-- the first of two answers
abbrev pub or_else : Option Entry → Option Entry → Option Entry
or_else (Some a) b = Some a
or_else None b = b

pub or_none : (o : Option Entry) → or_else o None ≡ o
or_none (Some a) = refl
or_none None = refl

pub find-append : (xs ys : List Entry) (k : DeclKey) → find_entry (xs ++ ys) k ≡ or_else (find_entry xs k) (find_entry ys k)
find-append [] ys k = refl
find-append (x ∷ xs) ys k = by (same_key x.key k) (find-append xs ys k)
  where
    by : (b : Bool) → find_entry (xs ++ ys) k ≡ or_else (find_entry xs k) (find_entry ys k) → (if b then Some x else find_entry (xs ++ ys) k) ≡ or_else (if b then Some x else find_entry xs k) (find_entry ys k)
    by true h = refl
    by false h = h

-- a key of another path
other_key : (a k : DeclKey) (path : List ℕ) → a.path ≡ path → bytes_eq k.path path ≡ false → same_key a k ≡ false
other_key a k path own other = by (bytes_eq a.path k.path) refl
  where
    by : (b : Bool) → bytes_eq a.path k.path ≡ b → b && same_decl a.decl k.decl ≡ false
    by true e = absurd (bytes_apart k.path path other (sym (same_bytes a.path k.path e) ∙ own))
    by false e = refl

find-other : (es : List Entry) (path : List ℕ) (k : DeclKey) → AreOf path es → bytes_eq k.path path ≡ false → find_entry es k ≡ None
find-other [] path k own other = refl
find-other (e ∷ es) path k own other = ap (λ b. if b then Some e else find_entry es k) (other_key e.key k path own.0 other) ∙ find-other es path k own.1 other

-- what a package that may be there has of a key
abbrev pub found : Option Numbered → DeclKey → Option Entry
found None k = None
found (Some p) k = find_entry p.types.entries k

-- a key is found in its own package alone
pub find_in : (n : ℕ) (ps : List (List ℕ × Numbered)) (k : DeclKey) → AreKept n ps → find_entry (all_entries ps) k ≡ found (package_at ps k.path) k
find_in n [] k kept = refl
find_in n (p ∷ ps) k kept =
    find-append p.1.types.entries (all_entries ps) k ∙ by (bytes_eq k.path p.0) refl (find_in (n + length p.1.types.entries) ps k kept.1)
  where
    by : (b : Bool) → bytes_eq k.path p.0 ≡ b → find_entry (all_entries ps) k ≡ found (package_at ps k.path) k → or_else (find_entry p.1.types.entries k) (find_entry (all_entries ps) k) ≡ found (cond b (Some p.1) (package_at ps k.path)) k
    by true e rest =
        let none : find_entry (all_entries ps) k ≡ None = rest ∙ (ap (λ q. found (package_at ps q) k) (same_bytes k.path p.0 e) ∙ ap (λ o. found o k) kept.0.once) in
        ap (or_else (find_entry p.1.types.entries k)) none ∙ or_none (find_entry p.1.types.entries k)
    by false e rest =
        let other : bytes_eq k.path p.1.types.path ≡ false = ap (bytes_eq k.path) (sym kept.0.keyed) ∙ e in
        ap (λ o. or_else o (find_entry (all_entries ps) k)) (find-other p.1.types.entries p.1.types.path k kept.0.well.own other) ∙ rest

-- places

slice_get-front : {X : Type 0} (xs ys : List X) (i : ℕ) (x : X) → slice_get xs i ≡ Some x → slice_get (xs ++ ys) i ≡ Some x
slice_get-front [] ys i x h = cc
slice_get-front (a ∷ xs) ys zero x h = h
slice_get-front (a ∷ xs) ys (suc i) x h = slice_get-front xs ys i x h

slice_get-behind : {X : Type 0} (xs ys : List X) (i j : ℕ) → i ≡ length xs + j → slice_get (xs ++ ys) i ≡ slice_get ys j
slice_get-behind [] ys i j e = (let same : i ≡ j = omega arith in ap (slice_get ys) same)
slice_get-behind (a ∷ xs) ys zero j e = absurd (omega arith)
slice_get-behind (a ∷ xs) ys (suc i) j e = (let e' : i ≡ length xs + j = omega arith in slice_get-behind xs ys i j e')

-- the place of a type of a package in the table's list
abbrev StandsAt : ℕ → List (List ℕ × Numbered) → Numbered → ℕ → Entry → Type 0
StandsAt n ps p i e = (n ≤ p.first) × ((m : ℕ) → m + n ≡ p.first + i → slice_get (all_entries ps) m ≡ Some e)

pub place_in_all : (n : ℕ) (ps : List (List ℕ × Numbered)) (path : List ℕ) (p : Numbered) (i : ℕ) (e : Entry) → AreKept n ps → package_at ps path ≡ Some p → slice_get p.types.entries i ≡ Some e → StandsAt n ps p i e
place_in_all n [] path p i e kept there at = absurd (let no : None ≡ Some p = there in cc)
place_in_all n (q ∷ ps) path p i e kept there at = by (bytes_eq path q.0) there (λ h. place_in_all (n + length q.1.types.entries) ps path p i e kept.1 h at)
  where
    by : (b : Bool) → cond b (Some q.1) (package_at ps path) ≡ Some p → (package_at ps path ≡ Some p → StandsAt (n + length q.1.types.entries) ps p i e) → StandsAt n (q ∷ ps) p i e
    by true h rest =
        let same : q.1 ≡ p = cc in
        let first : p.first ≡ n = ap (λ r. r.first) (sym same) ∙ kept.0.first in (
          omega arith,
          λ m sum. (
              let mi : m ≡ i = omega (arith, sum, first) in
              ap (slice_get (all_entries (q ∷ ps))) mi ∙ slice_get-front q.1.types.entries (all_entries ps) i e (ap (λ r. slice_get r.types.entries i) same ∙ at)
              ),
        )
    by false h rest =
        let r = rest h in
        let low : n + length q.1.types.entries ≤ p.first = r.0 in (
          omega (arith, low),
          λ m sum. (
              let j : ℕ = p.first + i - (n + length q.1.types.entries) in
              let mj : m ≡ length q.1.types.entries + j = omega (arith, low, sum) in
              let js : j + (n + length q.1.types.entries) ≡ p.first + i = omega (arith, low) in
              slice_get-behind q.1.types.entries (all_entries ps) m j mj ∙ r.1 j js
              ),
        )

-- packages that are not there

own_others : (es : List Entry) (path own : List ℕ) → AreOf own es → bytes_eq path own ≡ false → AreOthers path es
own_others [] path own are apart = All-nil (λ e. e.key.path ≡ path → ⊥)
own_others (e ∷ es) path own are apart = All-cons (λ e. e.key.path ≡ path → ⊥) e es (λ same. bytes_apart path own apart (sym same ∙ are.0)) (own_others es path own are.1 apart)

all_behind : (P : Entry → Type 0) (xs ys : List Entry) → All P (xs ++ ys) → All P ys
all_behind P [] ys h = h
all_behind P (x ∷ xs) ys h = all_behind P xs ys (All-tail P x (xs ++ ys) h)

first_own : (es ys : List Entry) (path own : List ℕ) → 0 < length es → AreOf own es → AreOthers path (es ++ ys) → path ≡ own → ⊥
first_own [] ys path own some are others same = omega arith
first_own (e ∷ es) ys path own some are others same = All-head (λ e. e.key.path ≡ path → ⊥) e (es ++ ys) others (are.0 ∙ sym same)

pub none_of : (n : ℕ) (ps : List (List ℕ × Numbered)) (path : List ℕ) → AreKept n ps → package_at ps path ≡ None → AreOthers path (all_entries ps)
none_of n [] path kept none = All-nil (λ e. e.key.path ≡ path → ⊥)
none_of n (p ∷ ps) path kept none = by (bytes_eq path p.0) refl none (none_of (n + length p.1.types.entries) ps path kept.1)
  where
    by : (b : Bool) → bytes_eq path p.0 ≡ b → cond b (Some p.1) (package_at ps path) ≡ None → (package_at ps path ≡ None → AreOthers path (all_entries ps)) → AreOthers path (p.1.types.entries ++ all_entries ps)
    by true e h rest = absurd (let no : Some p.1 ≡ None = h in cc)
    by false e h rest =
        All-append (λ e. e.key.path ≡ path → ⊥) p.1.types.entries (all_entries ps)
        (own_others p.1.types.entries path p.1.types.path kept.0.well.own (ap (bytes_eq path) (sym kept.0.keyed) ∙ e))
        (rest h)

pub none_there : (n : ℕ) (ps : List (List ℕ × Numbered)) (path : List ℕ) → AreKept n ps → AreOthers path (all_entries ps) → package_at ps path ≡ None
none_there n [] path kept others = refl
none_there n (p ∷ ps) path kept others =
    by (bytes_eq path p.0) refl (none_there (n + length p.1.types.entries) ps path kept.1 (all_behind (λ e. e.key.path ≡ path → ⊥) p.1.types.entries (all_entries ps) others))
  where
    by : (b : Bool) → bytes_eq path p.0 ≡ b → package_at ps path ≡ None → cond b (Some p.1) (package_at ps path) ≡ None
    by true e rest = absurd (first_own p.1.types.entries (all_entries ps) path p.1.types.path kept.0.some kept.0.well.own others (same_bytes path p.0 e ∙ kept.0.keyed))
    by false e rest = rest

pub some_copied : {X : Type 0} (o : Option (Bor X)) → is_some o ≡ is_some (option_copied o)
some_copied None = refl
some_copied (Some x) = refl

none_from_test : {X : Type 0} (o : Option X) → is_some o ≡ false → o ≡ None
none_from_test None h = refl
none_from_test (Some x) h = absurd (true≢false h)

pub others_tested : (len : ℕ) (ps : List (List ℕ × Numbered)) (nothing : Term) (path : List ℕ) (b : Bool) → IsTable len ps nothing → b ≡ is_some (package_at ps path) → (b ≡ false) ↔ AreOthers path (all_entries ps)
others_tested len ps nothing path b well is = (
  λ off. none_of 0 ps path well.kept (none_from_test (package_at ps path) (sym is ∙ off)),
  λ others. is ∙ ap is_some (none_there 0 ps path well.kept others),
)

-- a package stands under its own path
pub at_path : (n : ℕ) (ps : List (List ℕ × Numbered)) (path : List ℕ) (p : Numbered) → AreKept n ps → package_at ps path ≡ Some p → path ≡ p.types.path
at_path n [] path p kept there = absurd (let no : None ≡ Some p = there in cc)
at_path n (q ∷ ps) path p kept there = by (bytes_eq path q.0) refl there (at_path (n + length q.1.types.entries) ps path p kept.1)
  where
    by : (b : Bool) → bytes_eq path q.0 ≡ b → cond b (Some q.1) (package_at ps path) ≡ Some p → (package_at ps path ≡ Some p → path ≡ p.types.path) → path ≡ p.types.path
    by true e h rest =
        let same : q.1 ≡ p = cc in
        same_bytes path q.0 e ∙ (kept.0.keyed ∙ ap (λ r. r.types.path) same)
    by false e h rest = rest h

-- what is found of a key, by its package
pub find_nowhere : (len : ℕ) (ps : List (List ℕ × Numbered)) (nothing : Term) (k : DeclKey) → IsTable len ps nothing → package_at ps k.path ≡ None → find_entry (all_entries ps) k ≡ None
find_nowhere len ps nothing k well none = find_in 0 ps k well.kept ∙ ap (λ o. found o k) none

pub find_there : (len : ℕ) (ps : List (List ℕ × Numbered)) (nothing : Term) (k : DeclKey) (p : Numbered) → IsTable len ps nothing → package_at ps k.path ≡ Some p → find_entry (all_entries ps) k ≡ find_entry p.types.entries k
find_there len ps nothing k p well there = find_in 0 ps k well.kept ∙ ap (λ o. found o k) there

-- the place of a type in the table's list
pub stands_at : (len : ℕ) (ps : List (List ℕ × Numbered)) (nothing : Term) (k : DeclKey) (p : Numbered) (i : ℕ) → IsTable len ps nothing → package_at ps k.path ≡ Some p → IsPlaceOf p.types.entries k i → IsPlaceOf (all_entries ps) k (p.first + i) × (p.first + i < len)
stands_at len ps nothing k p i well there at =
    let e = at.0 in
    let stands = place_in_all 0 ps k.path p i e well.kept there at.1 in
    let sum : (p.first + i) + 0 ≡ p.first + i = omega arith in
    let here : slice_get (all_entries ps) (p.first + i) ≡ Some e = stands.1 (p.first + i) sum in
    ((e, here, find_there len ps nothing k p well there ∙ at.2, at.3), omega (arith, slice_get_within (all_entries ps) (p.first + i) e here, well.counted))

-- an empty table has nothing
pub find_empty : (len : ℕ) (ps : List (List ℕ × Numbered)) (nothing : Term) (k : DeclKey) → IsTable len ps nothing → len ≡ 0 → find_entry (all_entries ps) k ≡ None
find_empty len ps nothing k well none = by (all_entries ps) (sym well.counted ∙ none)
  where
    by : (es : List Entry) → length es ≡ 0 → find_entry es k ≡ None
    by [] h = refl
    by (e ∷ es) h = absurd (omega arith)

-- each type of a table has its underlying type
all_plain : (n : ℕ) (ps : List (List ℕ × Numbered)) → AreKept n ps → All (λ e. IsUnnamed e.term) (all_entries ps)
all_plain n [] kept = All-nil (λ e. IsUnnamed e.term)
all_plain n (p ∷ ps) kept = All-append (λ e. IsUnnamed e.term) p.1.types.entries (all_entries ps) kept.0.well.plain (all_plain (n + length p.1.types.entries) ps kept.1)

pub table_plain : (len : ℕ) (ps : List (List ℕ × Numbered)) (nothing : Term) → IsTable len ps nothing → All (λ e. IsUnnamed e.term) (all_entries ps)
table_plain len ps nothing well = all_plain 0 ps well.kept
