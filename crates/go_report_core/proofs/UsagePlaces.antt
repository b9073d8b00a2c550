-- Places, each once, and imports judged by them.
use Rattle.std.proofs.Common.{◌≡◌, ℕ, ◌+◌, ◌<◌, Bool, true, false, nat_eq, not, ◌&&◌, ◌||◌, if◌then◌else◌, List, [], ◌∷◌, ◌++◌, length, get_or, map, take, Result, Ok, Err, OnOk, refl, sym, ap, ◌∙◌, append-nil, append_assoc}
use Rattle.std.specs.Cmp.{nat_eq_equiv}
use Rattle.std.specs.List.{flat_map, list_any}
use Rattle.std.proofs.lemmas.List.Folds.{list_any-append}
use Rattle.std.proofs.lemmas.Map.Steps.{list_any_congr}
use Rattle.go_block_core.proofs.Pieces.{piece_more}
use Rattle.go_report_core.specs.usage.Used.{FileUse, is_import, judged_import, refused_use}
use Rattle.go_report_core.specs.usage.mirrors.Steps.{judged_by, with_place, with_places}

-- some places, and then others
pub places_append : (places more rest : List ℕ) → with_places places (more ++ rest) ≡ with_places (with_places places more) rest
places_append places [] rest = refl
places_append places (at ∷ more) rest = places_append (with_place places at) more rest

-- those of one thing more
pub places_more : {X : Type 0} (f : X → List ℕ) (front old new : List ℕ) (xs : List X) (i : ℕ) (x : X) → i < length xs → x ≡ get_or xs i x
    → old ≡ with_places front (flat_map f (take i xs)) → new ≡ with_places old (f x) → new ≡ with_places front (flat_map f (take (i + 1) xs))
places_more f front old new xs i x lt is before e =
    e
    ∙ (ap (λ l. with_places l (f x)) before
    ∙ (sym (places_append front (flat_map f (take i xs)) (f x))
    ∙ ap (with_places front) (piece_more f [] (flat_map f (take i xs)) (flat_map f (take i xs) ++ f x) xs i x lt is refl refl)))

-- a place that is there already changes nothing
stands_with : (at : ℕ) (places : List ℕ) (one : ℕ) → list_any (nat_eq at) (with_place places one) ≡ list_any (nat_eq at) (places ++ one ∷ [])
stands_with at places one = by (list_any (nat_eq one) places) refl (nat_eq at one) refl
  where
    known : (b : Bool) → b ≡ true → b ≡ (b || (true || false))
    known true e = refl
    known false e = e

    unknown : (b : Bool) → b ≡ (b || (false || false))
    unknown true = refl
    unknown false = refl

    last : (b : Bool) → nat_eq at one ≡ b → list_any (nat_eq at) places ≡ (list_any (nat_eq at) places || (b || false)) → list_any (nat_eq at) places ≡ list_any (nat_eq at) (places ++ one ∷ [])
    last b e h = h ∙ (ap (λ c. list_any (nat_eq at) places || (c || false)) (sym e) ∙ sym (list_any-append (nat_eq at) places (one ∷ [])))

    by : (there : Bool) → list_any (nat_eq one) places ≡ there → (same : Bool) → nat_eq at one ≡ same → list_any (nat_eq at) (if there then places else places ++ one ∷ []) ≡ list_any (nat_eq at) (places ++ one ∷ [])
    by true there true same = last true same (known (list_any (nat_eq at) places) (list_any_congr nat_eq_equiv at one places same ∙ there))
    by true there false same = last false same (unknown (list_any (nat_eq at) places))
    by false there same e = refl

-- a place stands among others as it stands among these, each once
pub stands_among : (at : ℕ) (places more : List ℕ) → list_any (nat_eq at) (with_places places more) ≡ list_any (nat_eq at) (places ++ more)
stands_among at places [] = ap (list_any (nat_eq at)) (sym (append-nil places))
stands_among at places (one ∷ more) =
    stands_among at (with_place places one) more
    ∙ (list_any-append (nat_eq at) (with_place places one) more
    ∙ (ap (λ b. b || list_any (nat_eq at) more) (stands_with at places one)
    ∙ (sym (list_any-append (nat_eq at) (places ++ one ∷ []) more)
    ∙ ap (list_any (nat_eq at)) (append_assoc places (one ∷ []) more))))

-- a place among others, looked for from either side
either_side : (places : List ℕ) (at : ℕ) → list_any (nat_eq at) places ≡ list_any (λ place. nat_eq place at) places
either_side [] at = refl
either_side (place ∷ places) at = ap (λ b. b || list_any (nat_eq at) places) (nat_eq_equiv.symm at place) ∙ ap (λ b. nat_eq place at || b) (either_side places at)

-- an import is judged by places alike, from whichever side they are looked for
pub judged_alike : (stands : ℕ → Bool) (places : List ℕ) → ((at : ℕ) → stands at ≡ list_any (nat_eq at) places)
    → (u : FileUse) → judged_by stands u ≡ judged_import places u
judged_alike stands places same u = ap (λ b. if is_import u.role && not b then refused_use u else u) (same u.offset ∙ either_side places u.offset)

-- imports are judged by places, each once, as by all of them
pub judged_once : (all : List ℕ) (us : List FileUse) → map (judged_import (with_places [] all)) us ≡ map (judged_import all) us
judged_once all [] = refl
judged_once all (u ∷ us) = λ i. one u i ∷ judged_once all us i
  where
    once : List ℕ
    once = with_places [] all

    one : (u : FileUse) → judged_import once u ≡ judged_import all u
    one u = ap (λ b. if is_import u.role && not b then refused_use u else u) (sym (either_side once u.offset) ∙ (stands_among u.offset [] all ∙ either_side all u.offset))

-- what follows from a fact about a result
pub on_ok_then : {X E P Q : Type 0} (r : Result X E) → (P → Q) → OnOk r P → OnOk r Q
on_ok_then (Ok x) f h = f h
on_ok_then (Err e) f h = h
