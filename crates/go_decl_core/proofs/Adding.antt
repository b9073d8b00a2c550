-- Walks that add places.
use Rattle.std.proofs.Common.{◌≡◌, ℕ, ◌+◌, ◌<◌, ◌≤◌, List, [], ◌++◌, length, get_or, take, map, sym, ap, ◌∙◌, subst, append-nil, append_assoc, arith}
use Rattle.std.specs.List.{flat_map}
use Rattle.std.proofs.lemmas.List.{map-append}
use Rattle.std.proofs.lemmas.Grind.{common_steps}
use Rattle.go_decl_core.specs.declared.places.Place.{Place}
use Rattle.go_decl_core.specs.Outer.{Outer, place_of}
use Rattle.go_decl_core.specs.mirrors.Listing.{AddsTo}

pub one_more : {X : Type 0} (f : X → List Outer) (xs : List X) (i : ℕ) (x : X) → i < length xs → x ≡ get_or xs i x → flat_map f (take i xs) ++ f x ≡ flat_map f (take (i + 1) xs)
one_more f xs i x h is = grind (arith, common_steps)

pub all_taken : {X : Type 0} (f : X → List Outer) (xs : List X) (i : ℕ) → length xs ≤ i → flat_map f (take i xs) ≡ flat_map f xs
all_taken f xs i h = grind (arith, common_steps)

pub joined : (old middle new : List Place) (xs ys : List Outer) → middle ≡ old ++ map place_of xs → new ≡ middle ++ map place_of ys → new ≡ old ++ map place_of (xs ++ ys)
joined old middle new xs ys first second =
    second ∙ (ap (λ ps. ps ++ map place_of ys) first ∙ (append_assoc old (map place_of xs) (map place_of ys) ∙ ap (λ ps. old ++ ps) (sym (map-append place_of xs ys))))

pub adds_none : {P : Type 0} {ps : List Place} → AddsTo P ps [] P ps
adds_none {ps = ps} = λ ok. (ok, sym (append-nil ps))

pub adds_more : {P Q R : Type 0} (ps : List Place) {qs rs : List Place} (xs ys : List Outer) → AddsTo P ps xs Q qs → AddsTo Q qs ys R rs → AddsTo P ps (xs ++ ys) R rs
adds_more ps {qs} {rs} xs ys first second = λ ok.
    let s = second ok in
    let f = first s.0 in
    (f.0, joined ps qs rs xs ys f.1 s.1)

-- the same identifiers, written otherwise
pub adds_same : {P Q : Type 0} (ps : List Place) {qs : List Place} (os more : List Outer) → more ≡ os → AddsTo P ps os Q qs → AddsTo P ps more Q qs
adds_same {P} {Q} ps {qs} os more same h = subst (λ os. AddsTo P ps os Q qs) (sym same) h

-- what a walk added of a value, told of an equal value
pub adds_at : {P Q : Type 0} (ps : List Place) {qs : List Place} {X : Type 0} (f : X → List Outer) (x y : X) → x ≡ y → AddsTo P ps (f x) Q qs → AddsTo P ps (f y) Q qs
adds_at {P} {Q} ps {qs} f x y same h = subst (λ x. AddsTo P ps (f x) Q qs) same h

pub adds_both : {P Q R : Type 0} (ps : List Place) {qs rs : List Place} (xs ys os : List Outer) → os ≡ xs ++ ys → AddsTo P ps xs Q qs → AddsTo Q qs ys R rs → AddsTo P ps os R rs
adds_both {P} {Q} {R} ps {qs} {rs} xs ys os same first second = subst (λ os. AddsTo P ps os R rs) (sym same) (adds_more ps xs ys first second)

module _ {X : Type 0} (f : X → List Outer) where
  -- one turn of a loop, behind what was added before the loop
  pub adds_step : {P Q R : Type 0} (ps : List Place) {qs rs : List Place} (front : List Outer) (xs : List X) (i : ℕ) (x : X) → i < length xs → x ≡ get_or xs i x → AddsTo P ps (front ++ flat_map f (take i xs)) Q qs → AddsTo Q qs (f x) R rs → AddsTo P ps (front ++ flat_map f (take (i + 1) xs)) R rs
  adds_step {P} {Q} {R} ps {qs} {rs} front xs i x h is before now =
      subst (λ os. AddsTo P ps os R rs) (append_assoc front (flat_map f (take i xs)) (f x) ∙ ap (λ os. front ++ os) (one_more f xs i x h is)) (adds_more ps (front ++ flat_map f (take i xs)) (f x) before now)

  -- the end of a loop over the items of a list
  pub adds_whole : {P Q : Type 0} (ps : List Place) {qs : List Place} (front : List Outer) (items xs : List X) (i : ℕ) (os : List Outer) → items ≡ xs → length items ≤ i → os ≡ front ++ flat_map f xs → AddsTo P ps (front ++ flat_map f (take i items)) Q qs → AddsTo P ps os Q qs
  adds_whole {P} {Q} ps {qs} front items xs i os is h same seen =
      subst (λ os. AddsTo P ps os Q qs) (ap (λ os. front ++ os) (all_taken f items i h ∙ ap (flat_map f) is) ∙ sym same) seen
