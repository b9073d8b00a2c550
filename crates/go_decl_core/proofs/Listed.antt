-- Walks that list declarations with their places.
use Rattle.std.proofs.Common.{◌≡◌, ℕ, ◌+◌, ◌<◌, ◌≤◌, List, [], ◌∷◌, ◌++◌, length, get_or, take, map, sym, ap, ◌∙◌, append-nil, append_assoc}
use Rattle.std.specs.List.{flat_map}
use Rattle.std.proofs.lemmas.List.{length-map, length-append, take_more, take_all}
use Rattle.go_decl_core.specs.declared.places.Place.{Place}
use Rattle.go_decl_core.specs.Outer.{Outer, place_of}
use Rattle.go_decl_core.specs.TopDecls.{TopDeclTree, numbered}
use Rattle.go_decl_core.specs.mirrors.Listing.{AddsTo, ListsTo}
use Rattle.go_decl_core.proofs.Adding.{one_more, all_taken, joined}
use Rattle.go_decl_core.proofs.ListLemmas.{numbered_push}

-- how many places there are behind the ones that were added
pub counted : (old new : List Place) (xs : List Outer) → new ≡ old ++ map place_of xs → length new ≡ length old + length xs
counted old new xs e = ap length e ∙ (length-append old (map place_of xs) ∙ ap (λ n. length old + n) (length-map xs place_of))

pub lists_none : {P : Type 0} {ps : List Place} {ds : List TopDeclTree} → ListsTo P ps ds [] (λ n. []) P ps ds
lists_none {ps = ps} {ds = ds} = λ ok. (ok, sym (append-nil ps), sym (append-nil ds))

-- the same identifiers and declarations, written otherwise
pub lists_same : {P Q : Type 0} (ps : List Place) (ds : List TopDeclTree) {qs : List Place} {es : List TopDeclTree} (xs ys : List Outer) (f g : ℕ → List TopDeclTree) → ys ≡ xs → ((n : ℕ) → g n ≡ f n) → ListsTo P ps ds xs f Q qs es → ListsTo P ps ds ys g Q qs es
lists_same ps ds xs ys f g names decls h = λ ok.
    let r = h ok in
    (r.0, r.1 ∙ ap (λ os. ps ++ map place_of os) (sym names), r.2 ∙ ap (λ l. ds ++ l) (sym (decls (length ps))))

pub lists_both : {P Q R : Type 0} (ps : List Place) (ds : List TopDeclTree) {qs rs : List Place} {es fs : List TopDeclTree} (xs ys : List Outer) (f g : ℕ → List TopDeclTree) → ListsTo P ps ds xs f Q qs es → ListsTo Q qs es ys g R rs fs → ListsTo P ps ds (xs ++ ys) (λ n. f n ++ g (n + length xs)) R rs fs
lists_both ps ds {qs} {rs} xs ys f g first second = λ ok.
    let s = second ok in
    let r = first s.0 in
    let n = length ps in (
      r.0,
      joined ps qs rs xs ys r.1 s.1,
      s.2 ∙ (ap (λ l. l ++ g (length qs)) r.2 ∙ (append_assoc ds (f n) (g (length qs)) ∙ ap (λ k. ds ++ (f n ++ g k)) (counted ps qs xs r.1))),
    )

-- places behind, with no declaration
pub lists_adds : {P Q R : Type 0} (ps : List Place) (ds : List TopDeclTree) {qs rs : List Place} {es : List TopDeclTree} (xs ys : List Outer) (f : ℕ → List TopDeclTree) → ListsTo P ps ds xs f Q qs es → AddsTo Q qs ys R rs → ListsTo P ps ds (xs ++ ys) f R rs es
lists_adds ps ds {qs} {rs} xs ys f first second = λ ok.
    let s = second ok in
    let r = first s.0 in
    (r.0, joined ps qs rs xs ys r.1 s.1, r.2)

-- places in front, with no declaration
pub adds_lists : {P Q R : Type 0} (ps : List Place) (ds : List TopDeclTree) {qs rs : List Place} {es : List TopDeclTree} (xs ys : List Outer) (f : ℕ → List TopDeclTree) → AddsTo P ps xs Q qs → ListsTo Q qs ds ys f R rs es → ListsTo P ps ds (xs ++ ys) (λ n. f (n + length xs)) R rs es
adds_lists ps ds {qs} {rs} xs ys f first second = λ ok.
    let s = second ok in
    let r = first s.0 in
    (r.0, joined ps qs rs xs ys r.1 s.1, s.2 ∙ ap (λ k. ds ++ f k) (counted ps qs xs r.1))

module _ {X : Type 0} (names : X → List Outer) (decls : ℕ → X → List TopDeclTree) where
  -- one turn of a loop
  pub lists_step : {P Q R : Type 0} (ps : List Place) (ds : List TopDeclTree) {qs rs : List Place} {es fs : List TopDeclTree} (xs : List X) (i : ℕ) (x : X) → i < length xs → x ≡ get_or xs i x → ListsTo P ps ds (flat_map names (take i xs)) (λ n. numbered names decls n (take i xs)) Q qs es → ListsTo Q qs es (names x) (λ n. decls n x) R rs fs → ListsTo P ps ds (flat_map names (take (i + 1) xs)) (λ n. numbered names decls n (take (i + 1) xs)) R rs fs
  lists_step ps ds xs i x lt is before now =
      lists_same ps ds (flat_map names (take i xs) ++ names x) (flat_map names (take (i + 1) xs)) (λ n. numbered names decls n (take i xs) ++ decls (n + length (flat_map names (take i xs))) x) (λ n. numbered names decls n (take (i + 1) xs))
      (sym (one_more names xs i x lt is))
      (λ n. ap (numbered names decls n) (take_more xs i x lt ∙ ap (λ y. take i xs ++ y ∷ []) (sym is)) ∙ numbered_push names decls n (take i xs) x)
      (lists_both ps ds (flat_map names (take i xs)) (names x) (λ n. numbered names decls n (take i xs)) (λ n. decls n x) before now)

  -- the end of a loop over the items of a list
  pub lists_whole : {P Q : Type 0} (ps : List Place) (ds : List TopDeclTree) {qs : List Place} {es : List TopDeclTree} (items xs : List X) (i : ℕ) (os : List Outer) (more : ℕ → List TopDeclTree) → items ≡ xs → length items ≤ i → os ≡ flat_map names xs → ((n : ℕ) → more n ≡ numbered names decls n xs) → ListsTo P ps ds (flat_map names (take i items)) (λ n. numbered names decls n (take i items)) Q qs es → ListsTo P ps ds os more Q qs es
  lists_whole ps ds items xs i os more is le names_same decls_same h =
      lists_same ps ds (flat_map names (take i items)) os (λ n. numbered names decls n (take i items)) more
      (names_same ∙ sym (all_taken names items i le ∙ ap (flat_map names) is))
      (λ n. decls_same n ∙ ap (numbered names decls n) (sym (take_all i items le ∙ is)))
      h
