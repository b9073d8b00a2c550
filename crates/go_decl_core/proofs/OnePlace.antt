-- A place has one number, and one key.
use Rattle.std.proofs.Common.{◌≡◌, ℕ, ◌<◌, List, get_or, All, Option, Some, None, slice_get, option_map, refl, ap, sym, ◌∙◌, subst, inl, inr, arith}
use Rattle.std.proofs.lemmas.Bool.{cases_lt}
use Rattle.std.proofs.lemmas.List.{get_or_default}
use Rattle.std.proofs.lemmas.Option.{slice_get_cases}
use Rattle.go_tree_nodes.specs.Trees.{FileTree}
use Rattle.go_decl_core.specs.declared.keys.DeclRef.{DeclRef}
use Rattle.go_decl_core.specs.declared.places.Place.{Place}
use Rattle.go_decl_core.specs.Outer.{places_of}
use Rattle.go_decl_core.specs.Table.{IsAt, Rise}
use Rattle.go_decl_core.specs.Laws.{PlacesAreOneToOne, place_in, OneKeyAPlace}
use Rattle.go_decl_core.proofs.Tables.{offset_at}
use Rattle.go_decl_core.proofs.Order.{places_rise}
use Rattle.go_tree_nodes.specs.Spelling.{IsPlaced}

not_before : (ps : List Place) → Rise ps → (m n offset : ℕ) → IsAt ps offset m → IsAt ps offset n → m < n → ⊥
not_before ps rise m n offset h g lt =
    let a = offset_at ps m offset h in
    let b = offset_at ps n offset g in
    let low : (get_or ps m a.0).at ≡ offset = ap (λ p. p.at) a.2 ∙ a.3 in
    let high : (get_or ps n b.0).at ≡ offset = ap (λ p. p.at) b.2 ∙ b.3 in
    let less = rise m n a.0 lt b.1 in
    let same : get_or ps n a.0 ≡ get_or ps n b.0 = get_or_default ps n a.0 b.0 b.1 in
    omega (arith, less, low, high, ap (λ p. p.at) same)

one_number : (ps : List Place) → Rise ps → (m n offset : ℕ) → IsAt ps offset m → IsAt ps offset n → m ≡ n
one_number ps rise m n offset h g = elim (cases_lt m n) [
  | inl less ↦ absurd (not_before ps rise m n offset h g less)
  | inr le ↦ elim (cases_lt n m) [
    | inl less ↦ absurd (not_before ps rise n m offset g h less)
    | inr ge ↦ omega arith
  ]
]

pub places_are_one_to_one : PlacesAreOneToOne
places_are_one_to_one f placed m n offset h g = one_number (places_of f) (places_rise f placed) m n offset h g

-- a file of the list is placed
file_placed : (files : List FileTree) → All IsPlaced files → (k : ℕ) (f : FileTree) → slice_get files k ≡ Some f → IsPlaced f
file_placed files all k f h = elim ((slice_get_cases files k).1) [
  | inl here ↦ (let same : get_or files k here.0 ≡ f = here.3 ∙ (let e : Some here.0 ≡ Some f = sym here.2 ∙ h in cc) in subst IsPlaced same (all k here.0 here.1))
  | inr past ↦ (let e : None ≡ Some f = sym past.1 ∙ h in cc)
]

-- in one file
one_in_file : (files : List FileTree) (d e : DeclRef) (offset : ℕ) (found : Option FileTree) → ((f : FileTree) → found ≡ Some f → IsPlaced f) → place_in found d.number ≡ Some (record { at = offset; kind = d.kind }) → place_in found e.number ≡ Some (record { at = offset; kind = e.kind }) → d.file ≡ e.file → d ≡ e
one_in_file files d e offset None placed h g same = (let p : Place = record { at = offset; kind = d.kind } in let f : None ≡ Some p = h in cc)
one_in_file files d e offset (Some f) placed h g same =
    let rise = places_rise f (placed f refl) in
    let number : d.number ≡ e.number = one_number (places_of f) rise d.number e.number offset (ap (option_map (λ p. p.at)) h) (ap (option_map (λ p. p.at)) g) in
    let p : Place = record { at = offset; kind = d.kind } in
    let q : Place = record { at = offset; kind = e.kind } in
    let there : slice_get (places_of f) d.number ≡ Some q = ap (λ n. slice_get (places_of f) n) number ∙ g in
    let place : Some p ≡ Some q = sym h ∙ there in
    let kind : d.kind ≡ e.kind = ap (λ p. p.kind) (let s : p ≡ q = cc in s) in
    let file_moved : DeclRef = record { file = e.file; number = d.number; kind = d.kind } in
    let number_moved : DeclRef = record { file = e.file; number = e.number; kind = d.kind } in
    let first : d ≡ file_moved = ap (λ file. record { file = file; number = d.number; kind = d.kind }) same in
    let second : file_moved ≡ number_moved = ap (λ n. record { file = e.file; number = n; kind = d.kind }) number in
    let third : number_moved ≡ e = ap (λ k. record { file = e.file; number = e.number; kind = k }) kind in
    first ∙ (second ∙ third)

pub one_key_a_place : OneKeyAPlace
one_key_a_place files all d e offset h g same =
    one_in_file files d e offset (slice_get files d.file) (λ f. file_placed files all d.file f) h (ap (λ n. place_in (slice_get files n) e.number) same ∙ g) same
