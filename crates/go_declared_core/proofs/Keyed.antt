-- Tables of what packages show.
use Rattle.std.proofs.Common.{◌≡◌, ℕ, suc, ◌+◌, ◌<◌, Bool, true, false, List, [], ◌∷◌, ◌++◌, length, get_or, set, Option, Some, None, cond, refl, sym, ap, ◌∙◌, arith}
use Rattle.std.specs.Prelude.{if◌then◌else◌}
use Rattle.std.specs.Str.{bytes_eq}
use Rattle.std.specs.List.{position_from}
use Rattle.std.specs.Map.{keys_of}
use Rattle.std.proofs.lemmas.List.{length-map, map-append, map-set, set-get_or, get_or-map}
use Rattle.go_declared_core.specs.Packages.{PackageFacesModel, package_faces, package_in, with_faces}
use Rattle.go_declared_core.specs.mirrors.Tables.{ArePlaced, keyed, place_of}
use Rattle.go_declared_core.proofs.Placing.{found, missing, place_within, placed_last}
use Rattle.go_block_core.specs.Tables.{in_block}

abbrev entry : PackageFacesModel → List ℕ × PackageFacesModel
entry p = (p.path, p)

-- what a table has of a path

in_keyed : (ps : List PackageFacesModel) (path : List ℕ) → in_block (keyed ps) path ≡ package_in ps path
in_keyed [] path = refl
in_keyed (p ∷ ps) path = ap (λ (o : Option PackageFacesModel). cond (bytes_eq path p.path) (Some p) o) (in_keyed ps path)

pub package_within : (ps : List PackageFacesModel) (path : List ℕ) (n : ℕ) → place_of (keyed ps) path ≡ Some n → n < length ps
package_within ps path n h =
    let l = place_within (keyed ps) path n ([], package_faces [] [] []) h in
    let size = length-map ps entry in
    omega (arith, l, size)

pub package_there : (ps : List PackageFacesModel) (path : List ℕ) (n : ℕ) (read : PackageFacesModel) → place_of (keyed ps) path ≡ Some n → read ≡ get_or ps n read → Some read ≡ package_in ps path
package_there ps path n read h is =
    let f = found (keyed ps) path 0 n (read.path, read) h in
    let same : n ≡ f.place = omega (arith, f.is) in
    let l = package_within ps path n h in
    let size = length-map ps entry in
    let at = get_or-map entry ps f.place read (read.path, read) (omega (arith, f.within, size)) in
    ap Some (is ∙ ap (λ (m : ℕ). get_or ps m read) same) ∙ (sym (f.has ∙ ap (λ (e : List ℕ × PackageFacesModel). Some e.1) at) ∙ in_keyed ps path)

pub package_missing : (ps : List PackageFacesModel) (path : List ℕ) → place_of (keyed ps) path ≡ None → None ≡ package_in ps path
package_missing ps path h = sym (missing (keyed ps) path 0 h) ∙ in_keyed ps path

-- another package takes its place

put : (ps : List PackageFacesModel) (q : PackageFacesModel) (k n : ℕ) → position_from (bytes_eq q.path) k (keys_of (keyed ps)) ≡ Some n → (place : ℕ) × (n ≡ k + place) × (set ps place q ≡ with_faces ps q)
put [] q k n h = cc
put (p ∷ ps) q k n h = by (bytes_eq q.path p.path) refl h (put ps q (k + 1) n)
  where
    by : (b : Bool) → bytes_eq q.path p.path ≡ b → cond b (Some k) (position_from (bytes_eq q.path) (k + 1) (keys_of (keyed ps))) ≡ Some n
        → (position_from (bytes_eq q.path) (k + 1) (keys_of (keyed ps)) ≡ Some n → (place : ℕ) × (n ≡ k + 1 + place) × (set ps place q ≡ with_faces ps q))
        → (place : ℕ) × (n ≡ k + place) × (set (p ∷ ps) place q ≡ with_faces (p ∷ ps) q)
    by true t e rest = (
      0,
      (let same : k ≡ n = (let s : Some k ≡ Some n = e in cc) in omega (arith, same)),
      sym (ap (λ b. if b then q ∷ ps else p ∷ with_faces ps q) t),
    )
    by false t e rest = (let behind = rest e in (
      suc behind.0,
      omega (arith, behind.1),
      ap (λ (l : List PackageFacesModel). p ∷ l) behind.2 ∙ sym (ap (λ b. if b then q ∷ ps else p ∷ with_faces ps q) t),
    ))

pub placed_again : (places : List (List ℕ × ℕ)) (ps : List PackageFacesModel) (n : ℕ) (q : PackageFacesModel) → ArePlaced places (keyed ps) → place_of (keyed ps) q.path ≡ Some n
    → (set ps n q ≡ with_faces ps q) × ArePlaced places (keyed (set ps n q))
placed_again places ps n q before h =
    let p = put ps q 0 n h in
    let f = found (keyed ps) q.path 0 n (q.path, q) h in
    let same : n ≡ p.0 = omega (arith, p.1) in
    let same_place : f.place ≡ n = omega (arith, f.is) in
    let keys : keys_of (keyed (set ps n q)) ≡ keys_of (keyed ps) =
    ap keys_of (map-set entry ps n q)
    ∙ (map-set (λ (e : List ℕ × PackageFacesModel). e.0) (keyed ps) n (q.path, q)
    ∙ (ap (set (keys_of (keyed ps)) n) (sym (ap (λ (m : ℕ). get_or (keys_of (keyed ps)) m []) (sym same_place) ∙ f.key [])) ∙ set-get_or (keys_of (keyed ps)) n [])) in (
      ap (λ (m : ℕ). set ps m q) same ∙ p.2,
      (λ path. before path ∙ ap (position_from (bytes_eq path) 0) (sym keys)),
    )

-- a package whose path has none goes last

last : (ps : List PackageFacesModel) (q : PackageFacesModel) (k : ℕ) → position_from (bytes_eq q.path) k (keys_of (keyed ps)) ≡ None → ps ++ q ∷ [] ≡ with_faces ps q
last [] q k h = refl
last (p ∷ ps) q k h = by (bytes_eq q.path p.path) refl h (last ps q (k + 1))
  where
    by : (b : Bool) → bytes_eq q.path p.path ≡ b → cond b (Some k) (position_from (bytes_eq q.path) (k + 1) (keys_of (keyed ps))) ≡ None
        → (position_from (bytes_eq q.path) (k + 1) (keys_of (keyed ps)) ≡ None → ps ++ q ∷ [] ≡ with_faces ps q) → p ∷ (ps ++ q ∷ []) ≡ with_faces (p ∷ ps) q
    by true t none rest = cc
    by false t none rest = ap (λ (l : List PackageFacesModel). p ∷ l) (rest none) ∙ sym (ap (λ b. if b then q ∷ ps else p ∷ with_faces ps q) t)

pub placed_more : (old new : List (List ℕ × ℕ)) (ps : List PackageFacesModel) (path : List ℕ) (n : ℕ) (q : PackageFacesModel) → ArePlaced old (keyed ps) → path ≡ q.path → n ≡ length ps → place_of (keyed ps) q.path ≡ None
    → new ≡ old ++ (path, n) ∷ [] → (ps ++ q ∷ [] ≡ with_faces ps q) × ArePlaced new (keyed (ps ++ q ∷ []))
placed_more old new ps path n q before is count none adds =
    let size = length-map ps entry in
    let more = placed_last old new (keyed ps) path n (q.path, q) before is (omega (arith, count, size)) adds in (
      last ps q 0 none,
      (λ other. more other ∙ ap (λ (es : List (List ℕ × PackageFacesModel)). place_of es other) (sym (map-append entry ps (q ∷ [])))),
    )
