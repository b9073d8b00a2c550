-- The numbers of packages, and the bytes of a path.
use Rattle.std.proofs.Common.{◌≡◌, ℕ, ◌<◌, inl, inr, true, false, List, [], ◌∷◌, length, get_or, All, Option, Some, None, MatchOption, slice_get, refl, sym, ◌∙◌, ap, subst, arith}
use Rattle.std.specs.List.{join_with_byte, position}
use Rattle.std.specs.Map.{keys_of}
use Rattle.std.specs.Str.{IsUtf8, bytes_eq}
use Rattle.std.specs.declared.cmp.Ordering.TheVariants.{Less, Equal}
use Rattle.std.proofs.lemmas.Bool.{cases_lt}
use Rattle.std.proofs.lemmas.List.{get_or-map, get_or_past, length-map}
use Rattle.std.proofs.lemmas.List.Elements.{All-head, All-tail, All-append, All-cons, All-nil}
use Rattle.std.proofs.lemmas.List.Splits.{join_with_byte-slice_split}
use Rattle.std.proofs.lemmas.List.Quantifiers.{position-Some}
use Rattle.std.proofs.lemmas.Slice.Eq.{bytes_eq-Decides}
use Rattle.std.proofs.lemmas.Option.{slice_get_within, get_or_from_slice_get}
use Rattle.std.proofs.lemmas.Str.{IsUtf8-from_ascii}
use Rattle.go_path_core.specs.Path.{elements, IsPath, IsElement, IsPathByte}
use Rattle.go_graph_core.specs.Sources.{SourceModel}
use Rattle.go_graph_core.specs.Workspaces.{PackageModel, by_bytes, IsWorkspace}
use Rattle.go_graph_core.specs.ImportLaws.{HasOneNumber, HasOnePackage}
use Rattle.go_graph_core.specs.Imports.{IsNumbered, HasNoPackage}
use Rattle.go_graph_core.proofs.Assemblies.{none_passes}
use Rattle.go_graph_core.proofs.Places.{same_text, some_item, path_below}

-- the package of the path has this number
abbrev pub IsNumber : List PackageModel → List ℕ → ℕ → Type 0
IsNumber ps path i = (files : List SourceModel) × IsNumbered ps path i files

-- no two packages have one path
pub one_number : (ps : List PackageModel) (path : List ℕ) (i j : ℕ) (f g : List SourceModel) → IsWorkspace ps → slice_get ps i ≡ Some (path, f) → slice_get ps j ≡ Some (path, g) → i < j → ⊥
one_number ps path i j f g well a b lt =
    let d : PackageModel = (path, f) in
    let x : get_or ps i d ≡ (path, f) = get_or_from_slice_get ps i (path, f) d a in
    let y : get_or ps j d ≡ (path, g) = get_or_from_slice_get ps j (path, g) d b in
    let less : by_bytes (get_or ps i d).0 (get_or ps j d).0 ≡ Less = path_below ps i j d well.order lt (slice_get_within ps j (path, g) b) in
    let same : by_bytes path path ≡ Equal = same_text path in
    let here : by_bytes path path ≡ Less = subst (λ (p : PackageModel). by_bytes path p.0 ≡ Less) y (subst (λ (p : PackageModel). by_bytes p.0 (get_or ps j d).0 ≡ Less) x less) in
    let no : Less ≡ Equal = sym here ∙ same in cc

pub has_one_number : HasOneNumber
has_one_number ps path i j f g well a b = elim (cases_lt i j) [
  | inl lt ↦ absurd (one_number ps path i j f g well a b lt)
  | inr ge ↦ elim (cases_lt j i) [
    | inl lt ↦ absurd (one_number ps path j i g f well b a lt)
    | inr le ↦ omega (arith, ge, le)
  ]
]

pub has_one_package : HasOnePackage
has_one_package ps path other i f g a b =
    let same : ◌≡◌ {A = Option PackageModel} (Some (path, f)) (Some (other, g)) = sym a ∙ b in
    let pair : ◌≡◌ {A = PackageModel} (path, f) (other, g) = cc in
    (ap (λ (p : PackageModel). p.0) pair, ap (λ (p : PackageModel). p.1) pair)

-- the number of a path's package, where a search through the paths finds it
pub number_of_position : (ps : List PackageModel) (keys : List (List ℕ)) (text path : List ℕ) (r : Option ℕ) → keys ≡ keys_of ps → text ≡ path → r ≡ position (bytes_eq text) keys → MatchOption r (HasNoPackage ps path) (IsNumber ps path)
number_of_position ps keys text path r e f h = number_found ps path r (h ∙ (ap (λ q. position (bytes_eq q) keys) f ∙ ap (position (bytes_eq path)) e))
  where
    number_found : (ps : List PackageModel) (path : List ℕ) (r : Option ℕ) → r ≡ position (bytes_eq path) (keys_of ps) → MatchOption r (HasNoPackage ps path) (IsNumber ps path)
    number_found ps path (Some i) h =
        let n : length (keys_of ps) ≡ length ps = length-map ps (λ p. p.0) in
        let found = position-Some (bytes_eq path) (keys_of ps) i path (sym h) in
        let lt : i < length ps = omega (arith, found.0, n) in
        let p : (p : PackageModel) × (slice_get ps i ≡ Some p) = some_item ps i lt in
        let here : get_or (keys_of ps) i path ≡ p.0.0 = get_or-map (λ (q : PackageModel). q.0) ps i p.0 path lt ∙ ap (λ (q : PackageModel). q.0) (get_or_from_slice_get ps i p.0 p.0 p.1) in
        let same : path ≡ p.0.0 = (bytes_eq-Decides path (get_or (keys_of ps) i path)).0 found.1 ∙ here in
        (p.0.1, p.1 ∙ ap (λ (q : List ℕ). Some (q, p.0.1)) (sym same))
    number_found ps path None h = λ i files at.
        let d : PackageModel = (path, files) in
        let n : length (keys_of ps) ≡ length ps = length-map ps (λ p. p.0) in
        let lt : i < length ps = slice_get_within ps i d at in
        let fails : bytes_eq path (get_or (keys_of ps) i path) ≡ false = none_passes (bytes_eq path) (keys_of ps) (sym h) i path (omega (arith, lt, n)) in
        let here : get_or (keys_of ps) i path ≡ path = get_or-map (λ (q : PackageModel). q.0) ps i d path lt ∙ ap (λ (q : PackageModel). q.0) (get_or_from_slice_get ps i d d at) in
        let yes : bytes_eq path path ≡ true = (bytes_eq-Decides path path).1 refl in
        let no : true ≡ false = sym yes ∙ subst (λ q. bytes_eq path q ≡ false) here fails in cc

-- a path is ASCII

ascii_byte : (b : ℕ) → IsPathByte b → b < 128
ascii_byte b h = omega (arith, h)

abbrev Low : List ℕ → Type 0
Low text = All (λ b. b < 128) text

low_element : (e : List ℕ) → IsElement e → Low e
low_element e h = λ k d lt. ascii_byte _ (h.3 k d lt)

low_joined : (es : List (List ℕ)) → All IsElement es → Low (join_with_byte 47 es)
low_joined [] h = All-nil (λ b. b < 128)
low_joined (e ∷ []) h = low_element e (All-head IsElement e [] h)
low_joined (e ∷ f ∷ es) h =
    let slash : 47 < 128 = omega arith in
    All-append (λ b. b < 128) e (47 ∷ join_with_byte 47 (f ∷ es)) (low_element e (All-head IsElement e (f ∷ es) h)) (All-cons (λ b. b < 128) 47 (join_with_byte 47 (f ∷ es)) slash (low_joined (f ∷ es) (All-tail IsElement e (f ∷ es) h)))

pub path_is_utf8 : (text : List ℕ) → IsPath text → IsUtf8 text
path_is_utf8 text h =
    let low : Low text = subst Low (join_with_byte-slice_split 47 text) (low_joined (elements text) h.2) in
    IsUtf8-from_ascii text (λ i. elim (cases_lt i (length text)) [
      | inl lt ↦ low i 0 lt
      | inr ge ↦ (let e : get_or text i 0 ≡ 0 = get_or_past text i 0 ge in omega (arith, e))
    ])
