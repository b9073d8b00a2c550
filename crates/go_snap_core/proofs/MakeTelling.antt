-- What is told of packages, and the places where it stands.
use Rattle.std.proofs.Common.{◌≡◌, ◌≢◌, ℕ, zero, suc, ◌+◌, ◌<◌, ◌⊎◌, inl, inr, List, [], ◌∷◌, ◌++◌, All, length, map, take, get_or, Option, Some, None, refl, sym, ap, ap₂, subst, ◌∙◌, arith}
use Rattle.std.specs.Prelude.{slice_get, slice_set, replicate}
use Rattle.std.specs.List.{AllZip, filter_map, cons_option}
use Rattle.std.specs.Option.{option_map}
use Rattle.std.proofs.lemmas.Bool.{cases_eq}
use Rattle.std.proofs.lemmas.List.{length-append, length-map, length-replicate, get_or-replicate, map-set, take_more}
use Rattle.std.proofs.lemmas.List.Elements.{All-cons, All-contains_itself, All-head, All-tail}
use Rattle.std.proofs.lemmas.Option.{slice_get_within, get_or_from_slice_get}
use Rattle.go_select_core.specs.type_core.Keyed.{slice_get_here}
use Rattle.go_digraph_core.specs.reach.Numbers.{Numbers}
use Rattle.go_report_core.specs.summary_core.Summaries.{SummaryModel}
use Rattle.go_emit_core.specs.package_core.PackagePartParts.{PartModel}
use Rattle.go_snap_core.specs.whole_workspace.Inputs.{Tells}
use Rattle.go_snap_core.specs.whole_workspace.mirrors.Steps.{AreReachedAt, AreToldBySet}
use Rattle.go_snap_core.proofs.WholeWorkspaceLists.{one_at, zip_weaker}
use Rattle.go_snap_core.proofs.WholeWorkspaceMaking.{set_back, set_here}
use Rattle.go_snap_core.specs.make.Telling.{told_of}
use Rattle.go_snap_core.specs.make.mirrors.Telling.{AreTold, AreToldFor, AreToldOf, ArePlaces, IsToldAt, at_number, at_place, by_places, if_some}

-- in a list without parts there is none
pub nothing_at : (n : ℕ) (xs : List (Option PartModel)) (i : ℕ) (x : PartModel) → xs ≡ replicate n None → slice_get xs i ≡ Some (Some x) → ⊥
nothing_at n xs i x is h =
    let at : slice_get (replicate n None) i ≡ Some (Some x) = sym (ap (λ l. slice_get l i) is) ∙ h in
    let lt : i < n = omega (arith, slice_get_within _ i _ at, length-replicate {A = Option PartModel} n None) in
    let e : None ≡ Some x = sym (get_or-replicate n i None (Some x) lt) ∙ get_or_from_slice_get _ i (Some x) (Some x) at in
    cc

-- lists and their images

at_map : {A B : Type 0} (f : A → B) (xs : List A) (n : ℕ) (x : A) → slice_get xs n ≡ Some x → slice_get (map f xs) n ≡ Some (f x)
at_map f [] n x at = (let e : None ≡ Some x = at in absurd cc)
at_map f (y ∷ xs) zero x at = (let e : y ≡ x = (let s : Some y ≡ Some x = at in cc) in ap (λ z. Some (f z)) e)
at_map f (y ∷ xs) (suc n) x at = at_map f xs n x at

at_map_back : {A B : Type 0} (f : A → B) (xs : List A) (n : ℕ) (y : B) → slice_get (map f xs) n ≡ Some y → (x : A) × (slice_get xs n ≡ Some x) × (f x ≡ y)
at_map_back f [] n y at = (let e : None ≡ Some y = at in absurd cc)
at_map_back f (x ∷ xs) zero y at = (x, refl, (let s : Some (f x) ≡ Some y = at in cc))
at_map_back f (x ∷ xs) (suc n) y at = at_map_back f xs n y at

map_none : {A B : Type 0} (f : A → B) (n : ℕ) (x : A) → map f (replicate n x) ≡ replicate n (f x)
map_none f zero x = refl
map_none f (suc n) x = ap (λ l. f x ∷ l) (map_none f n x)

-- what stands in front stays with one more behind
at_front : {A : Type 0} (xs : List A) (y : A) (i : ℕ) → i < length xs → slice_get (xs ++ y ∷ []) i ≡ slice_get xs i
at_front [] y i lt = absurd (omega (arith, lt))
at_front (x ∷ xs) y zero lt = refl
at_front (x ∷ xs) y (suc i) lt = at_front xs y i (omega (arith, lt))

-- places

-- one number more
pub found_more : (places : List (Option ℕ)) (numbers found all : List ℕ) (i n : ℕ) → found ≡ filter_map (at_number places) (take i numbers) → i < length numbers → n ≡ get_or numbers i n → all ≡ found ++ cons_option (at_number places n) [] → all ≡ filter_map (at_number places) (take (i + 1) numbers)
found_more places numbers found all i n before lt is added =
    added ∙ (ap (λ l. l ++ cons_option (at_number places n) []) before ∙ (joined (take i numbers) n ∙ ap (filter_map (at_number places)) (sym (take_more numbers i n lt ∙ ap (λ m. take i numbers ++ m ∷ []) (sym is)))))
  where
    step : (o : Option ℕ) (xs ys : List ℕ) → cons_option o xs ++ ys ≡ cons_option o (xs ++ ys)
    step None xs ys = refl
    step (Some x) xs ys = refl

    joined : (xs : List ℕ) (m : ℕ) → filter_map (at_number places) xs ++ cons_option (at_number places m) [] ≡ filter_map (at_number places) (xs ++ m ∷ [])
    joined [] m = refl
    joined (x ∷ xs) m = step (at_number places x) (filter_map (at_number places) xs) (cons_option (at_number places m) []) ∙ ap (cons_option (at_number places x)) (joined xs m)

module _ (all : List SummaryModel) (places : List (Option ℕ)) where
  abbrev Below : ℕ → Type 0
  Below p = p < length all

  abbrev listing : List (Option SummaryModel)
  listing = by_places all places

  abbrev HasPlace : ℕ → Type 0
  HasPlace n = (s : SummaryModel) × IsToldAt listing n s

  place_there : (n p : ℕ) (o : Option (Option ℕ)) → slice_get places n ≡ o → if_some o ≡ Some p → slice_get places n ≡ Some (Some p)
  place_there n p None there e = (let no : None ≡ Some p = e in absurd cc)
  place_there n p (Some o) there e = (let is : o ≡ Some p = e in there ∙ ap Some is)

  below_one : ArePlaces all places → (n : ℕ) (rest : List ℕ) → All Below rest → (o : Option ℕ) → at_number places n ≡ o → All Below (cons_option o rest)
  below_one are n rest below None e = below
  below_one are n rest below (Some p) e = All-cons Below p rest (are n p (place_there n p (slice_get places n) refl e)) below

  found_within : ArePlaces all places → (numbers : List ℕ) → All Below (filter_map (at_number places) numbers)
  found_within are [] = λ k d lt. absurd (omega arith)
  found_within are (n ∷ numbers) = below_one are n (filter_map (at_number places) numbers) (found_within are numbers) (at_number places n) refl

  -- something stands at each place that is found
  pub found_below : ArePlaces all places → (numbers found : List ℕ) → found ≡ filter_map (at_number places) numbers → All (λ (p : ℕ). p < length all) found
  found_below are numbers found is = subst (All Below) (sym is) (found_within are numbers)

  place_is : (n : ℕ) (s : SummaryModel) (o : Option ℕ) → slice_get places n ≡ Some o → at_place all o ≡ Some s → (p : ℕ) × (slice_get places n ≡ Some (Some p)) × (slice_get all p ≡ Some s)
  place_is n s None there e = (let no : None ≡ Some s = e in absurd cc)
  place_is n s (Some p) there e = (p, there, e)

  -- where what a package tells stands
  told_place : (n : ℕ) (s : SummaryModel) → IsToldAt listing n s → (p : ℕ) × (slice_get places n ≡ Some (Some p)) × (slice_get all p ≡ Some s)
  told_place n s at = (let b = at_map_back (at_place all) places n (Some s) at in place_is n s b.0 b.1 b.2)

  found_zip : (numbers : List ℕ) (ss : List SummaryModel) → map Some ss ≡ map (slice_get all) (filter_map (at_number places) numbers) → All HasPlace numbers → AllZip (IsToldAt listing) numbers ss
  found_zip [] [] is have = tt
  found_zip [] (s ∷ ss) is have = absurd cc
  found_zip (n ∷ numbers) [] is have =
      let here = All-head HasPlace n numbers have in
      let p = told_place n here.0 here.1 in
      let rest = filter_map (at_number places) numbers in
      let e : [] ≡ slice_get all p.0 ∷ map (slice_get all) rest = is ∙ ap (λ (o : Option ℕ). map (slice_get all) (cons_option o rest)) (ap if_some p.1) in
      absurd cc
  found_zip (n ∷ numbers) (s ∷ ss) is have =
      let here = All-head HasPlace n numbers have in
      let p = told_place n here.0 here.1 in
      let rest = filter_map (at_number places) numbers in
      let e : Some s ∷ map Some ss ≡ slice_get all p.0 ∷ map (slice_get all) rest = is ∙ ap (λ (o : Option ℕ). map (slice_get all) (cons_option o rest)) (ap if_some p.1) in
      let first : Some s ≡ slice_get all p.0 = cc in
      let behind : map Some ss ≡ map (slice_get all) rest = cc in
      let same : here.0 ≡ s = (let f : Some here.0 ≡ Some s = sym p.2 ∙ sym first in cc) in
      (subst (IsToldAt listing n) same here.1, found_zip numbers ss behind (All-tail HasPlace n numbers have))

  -- what stands at the places that are found
  pub found_told : (numbers found : List ℕ) (ss : List SummaryModel) → found ≡ filter_map (at_number places) numbers → map Some ss ≡ map (slice_get all) found → AreTold (by_places all places) numbers → AllZip (IsToldAt (by_places all places)) numbers ss
  found_told numbers found ss is are have = found_zip numbers ss (are ∙ ap (map (slice_get all)) is) (λ k d lt. have (get_or numbers k d) (All-contains_itself numbers k d lt))

-- nothing is told
pub places_none : (all : List SummaryModel) (places : List (Option ℕ)) (count : ℕ) → places ≡ replicate count None → ArePlaces all places
places_none all places count is = λ n p at.
    let there : slice_get (replicate count None) n ≡ Some (Some p) = sym (ap (λ (l : List (Option ℕ)). slice_get l n) is) ∙ at in
    let lt : n < count = omega (arith, slice_get_within _ n _ there, length-replicate {A = Option ℕ} count None) in
    let e : None ≡ Some p = sym (get_or-replicate count n None (Some p) lt) ∙ get_or_from_slice_get _ n (Some p) (Some p) there in
    absurd cc

pub nothing_told : (all : List SummaryModel) (places : List (Option ℕ)) (count : ℕ) → places ≡ replicate count None → by_places all places ≡ replicate count None
nothing_told all places count is = ap (by_places all) is ∙ map_none (at_place all) count None

-- one more is told
module _ (all : List SummaryModel) (places : List (Option ℕ)) (are : ArePlaces all places) (n : ℕ) (s : SummaryModel) (lt : n < length places) where
  abbrev more : List SummaryModel
  more = all ++ s ∷ []

  abbrev set : List (Option ℕ)
  set = slice_set places n (Some (length all))

  one_same : (o : Option ℕ) → ((p : ℕ) → o ≡ Some p → p < length all) → at_place more o ≡ at_place all o
  one_same None below = refl
  one_same (Some p) below = at_front all s p (below p refl)

  all_same : (xs : List (Option ℕ)) → ArePlaces all xs → map (at_place more) xs ≡ map (at_place all) xs
  all_same [] below = refl
  all_same (x ∷ xs) below = ap₂ (λ (o : Option SummaryModel) (l : List (Option SummaryModel)). o ∷ l) (one_same x (λ p e. below 0 p (ap Some e))) (all_same xs (λ k p at. below (suc k) p at))

  place_below : (k p : ℕ) → slice_get set k ≡ Some (Some p) → (k ≡ n) ⊎ (k ≢ n) → p < length more
  place_below k p at (inl e) =
      let there : slice_get set n ≡ Some (Some p) = subst (λ (m : ℕ). slice_get set m ≡ Some (Some p)) e at in
      let same : length all ≡ p = (let f : Some (length all) ≡ Some p = one_at set n (Some (length all)) (Some p) (set_here places n (length all) lt) there in cc) in
      omega (arith, same, length-append all (s ∷ []))
  place_below k p at (inr ne) = (let old = are k p (set_back places n (length all) lt k ne (Some p) at) in omega (arith, old, length-append all (s ∷ [])))

  pub places_more : (all' : List SummaryModel) (places' : List (Option ℕ)) → all' ≡ all ++ s ∷ [] → places' ≡ slice_set places n (Some (length all)) → ArePlaces all' places'
  places_more all' places' a b =
      subst (λ (l : List SummaryModel). ArePlaces l places') (sym a) (subst (ArePlaces more) (sym b) (λ k p at. place_below k p at (cases_eq k n)))

  pub told_more : (all' : List SummaryModel) (places' : List (Option ℕ)) → all' ≡ all ++ s ∷ [] → places' ≡ slice_set places n (Some (length all)) → by_places all' places' ≡ slice_set (by_places all places) n (Some s)
  told_more all' places' a b =
      ap₂ by_places a b
      ∙ (map-set (at_place more) places n (Some (length all))
      ∙ (ap (λ (l : List (Option SummaryModel)). slice_set l n (at_place more (Some (length all)))) (all_same places are)
      ∙ ap (slice_set (by_places all places) n) (slice_get_here all s)))

-- what parts tell
module _ (parts : List (Option PartModel)) (told : List (Option SummaryModel)) (are : told ≡ told_of parts) where
  abbrev summary_in : Option PartModel → Option SummaryModel
  summary_in = option_map (λ (p : PartModel). p.content.summary)

  told_at : (m : ℕ) (s : SummaryModel) → Tells parts m s → IsToldAt told m s
  told_at m s t = ap (λ (l : List (Option SummaryModel)). slice_get l m) are ∙ (at_map summary_in parts m (Some t.of_part) t.there ∙ ap (λ (x : SummaryModel). Some (Some x)) (sym t.is))

  part_tells : (m : ℕ) (s : SummaryModel) (o : Option PartModel) → slice_get parts m ≡ Some o → summary_in o ≡ Some s → Tells parts m s
  part_tells m s None there e = (let no : None ≡ Some s = e in absurd cc)
  part_tells m s (Some p) there e = (let same : p.content.summary ≡ s = (let f : Some p.content.summary ≡ Some s = e in cc) in record { of_part = p; there = there; is = sym same })

  tells_at : (m : ℕ) (s : SummaryModel) → IsToldAt told m s → Tells parts m s
  tells_at m s at = (let b = at_map_back summary_in parts m (Some s) (sym (ap (λ (l : List (Option SummaryModel)). slice_get l m) are) ∙ at) in part_tells m s b.0 b.1 b.2)

  -- each that is reached is told of
  pub told_for : (sets : List Numbers) (n : ℕ) → AreReachedAt sets parts n → AreToldFor sets told n
  told_for sets n reached = record {
    set = reached.set;
    there = reached.there;
    have = λ m inside. (let t = reached.have m inside in (t.0, told_at m t.0 t.1));
  }

  -- what is told of the packages of a set is what they tell
  pub told_by_set : (sets : List Numbers) (n : ℕ) (ss : List SummaryModel) → AreToldOf sets told n ss → AreToldBySet sets parts n ss
  told_by_set sets n ss of = record { set = of.set; there = of.there; rising = of.rising; told = zip_weaker (IsToldAt told) (Tells parts) of.set.members ss (λ m s among at. tells_at m s at) of.all }

-- where there is no part nothing is told
pub told_none : (count : ℕ) (parts : List (Option PartModel)) (told : List (Option SummaryModel)) → parts ≡ replicate count None → told ≡ replicate count None → told ≡ told_of parts
told_none count parts told is none = none ∙ (sym (map_none (option_map (λ (p : PartModel). p.content.summary)) count None) ∙ ap told_of (sym is))

-- a part more, and what it tells
pub told_put : (parts : List (Option PartModel)) (told told' : List (Option SummaryModel)) (n : ℕ) (part : PartModel) → told ≡ told_of parts → told' ≡ slice_set told n (Some part.content.summary) → told' ≡ told_of (slice_set parts n (Some part))
told_put parts told told' n part are set =
    set ∙ (ap (λ (l : List (Option SummaryModel)). slice_set l n (Some part.content.summary)) are ∙ sym (map-set (option_map (λ (p : PartModel). p.content.summary)) parts n (Some part)))
