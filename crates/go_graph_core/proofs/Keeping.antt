-- What a put and a replacement keep of packages, and what look-ups find after them.
use Rattle.std.proofs.Common.{◌≡◌, ◌≢◌, ℕ, zero, suc, ◌<◌, inl, inr, Bool, true, false, not, cond, List, [], ◌∷◌, length, get_or, All, Option, Some, None, Result, Ok, Err, refl, sym, ◌∙◌, ap, subst, arith}
use Rattle.std.specs.List.{AllByRecursion, filter}
use Rattle.std.specs.List.Sorted.{IsStrictlySortedBy, IsPermutation}
use Rattle.std.specs.Ordering.{match_ordering, is_eq}
use Rattle.std.specs.Cmp.{both_ways}
use Rattle.std.specs.declared.cmp.Ordering.{Ordering}
use Rattle.std.specs.declared.cmp.Ordering.TheVariants.{Less, Equal, Greater}
use Rattle.std.specs.Result.{OnErr}
use Rattle.std.specs.BTreeMap.{insert_entry, is_at}
use Rattle.std.specs.Map.{keys_of, remove_entry}
use Rattle.std.proofs.lemmas.Cmp.{nat_list_cmp_total, eq_by_cmp_equiv}
use Rattle.std.proofs.lemmas.List.Elements.{All-cons, All-head, All-tail}
use Rattle.std.proofs.lemmas.List.Sorted.{length_permutation}
use Rattle.std.proofs.lemmas.Map.{lookup-remove_entry}
use Rattle.std.proofs.lemmas.Map.Entries.{lookup-filter-keys}
use Rattle.std.proofs.lemmas.Map.Keys.{sorted_head, sorted_tail, IsDistinct-from_sorted}
use Rattle.std.proofs.lemmas.Map.Text.{is_eq-slice_cmp}
use Rattle.std.proofs.lemmas.Slice.Eq.{bytes_eq-Decides}
use Rattle.std.specs.declared.string.String.{String}
use lib.Dec.{eqb}
use Rattle.go_collections_core.specs.text_core.Each.{true_or_false}
use Rattle.go_path_core.specs.Path.{elements, IsPath, IsPrefix}
use Rattle.go_path_core.proofs.Paths.{begins_is}
use Rattle.go_graph_core.specs.Sources.{SourceModel}
use Rattle.go_graph_core.specs.Workspaces.{PackageModel, by_bytes, files_at, IsWorkspace, IsReadWorkspace, IsPackage, AreAllRead, AreReadFrom, given_files, texts_of_files, Puts, is_path_inside, packages_inside, packages_outside, put_all, replaced, Replaces}
use Rattle.go_graph_core.proofs.Contents.{placed_content}
use Rattle.go_graph_core.proofs.Places.{IsOrdered, turned, equal_texts, same_text}

-- keys

module _ (P : List ℕ → Type 0) where
  keys_insert : (ps : List PackageModel) (q : List ℕ) (v : List SourceModel) → AllByRecursion P (keys_of ps) → P q → AllByRecursion P (keys_of (insert_entry by_bytes ps q v))
  keys_insert [] q v all h = (h, tt)
  keys_insert (p ∷ ps) q v all h = step (by_bytes q p.0) (keys_insert ps q v all.1 h)
    where
      step : (o : Ordering) → AllByRecursion P (keys_of (insert_entry by_bytes ps q v)) → AllByRecursion P (keys_of (match_ordering o ((q, v) ∷ p ∷ ps) ((p.0, v) ∷ ps) (p ∷ insert_entry by_bytes ps q v)))
      step Less rest = (h, all)
      step Equal rest = all
      step Greater rest = (all.0, rest)

  keys_remove : (t : List ℕ → Bool) (ps : List PackageModel) → AllByRecursion P (keys_of ps) → AllByRecursion P (keys_of (remove_entry t ps))
  keys_remove t [] all = tt
  keys_remove t (p ∷ ps) all = step (t p.0) (keys_remove t ps all.1)
    where
      step : (b : Bool) → AllByRecursion P (keys_of (remove_entry t ps)) → AllByRecursion P (keys_of (cond b ps (p ∷ remove_entry t ps)))
      step true rest = all.1
      step false rest = (all.0, rest)

  keys_filter : (t : PackageModel → Bool) (ps : List PackageModel) → AllByRecursion P (keys_of ps) → AllByRecursion P (keys_of (filter t ps))
  keys_filter t [] all = tt
  keys_filter t (p ∷ ps) all = step (t p) (keys_filter t ps all.1)
    where
      step : (b : Bool) → AllByRecursion P (keys_of (filter t ps)) → AllByRecursion P (keys_of (cond b (p ∷ filter t ps) (filter t ps)))
      step true rest = (all.0, rest)
      step false rest = rest

-- a path below the first is below the others
below_all : (q k : List ℕ) (ks : List (List ℕ)) → by_bytes q k ≡ Less → AllByRecursion (λ y. by_bytes k y ≡ Less) ks → AllByRecursion (λ y. by_bytes q y ≡ Less) ks
below_all q k [] low all = tt
below_all q k (y ∷ ks) low all = (nat_list_cmp_total.trans q k y low all.0, below_all q k ks low all.1)

-- the order is kept

pub ordered_insert : (ps : List PackageModel) (q : List ℕ) (v : List SourceModel) → IsOrdered ps → IsOrdered (insert_entry by_bytes ps q v)
unfolding IsStrictlySortedBy
ordered_insert [] q v ordered = (tt, tt)
ordered_insert (p ∷ ps) q v ordered = step (by_bytes q p.0) refl (ordered_insert ps q v ordered.1)
  where
    step : (o : Ordering) → by_bytes q p.0 ≡ o → IsOrdered (insert_entry by_bytes ps q v) → IsOrdered (match_ordering o ((q, v) ∷ p ∷ ps) ((p.0, v) ∷ ps) (p ∷ insert_entry by_bytes ps q v))
    step Less e rest = ((e, below_all q p.0 (keys_of ps) e ordered.0), ordered)
    step Equal e rest = ordered
    step Greater e rest = (keys_insert (λ y. by_bytes p.0 y ≡ Less) ps q v ordered.0 (turned q p.0 Greater e), rest)

pub ordered_remove : (t : List ℕ → Bool) (ps : List PackageModel) → IsOrdered ps → IsOrdered (remove_entry t ps)
unfolding IsStrictlySortedBy
ordered_remove t [] ordered = tt
ordered_remove t (p ∷ ps) ordered = step (t p.0) (ordered_remove t ps ordered.1)
  where
    step : (b : Bool) → IsOrdered (remove_entry t ps) → IsOrdered (cond b ps (p ∷ remove_entry t ps))
    step true rest = ordered.1
    step false rest = (keys_remove (λ y. by_bytes p.0 y ≡ Less) t ps ordered.0, rest)

pub ordered_filter : (t : PackageModel → Bool) (ps : List PackageModel) → IsOrdered ps → IsOrdered (filter t ps)
unfolding IsStrictlySortedBy
ordered_filter t [] ordered = tt
ordered_filter t (p ∷ ps) ordered = step (t p) (ordered_filter t ps ordered.1)
  where
    step : (b : Bool) → IsOrdered (filter t ps) → IsOrdered (cond b (p ∷ filter t ps) (filter t ps))
    step true rest = (keys_filter (λ y. by_bytes p.0 y ≡ Less) t ps ordered.0, rest)
    step false rest = rest

pub ordered_all : (base ps : List PackageModel) → IsOrdered base → IsOrdered (put_all base ps)
ordered_all base [] ordered = ordered
ordered_all base (p ∷ ps) ordered = ordered_all (insert_entry by_bytes base p.0 p.1) ps (ordered_insert base p.0 p.1 ordered)

-- what holds of each package is kept

module _ (P : PackageModel → Type 0) where
  none_all : All P []
  none_all k d lt = absurd (omega arith)

  pub all_insert : (ps : List PackageModel) (q : List ℕ) (v : List SourceModel) → All P ps → P (q, v) → All P (insert_entry by_bytes ps q v)
  all_insert [] q v all h = All-cons P (q, v) [] h none_all
  all_insert (p ∷ ps) q v all h = step (by_bytes q p.0) refl (all_insert ps q v (All-tail P p ps all) h)
    where
      step : (o : Ordering) → by_bytes q p.0 ≡ o → All P (insert_entry by_bytes ps q v) → All P (match_ordering o ((q, v) ∷ p ∷ ps) ((p.0, v) ∷ ps) (p ∷ insert_entry by_bytes ps q v))
      step Less e rest = All-cons P (q, v) (p ∷ ps) h all
      step Equal e rest = All-cons P (p.0, v) ps (subst (λ k. P (k, v)) (equal_texts q p.0 e) h) (All-tail P p ps all)
      step Greater e rest = All-cons P p (insert_entry by_bytes ps q v) (All-head P p ps all) rest

  pub all_remove : (t : List ℕ → Bool) (ps : List PackageModel) → All P ps → All P (remove_entry t ps)
  all_remove t [] all = none_all
  all_remove t (p ∷ ps) all = step (t p.0) (all_remove t ps (All-tail P p ps all))
    where
      step : (b : Bool) → All P (remove_entry t ps) → All P (cond b ps (p ∷ remove_entry t ps))
      step true rest = All-tail P p ps all
      step false rest = All-cons P p (remove_entry t ps) (All-head P p ps all) rest

  pub all_filter : (t : PackageModel → Bool) (ps : List PackageModel) → All P ps → All P (filter t ps)
  all_filter t [] all = none_all
  all_filter t (p ∷ ps) all = step (t p) (all_filter t ps (All-tail P p ps all))
    where
      step : (b : Bool) → All P (filter t ps) → All P (cond b (p ∷ filter t ps) (filter t ps))
      step true rest = All-cons P p (filter t ps) (All-head P p ps all) rest
      step false rest = rest

  pub all_all : (base ps : List PackageModel) → All P base → All P ps → All P (put_all base ps)
  all_all base [] old new = old
  all_all base (p ∷ ps) old new = all_all (insert_entry by_bytes base p.0 p.1) ps (all_insert base p.0 p.1 old (All-head P p ps new)) (All-tail P p ps new)

pub well_put : (ps : List PackageModel) (q : List ℕ) (v : List SourceModel) → IsWorkspace ps → IsPackage (q, v) → IsWorkspace (insert_entry by_bytes ps q v)
well_put ps q v well h = record { order = ordered_insert ps q v well.order; packages = all_insert IsPackage ps q v well.packages h }

pub well_removed : (t : List ℕ → Bool) (ps : List PackageModel) → IsWorkspace ps → IsWorkspace (remove_entry t ps)
well_removed t ps well = record { order = ordered_remove t ps well.order; packages = all_remove IsPackage t ps well.packages }

pub well_replaced : (own : List ℕ) (old from : List PackageModel) → IsWorkspace old → IsWorkspace from → IsWorkspace (replaced own old from)
well_replaced own old from one other = record {
  order = ordered_all (packages_outside own old) (packages_inside own from) (ordered_filter _ old one.order);
  packages = all_all IsPackage (packages_outside own old) (packages_inside own from) (all_filter IsPackage _ old one.packages) (all_filter IsPackage _ from other.packages);
}

-- the same of workspaces that are read
pub read_put : (ps : List PackageModel) (q : List ℕ) (v : List SourceModel) → IsReadWorkspace ps → IsPackage (q, v) → AreAllRead (q, v) → IsReadWorkspace (insert_entry by_bytes ps q v)
read_put ps q v is h read = record { well = well_put ps q v is.well h; read = all_insert AreAllRead ps q v is.read read }

pub read_removed : (t : List ℕ → Bool) (ps : List PackageModel) → IsReadWorkspace ps → IsReadWorkspace (remove_entry t ps)
read_removed t ps is = record { well = well_removed t ps is.well; read = all_remove AreAllRead t ps is.read }

pub read_replaced : (own : List ℕ) (old from : List PackageModel) → IsReadWorkspace old → IsReadWorkspace from → IsReadWorkspace (replaced own old from)
read_replaced own old from one other = record {
  well = well_replaced own old from one.well other.well;
  read = all_all AreAllRead (packages_outside own old) (packages_inside own from) (all_filter AreAllRead _ old one.read) (all_filter AreAllRead _ from other.read);
}

-- what holds holds of an error
pub on_err : {T E P : Type 0} (r : Result T E) → P → OnErr r P
on_err (Ok x) p = tt
on_err (Err e) p = p

-- a list of which a package passes keeps some
pub some_kept : (t : PackageModel → Bool) (ps : List PackageModel) (i : ℕ) (x : PackageModel) → i < length ps → x ≡ get_or ps i x → t x ≡ true → 0 < length (filter t ps)
some_kept t [] i x lt at held = absurd (omega (arith, lt))
some_kept t (p ∷ ps) zero x lt at held = step (t p) (ap t (sym at) ∙ held)
  where
    step : (b : Bool) → b ≡ true → 0 < length (cond b (p ∷ filter t ps) (filter t ps))
    step true e = omega arith
    step false e = cc
some_kept t (p ∷ ps) (suc i) x lt at held = step (t p) (some_kept t ps i x (omega (arith, lt)) at held)
  where
    step : (b : Bool) → 0 < length (filter t ps) → 0 < length (cond b (p ∷ filter t ps) (filter t ps))
    step true some = omega arith
    step false some = some

-- look-ups

abbrev pub here_or : {X : Type 0} → Option X → Option X → Option X
here_or None o = o
here_or (Some x) o = Some x

is_same : (a b : List ℕ) → is_at (by_bytes a) b ≡ true → a ≡ b
is_same a b h = (bytes_eq-Decides a b).0 (sym (is_eq-slice_cmp a b) ∙ h)

is_not : (a b : List ℕ) → a ≢ b → is_at (by_bytes a) b ≡ false
is_not a b other = elim (true_or_false (is_at (by_bytes a) b)) [
  | inl y ↦ absurd (other (is_same a b y))
  | inr n ↦ n
]

pub found_put : (ps : List PackageModel) (q : List ℕ) (v : List SourceModel) (a : List ℕ) → files_at (insert_entry by_bytes ps q v) a ≡ cond (is_at (by_bytes a) q) (Some v) (files_at ps a)
found_put [] q v a = refl
found_put (p ∷ ps) q v a = step (by_bytes q p.0) refl (found_put ps q v a)
  where
    apart : (s t : Bool) (x y : List SourceModel) (o : Option (List SourceModel)) → (s ≡ true → t ≡ true → ⊥) → cond s (Some x) (cond t (Some y) o) ≡ cond t (Some y) (cond s (Some x) o)
    apart true true x y o never = absurd (never refl refl)
    apart true false x y o never = refl
    apart false true x y o never = refl
    apart false false x y o never = refl

    over : (s : Bool) (x y : List SourceModel) (o : Option (List SourceModel)) → cond s (Some x) o ≡ cond s (Some x) (cond s (Some y) o)
    over true x y o = refl
    over false x y o = refl

    step : (o : Ordering) → by_bytes q p.0 ≡ o → files_at (insert_entry by_bytes ps q v) a ≡ cond (is_at (by_bytes a) q) (Some v) (files_at ps a) → files_at (match_ordering o ((q, v) ∷ p ∷ ps) ((p.0, v) ∷ ps) (p ∷ insert_entry by_bytes ps q v)) a ≡ cond (is_at (by_bytes a) q) (Some v) (files_at (p ∷ ps) a)
    step Less e rest = refl
    step Equal e rest =
        over (is_at (by_bytes a) p.0) v p.1 (files_at ps a)
        ∙ ap (λ k. cond (is_at (by_bytes a) k) (Some v) (files_at (p ∷ ps) a)) (sym (equal_texts q p.0 e))
    step Greater e rest =
        ap (λ o. cond (is_at (by_bytes a) p.0) (Some p.1) o) rest
        ∙ sym (apart (is_at (by_bytes a) q) (is_at (by_bytes a) p.0) v p.1 (files_at ps a) (λ s t. let same : q ≡ p.0 = sym (is_same a q s) ∙ is_same a p.0 t in let o : Greater ≡ Equal = sym e ∙ (ap (λ k. by_bytes q k) (sym same) ∙ same_text q) in cc))

pub found_removed : (ps : List PackageModel) (q a : List ℕ) → IsOrdered ps → files_at (remove_entry (is_at (by_bytes q)) ps) a ≡ cond (is_at (by_bytes q) a) None (files_at ps a)
found_removed ps q a ordered =
    lookup-remove_entry (eq_by_cmp_equiv nat_list_cmp_total) (is_at (by_bytes q)) (λ x y h. ap is_eq (nat_list_cmp_total.congr q x y (equal_order x h))) a ps (IsDistinct-from_sorted by_bytes (keys_of ps) ordered)
  where
    equal_order : (x : List ℕ) → is_at (by_bytes q) x ≡ true → by_bytes q x ≡ Equal
    equal_order x h = ap (λ k. by_bytes q k) (sym (is_same q x h)) ∙ same_text q

pub found_inside : (own a : List ℕ) (ps : List PackageModel) → files_at (packages_inside own ps) a ≡ cond (is_path_inside own a) (files_at ps a) None
found_inside own a ps = lookup-filter-keys (is_at (by_bytes a)) (is_path_inside own) (is_path_inside own a) (λ k h. ap (is_path_inside own) (sym (is_same a k h))) ps

pub found_outside : (own a : List ℕ) (ps : List PackageModel) → files_at (packages_outside own ps) a ≡ cond (not (is_path_inside own a)) (files_at ps a) None
found_outside own a ps = lookup-filter-keys (is_at (by_bytes a)) (λ k. not (is_path_inside own k)) (not (is_path_inside own a)) (λ k h. ap (λ x. not (is_path_inside own x)) (sym (is_same a k h))) ps

-- no path of those behind the first is the first
none_behind : (p : PackageModel) (ps : List PackageModel) (a : List ℕ) → IsOrdered (p ∷ ps) → a ≡ p.0 → files_at ps a ≡ None
none_behind p ps a ordered same = go ps (sorted_head by_bytes p.0 (keys_of ps) ordered)
  where
    go : (qs : List PackageModel) → AllByRecursion (λ y. by_bytes p.0 y ≡ Less) (keys_of qs) → files_at qs a ≡ None
    go [] all = refl
    go (x ∷ xs) all = ap (λ o. cond (is_eq o) (Some x.1) (files_at xs a)) (ap (λ k. by_bytes k x.0) same ∙ all.0) ∙ go xs all.1

pub found_all : (base ps : List PackageModel) (a : List ℕ) → IsOrdered ps → files_at (put_all base ps) a ≡ here_or (files_at ps a) (files_at base a)
found_all base [] a ordered = refl
found_all base (p ∷ ps) a ordered =
    found_all (insert_entry by_bytes base p.0 p.1) ps a (sorted_tail by_bytes p.0 (keys_of ps) ordered)
    ∙ (ap (here_or (files_at ps a)) (found_put base p.0 p.1 a)
    ∙ step (is_at (by_bytes a) p.0) refl)
  where
    step : (b : Bool) → is_at (by_bytes a) p.0 ≡ b → here_or (files_at ps a) (cond b (Some p.1) (files_at base a)) ≡ here_or (cond b (Some p.1) (files_at ps a)) (files_at base a)
    step true e = ap (λ o. here_or o (Some p.1)) (none_behind p ps a ordered (is_same a p.0 e))
    step false e = refl

-- prefixes

pub tests_inside : (own path : List ℕ) (b : Bool) → (b ≡ true → IsPrefix (elements own) (elements path)) → (IsPrefix (elements own) (elements path) → b ≡ true) → b ≡ is_path_inside own path
tests_inside own path b to from = both_ways b (is_path_inside own path) (λ h. (begins_is (elements own) (elements path)).1 (to h)) (λ h. from ((begins_is (elements own) (elements path)).0 h))

-- what put and replace say

pub put_nothing : (old : List PackageModel) (path : List ℕ) (given : List (List ℕ × List ℕ)) (new : List PackageModel) → IsOrdered old → given ≡ [] → new ≡ remove_entry (is_at (by_bytes path)) old → Puts old path given new
unfolding IsStrictlySortedBy
put_nothing old path given new ordered none e = record {
  files = [];
  read = record { order = tt; same = subst (λ l. IsPermutation l []) (sym none) (record { moves = []; below = tt; is = refl }); contents = λ k d lt. absurd (omega arith) };
  packages = e;
  here = ap (λ l. files_at l path) e ∙ (found_removed old path path ordered ∙ ap (λ o. cond (is_eq o) None (files_at old path)) (same_text path));
  others = λ q other. ap (λ l. files_at l q) e ∙ (found_removed old path q ordered ∙ ap (λ b. cond b None (files_at old q)) (is_not path q (λ h. other (sym h))));
}

pub put_some : (old : List PackageModel) (path : List ℕ) (given : List (List ℕ × List ℕ)) (new : List PackageModel) (fs : List SourceModel) → AreReadFrom given fs → 0 < length fs → new ≡ insert_entry by_bytes old path fs → Puts old path given new
put_some old path given new [] read some e = absurd (omega arith)
put_some old path given new (f ∷ fs) read some e = record {
  files = f ∷ fs;
  read = read;
  packages = e;
  here = ap (λ l. files_at l path) e ∙ (found_put old path (f ∷ fs) path ∙ ap (λ o. cond (is_eq o) (Some (f ∷ fs)) (files_at old path)) (same_text path));
  others = λ q other. ap (λ l. files_at l q) e ∙ (found_put old path (f ∷ fs) q ∙ ap (λ b. cond b (Some (f ∷ fs)) (files_at old q)) (is_not q path other));
}

pub replaces : (own : List ℕ) (old from new : List PackageModel) → IsOrdered from → new ≡ replaced own old from → Replaces own old from new
replaces own old from new ordered e = record {
  packages = e;
  here = λ path pre. let test : is_path_inside own path ≡ true = (begins_is (elements own) (elements path)).1 pre in found path true test;
  others = λ path never. found path false (elim (true_or_false (is_path_inside own path)) [
    | inl y ↦ absurd (never ((begins_is (elements own) (elements path)).0 y))
    | inr n ↦ n
  ]);
}
  where
    settled : (b : Bool) (one other : Option (List SourceModel)) → here_or (cond b one None) (cond (not b) other None) ≡ cond b one other
    settled true None other = refl
    settled true (Some v) other = refl
    settled false one other = refl

    found : (path : List ℕ) (b : Bool) → is_path_inside own path ≡ b → files_at new path ≡ cond b (files_at from path) (files_at old path)
    found path b test =
        ap (λ l. files_at l path) e
        ∙ (found_all (packages_outside own old) (packages_inside own from) path (ordered_filter _ from ordered)
        ∙ ((λ i. here_or (found_inside own path from i) (found_outside own path old i))
        ∙ (settled (is_path_inside own path) (files_at from path) (files_at old path)
        ∙ ap (λ t. cond t (files_at from path) (files_at old path)) test)))

-- as many files as are given
pub some_read : (given : List (List ℕ × List ℕ)) (fs : List SourceModel) → AreReadFrom given fs → 0 < length given → 0 < length fs
some_read given [] read some = (let n = length_permutation given [] read.same in absurd (omega arith))
some_read given (f ∷ fs) read some = omega arith

-- one package of those that are put in turn
pub put_one : (now new : List PackageModel) (p : PackageModel) (rest all target : List PackageModel) → all ≡ p ∷ rest → new ≡ insert_entry by_bytes now p.0 p.1 → put_all now all ≡ target → put_all new rest ≡ target
put_one now new p rest all target are e h = ap (λ l. put_all l rest) e ∙ (sym (ap (put_all now) are) ∙ h)

-- no files are given where none are counted
pub none_given : {Y Z : Type 0} (files : List (String Y × String Z)) → length files ≡ 0 → given_files files ≡ []
none_given [] h = refl
none_given (f ∷ fs) h = absurd (omega arith)

pub as_many_given : {Y Z : Type 0} (files : List (String Y × String Z)) → length (given_files files) ≡ length files
as_many_given [] = refl
as_many_given (f ∷ fs) = ap suc (as_many_given fs)

-- no texts where no files are counted
pub no_texts : (fs : List SourceModel) → length fs ≡ 0 → texts_of_files fs ≡ []
no_texts [] h = refl
no_texts (f ∷ fs) h = absurd (omega (arith, h))

pub as_many_texts : (fs : List SourceModel) → length (texts_of_files fs) ≡ length fs
as_many_texts [] = refl
as_many_texts (f ∷ fs) = ap suc (as_many_texts fs)

-- a package of files that are read
pub read_package : (path : List ℕ) (given : List (List ℕ × List ℕ)) (fs : List SourceModel) → IsPath path → AreReadFrom given fs → 0 < length given → IsPackage (path, fs)
read_package path given fs well read some = record { path = well; some = some_read given fs read some; order = read.order; contents = λ k d lt. placed_content (get_or fs k d).text (get_or fs k d).content (read.contents k d lt) }

pub positive : (n : ℕ) → eqb n 0 ≡ false → 0 < n
positive zero h = cc
positive (suc n) h = omega arith
