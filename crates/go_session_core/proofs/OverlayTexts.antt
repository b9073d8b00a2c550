-- The names and texts of the files of a package with one of them set or left out.
use Rattle.std.proofs.Common.{◌≡◌, ◌⊎◌, inl, inr, ⊎_elim, ℕ, ◌+◌, ◌<◌, Bool, true, false, not, cond, List, [], ◌∷◌, ◌++◌, length, take, get_or, All, Option, Some, None, refl, sym, ap, ◌∙◌, subst, append-nil, arith}
use Rattle.std.specs.List.{AllByRecursion, IsDistinct, filter}
use Rattle.std.specs.List.Sorted.{IsStrictlySortedBy}
use Rattle.std.specs.BTreeMap.{is_at}
use Rattle.std.specs.Map.{keys_of}
use Rattle.std.specs.Ordering.{is_eq}
use Rattle.std.specs.Str.{bytes_eq}
use Rattle.std.specs.declared.cmp.Ordering.TheVariants.{Less}
use Rattle.std.proofs.lemmas.List.{take_more}
use Rattle.std.proofs.lemmas.List.Elements.{All-filter, All-head, All-tail, filter-append}
use Rattle.std.proofs.lemmas.Map.Keys.{IsDistinct-cons, sorted_head, sorted_tail}
use Rattle.std.proofs.lemmas.Map.Text.{is_eq-slice_cmp}
use Rattle.go_graph_core.specs.Sources.{IsRead, SourceModel}
use Rattle.go_graph_core.specs.Workspaces.{AreAllRead, HaveDistinctNames, PackageModel, Puts, by_bytes, files_at, is_path_inside, names_of_files, texts_of_files}
use Rattle.go_path_core.specs.text_core.declared.rule.Rule.{Rule}
use Rattle.go_path_core.specs.text_core.declared.rule.Rule.TheVariants.{M0}
use Rattle.go_board_core.specs.submit_core.Trees.{TreeModel, is_file_name, tree_rule}
use Rattle.go_session_core.specs.overlay.Edits.{IsEditRefusal, IsEdited, edited_texts, files_or_none, other_files, text_there}

-- one more file of a package is looked at

others_more : (name : List ℕ) (fs : List SourceModel) (i : ℕ) (x : SourceModel) → i < length fs → other_files name (take (i + 1) fs) ≡ other_files name (take i fs) ++ cond (not (bytes_eq (get_or fs i x).name name)) (get_or fs i x ∷ []) []
others_more name fs i x within = ap (other_files name) (take_more fs i x within) ∙ filter-append (λ (f : SourceModel). not (bytes_eq f.name name)) (take i fs) (get_or fs i x ∷ [])

pub others_here : (name : List ℕ) (fs : List SourceModel) (i : ℕ) (x y : SourceModel) (others new : List SourceModel) → i < length fs → x ≡ get_or fs i x → bytes_eq x.name name ≡ false → y ≡ x → new ≡ others ++ y ∷ [] → others ≡ other_files name (take i fs) → new ≡ other_files name (take (i + 1) fs)
others_here name fs i x y others new within at apart shared more before =
    more
    ∙ (λ j. before j ++ shared j ∷ [])
    ∙ sym (others_more name fs i x within ∙ ap (λ (z : SourceModel). other_files name (take i fs) ++ cond (not (bytes_eq z.name name)) (z ∷ []) []) (sym at) ∙ ap (λ b. other_files name (take i fs) ++ cond (not b) (x ∷ []) []) apart)

pub others_past : (name : List ℕ) (fs : List SourceModel) (i : ℕ) (x : SourceModel) (others : List SourceModel) → i < length fs → x ≡ get_or fs i x → bytes_eq x.name name ≡ true → others ≡ other_files name (take i fs) → others ≡ other_files name (take (i + 1) fs)
others_past name fs i x others within at same before =
    before
    ∙ sym (others_more name fs i x within ∙ ap (λ (z : SourceModel). other_files name (take i fs) ++ cond (not (bytes_eq z.name name)) (z ∷ []) []) (sym at) ∙ ap (λ b. other_files name (take i fs) ++ cond (not b) (x ∷ []) []) same ∙ append-nil (other_files name (take i fs)))

-- where each file of a workspace is read, the files of a package are, and so are those of them that are not of a name

none_read : All IsRead []
none_read k d lt = absurd (omega arith)

files_read : (ps : List PackageModel) (path : List ℕ) → All AreAllRead ps → All IsRead (files_or_none (files_at ps path))
files_read [] path all = none_read
files_read (p ∷ ps) path all = step (is_at (by_bytes path) p.0) (files_read ps path (All-tail AreAllRead p ps all))
  where
    step : (b : Bool) → All IsRead (files_or_none (files_at ps path)) → All IsRead (files_or_none (cond b (Some p.1) (files_at ps path)))
    step true rest = All-head AreAllRead p ps all
    step false rest = rest

pub left_read : (ps : List PackageModel) (path name : List ℕ) (left : List SourceModel) → All AreAllRead ps → left ≡ other_files name (files_or_none (files_at ps path)) → All IsRead left
left_read ps path name left read is =
    subst (All IsRead) (sym is) (All-filter (λ (f : SourceModel). not (bytes_eq f.name name)) IsRead (files_or_none (files_at ps path)) (files_read ps path read))

-- the names differ

all_others : (P : List ℕ → Type 0) (name : List ℕ) (fs : List SourceModel) (rest : List (List ℕ × List ℕ)) → AllByRecursion P (names_of_files fs) → AllByRecursion P (keys_of rest) → AllByRecursion P (keys_of (texts_of_files (other_files name fs) ++ rest))
all_others P name [] rest all last = last
all_others P name (f ∷ fs) rest all last = step (bytes_eq f.name name) (all_others P name fs rest all.1 last)
  where
    step : (b : Bool) → AllByRecursion P (keys_of (texts_of_files (other_files name fs) ++ rest)) → AllByRecursion P (keys_of (texts_of_files (cond (not b) (f ∷ other_files name fs) (other_files name fs)) ++ rest))
    step true others = others
    step false others = (all.0, others)

below_apart : (k : List ℕ) (ks : List (List ℕ)) → AllByRecursion (λ y. by_bytes k y ≡ Less) ks → AllByRecursion (λ y. bytes_eq k y ≡ false) ks
below_apart k [] all = tt
below_apart k (y ∷ ys) all = (sym (is_eq-slice_cmp k y) ∙ ap is_eq all.0, below_apart k ys all.1)

apart_there : (k name : List ℕ) (text : Option (List ℕ)) → bytes_eq k name ≡ false → AllByRecursion (λ y. bytes_eq k y ≡ false) (keys_of (text_there name text))
apart_there k name None apart = tt
apart_there k name (Some t) apart = (apart, tt)

one_name : (name : List ℕ) (text : Option (List ℕ)) → IsDistinct bytes_eq (keys_of (text_there name text))
unfolding IsDistinct
one_name name None = tt
one_name name (Some t) = (tt, tt)

distinct_texts : (name : List ℕ) (fs : List SourceModel) (text : Option (List ℕ)) → IsStrictlySortedBy by_bytes (names_of_files fs) → IsDistinct bytes_eq (keys_of (edited_texts fs name text))
distinct_texts name [] text sorted = one_name name text
distinct_texts name (f ∷ fs) text sorted = step (bytes_eq f.name name) refl (distinct_texts name fs text (sorted_tail by_bytes f.name (names_of_files fs) sorted))
  where
    step : (b : Bool) → bytes_eq f.name name ≡ b → IsDistinct bytes_eq (keys_of (edited_texts fs name text)) → IsDistinct bytes_eq (keys_of (texts_of_files (cond (not b) (f ∷ other_files name fs) (other_files name fs)) ++ text_there name text))
    step true e rest = rest
    step false e rest = IsDistinct-cons bytes_eq f.name (keys_of (edited_texts fs name text)) (all_others (λ y. bytes_eq f.name y ≡ false) name fs (text_there name text) (below_apart f.name (names_of_files fs) (sorted_head by_bytes f.name (names_of_files fs) sorted)) (apart_there f.name name text e)) rest

pub texts_are : (name : List ℕ) (fs : List SourceModel) (text : Option (List ℕ)) (old new : List (List ℕ × List ℕ)) → old ≡ texts_of_files (other_files name fs) → new ≡ old ++ text_there name text → new ≡ edited_texts fs name text
texts_are name fs text old new is more = more ∙ ap (λ l. l ++ text_there name text) is

pub distinct_edited : (name : List ℕ) (fs : List SourceModel) (text : Option (List ℕ)) (old new : List (List ℕ × List ℕ)) → IsStrictlySortedBy by_bytes (names_of_files fs) → old ≡ texts_of_files (other_files name fs) → new ≡ old ++ text_there name text → HaveDistinctNames new
distinct_edited name fs text old new sorted is more = subst HaveDistinctNames (sym (texts_are name fs text old new is more)) (distinct_texts name fs text sorted)

none_sorted : IsStrictlySortedBy by_bytes (names_of_files [])
unfolding IsStrictlySortedBy
none_sorted = tt

-- a package that is not there has no files
pub no_files : (found : Option (List SourceModel)) → found ≡ None → IsStrictlySortedBy by_bytes (names_of_files (files_or_none found))
no_files found is = subst (λ (o : Option (List SourceModel)). IsStrictlySortedBy by_bytes (names_of_files (files_or_none o))) (sym is) none_sorted

pub edited_from : (old mid new : List PackageModel) (path name : List ℕ) (text : Option (List ℕ)) (given : List (List ℕ × List ℕ)) → Puts mid path given new → mid ≡ old → given ≡ edited_texts (files_or_none (files_at old path)) name text → IsEdited old path name text new
edited_from old mid new path name text given puts same is = subst (λ (g : List (List ℕ × List ℕ)). Puts old path g new) is (subst (λ (ps : List PackageModel). Puts ps path given new) same puts)

-- an edit that is refused: the tree breaks this rule, or memory is wanting
pub edit_refused : (old : TreeModel) (path name : List ℕ) (text : Option (List ℕ)) (rule : Rule) (packages new : List PackageModel) → is_path_inside old.own path ≡ true → is_file_name name ≡ true → IsEdited packages path name text new → packages ≡ old.packages → (rule ≡ M0) ⊎ (tree_rule old.own new ≡ Some rule) → IsEditRefusal old path name text rule
edit_refused old path name text rule packages new inside named edited same why =
    ⊎_elim
    (λ (m : rule ≡ M0). inl m)
    (λ (r : tree_rule old.own new ≡ Some rule). inr (inr (inside, inr (named, (new, subst (λ (ps : List PackageModel). IsEdited ps path name text new) same edited, r)))))
    why
