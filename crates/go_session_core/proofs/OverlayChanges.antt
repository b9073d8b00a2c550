-- What an edit changes, in the words of files and texts.
use Rattle.std.proofs.Common.{◌≡◌, ◌≢◌, ◌⊎◌, ℕ, zero, suc, ◌<◌, Bool, true, false, not, cond, inl, inr, ⊎_elim, List, [], ◌∷◌, map, Option, Some, None, refl, sym, ap, ◌∙◌, subst, arith, All}
use Rattle.std.specs.Prelude.{◌↔◌, Contains, slice_index_or}
use Rattle.std.specs.Str.{bytes_eq}
use Rattle.std.proofs.lemmas.List.Elements.{All-contains, All-map, Contains-append_cases, Contains-append_left, Contains-append_right, filter_passes}
use Rattle.std.proofs.lemmas.List.Sorted.{Contains-permutation, IsPermutation-sym}
use Rattle.std.proofs.lemmas.Slice.Eq.{bytes_eq-Decides}
use Rattle.go_path_core.specs.text_core.Each.{true_or_false}
use Rattle.go_graph_core.specs.Sources.{SourceModel}
use Rattle.go_graph_core.specs.Workspaces.{PackageModel, files_at, put_files, texts_of_files}
use Rattle.go_session_core.specs.overlay.Edits.{IsEdited, edited_texts, files_or_none, other_files, text_there}
use Rattle.go_session_core.specs.overlay.Laws.{EditsChangeOneFile, HasText}

abbrev Text : Type 0
Text = List ℕ × List ℕ

abbrev Same : Text → Text → Type 0
Same x y = x ≡ y

-- membership by the first item

none_in : (x : Text) → Contains [] x → ⊥
none_in x c = (let below = c.1 in omega arith)

first_in : (x : Text) (xs : List Text) → Contains (x ∷ xs) x
first_in x xs = (0, omega arith, refl)

rest_in : (y x : Text) (xs : List Text) → Contains xs x → Contains (y ∷ xs) x
rest_in y x xs c = Contains-append_right (y ∷ []) xs x c

one_in : (y x : Text) (k : ℕ) → k < 1 → slice_index_or (y ∷ []) k x ≡ x → y ≡ x
one_in y x zero lt e = e
one_in y x (suc k) lt e = absurd (omega (arith, lt))

in_cases : (y x : Text) (xs : List Text) → Contains (y ∷ xs) x → (y ≡ x) ⊎ Contains xs x
in_cases y x xs c = ⊎_elim (λ (d : Contains (y ∷ []) x). inl (one_in y x d.0 d.1 d.2)) (λ (d : Contains xs x). inr d) (Contains-append_cases (y ∷ []) xs x c)

-- the files that are not of a name

kept_other : (name : List ℕ) (fs : List SourceModel) (n t : List ℕ) → n ≢ name → Contains (texts_of_files fs) (n, t) → Contains (texts_of_files (other_files name fs)) (n, t)
kept_other name [] n t apart c = c
kept_other name (f ∷ fs) n t apart c = step (bytes_eq f.name name) refl (in_cases (f.name, f.text) (n, t) (texts_of_files fs) c) (kept_other name fs n t apart)
  where
    step : (b : Bool) → bytes_eq f.name name ≡ b → Same (f.name, f.text) (n, t) ⊎ Contains (texts_of_files fs) (n, t) → (Contains (texts_of_files fs) (n, t) → Contains (texts_of_files (other_files name fs)) (n, t)) → Contains (texts_of_files (cond (not b) (f ∷ other_files name fs) (other_files name fs))) (n, t)
    step true e found rest = ⊎_elim (λ (same : Same (f.name, f.text) (n, t)). absurd (apart (ap (λ (p : Text). p.0) (sym same) ∙ (bytes_eq-Decides f.name name).0 e))) rest found
    step false e found rest = ⊎_elim (λ (same : Same (f.name, f.text) (n, t)). subst (λ (p : Text). Contains ((f.name, f.text) ∷ texts_of_files (other_files name fs)) p) same (first_in (f.name, f.text) (texts_of_files (other_files name fs)))) (λ (d : Contains (texts_of_files fs) (n, t)). rest_in (f.name, f.text) (n, t) (texts_of_files (other_files name fs)) (rest d)) found

other_kept : (name : List ℕ) (fs : List SourceModel) (x : Text) → Contains (texts_of_files (other_files name fs)) x → Contains (texts_of_files fs) x
other_kept name [] x c = c
other_kept name (f ∷ fs) x c = step (bytes_eq f.name name) c (other_kept name fs x)
  where
    step : (b : Bool) → Contains (texts_of_files (cond (not b) (f ∷ other_files name fs) (other_files name fs))) x → (Contains (texts_of_files (other_files name fs)) x → Contains (texts_of_files fs) x) → Contains ((f.name, f.text) ∷ texts_of_files fs) x
    step true d rest = rest_in (f.name, f.text) x (texts_of_files fs) (rest d)
    step false d rest = ⊎_elim (λ (same : Same (f.name, f.text) x). subst (λ (p : Text). Contains ((f.name, f.text) ∷ texts_of_files fs) p) same (first_in (f.name, f.text) (texts_of_files fs))) (λ (e : Contains (texts_of_files (other_files name fs)) x). rest_in (f.name, f.text) x (texts_of_files fs) (rest e)) (in_cases (f.name, f.text) x (texts_of_files (other_files name fs)) d)

none_named : (name : List ℕ) (fs : List SourceModel) (t : List ℕ) → Contains (texts_of_files (other_files name fs)) (name, t) → ⊥
none_named name fs t c =
    let all = All-map (λ (p : Text). not (bytes_eq p.0 name) ≡ true) (λ (f : SourceModel). (f.name, f.text)) (other_files name fs) (filter_passes (λ (f : SourceModel). not (bytes_eq f.name name)) fs) in
    let passes : not (bytes_eq name name) ≡ true = All-contains (λ (p : Text). not (bytes_eq p.0 name) ≡ true) (texts_of_files (other_files name fs)) (name, t) all c in
    let same : bytes_eq name name ≡ true = (bytes_eq-Decides name name).1 refl in
    let clash : false ≡ true = ap not (sym same) ∙ passes in
    cc

text_is : (name : List ℕ) (text : Option (List ℕ)) (n t : List ℕ) → Contains (text_there name text) (n, t) → (n ≡ name) × (text ≡ Some t)
text_is name None n t c = absurd (none_in (n, t) c)
text_is name (Some u) n t c = ⊎_elim (λ (same : Same (name, u) (n, t)). (ap (λ (p : Text). p.0) (sym same), ap (λ (p : Text). Some p.1) same)) (λ (d : Contains [] (n, t)). absurd (none_in (n, t) d)) (in_cases (name, u) (n, t) [] c)

text_in : (name : List ℕ) (text : Option (List ℕ)) (t : List ℕ) → text ≡ Some t → Contains (text_there name text) (name, t)
text_in name text t is = subst (λ (o : Option (List ℕ)). Contains (text_there name o) (name, t)) (sym is) (first_in (name, t) [])

-- the files of a package, if it is there

of_files : (ps : List PackageModel) (path : List ℕ) (n t : List ℕ) → HasText ps path n t → Contains (texts_of_files (files_or_none (files_at ps path))) (n, t)
of_files ps path n t h = subst (λ (o : Option (List SourceModel)). Contains (texts_of_files (files_or_none o)) (n, t)) (sym h.of_package) h.there

has_by : (ps : List PackageModel) (path n t : List ℕ) (o : Option (List SourceModel)) → files_at ps path ≡ o → Contains (texts_of_files (files_or_none o)) (n, t) → HasText ps path n t
has_by ps path n t None is c = absurd (none_in (n, t) c)
has_by ps path n t (Some fs) is c = record { files = fs; of_package = is; there = c }

put_again : (fs : List SourceModel) → files_or_none (put_files fs) ≡ fs
put_again [] = refl
put_again (f ∷ fs) = refl

-- what the package of the path has after an edit is what was given
new_texts : (old new : List PackageModel) (path name : List ℕ) (text : Option (List ℕ)) (edit : IsEdited old path name text new) (x : Text) → Contains (texts_of_files (files_or_none (files_at new path))) x ↔ Contains (edited_texts (files_or_none (files_at old path)) name text) x
new_texts old new path name text edit x =
    let given = edited_texts (files_or_none (files_at old path)) name text in
    let files : files_or_none (files_at new path) ≡ edit.files = ap files_or_none edit.here ∙ put_again edit.files in (
      (λ c. Contains-permutation (texts_of_files edit.files) given x (IsPermutation-sym given (texts_of_files edit.files) edit.read.same) (subst (λ (fs : List SourceModel). Contains (texts_of_files fs) x) files c)),
      (λ c. subst (λ (fs : List SourceModel). Contains (texts_of_files fs) x) (sym files) (Contains-permutation given (texts_of_files edit.files) x edit.read.same c)),
    )

there_is : (fs : List SourceModel) (name : List ℕ) (text : Option (List ℕ)) (t : List ℕ) → Contains (edited_texts fs name text) (name, t) → text ≡ Some t
there_is fs name text t c = ⊎_elim (λ (d : Contains (texts_of_files (other_files name fs)) (name, t)). absurd (none_named name fs t d)) (λ (d : Contains (text_there name text) (name, t)). (text_is name text name t d).1) (Contains-append_cases (texts_of_files (other_files name fs)) (text_there name text) (name, t) c)

other_is : (fs : List SourceModel) (name : List ℕ) (text : Option (List ℕ)) (n t : List ℕ) → n ≢ name → Contains (edited_texts fs name text) (n, t) ↔ Contains (texts_of_files fs) (n, t)
other_is fs name text n t apart = (
  (λ c. ⊎_elim (λ (d : Contains (texts_of_files (other_files name fs)) (n, t)). other_kept name fs (n, t) d) (λ (d : Contains (text_there name text) (n, t)). absurd (apart (text_is name text n t d).0)) (Contains-append_cases (texts_of_files (other_files name fs)) (text_there name text) (n, t) c)),
  (λ c. Contains-append_left (texts_of_files (other_files name fs)) (text_there name text) (n, t) (kept_other name fs n t apart c)),
)

same_package : (old new : List PackageModel) (p n t : List ℕ) → files_at new p ≡ files_at old p → HasText new p n t ↔ HasText old p n t
same_package old new p n t same = (
  (λ h. record { files = h.files; of_package = sym same ∙ h.of_package; there = h.there }),
  (λ h. record { files = h.files; of_package = same ∙ h.of_package; there = h.there }),
)

here_changes : (old new : List PackageModel) (path name : List ℕ) (text : Option (List ℕ)) → IsEdited old path name text new → (t : List ℕ) → HasText new path name t ↔ (text ≡ Some t)
here_changes old new path name text edit t =
    let fs = files_or_none (files_at old path) in
    let texts = new_texts old new path name text edit (name, t) in (
      (λ h. there_is fs name text t (texts.0 (of_files new path name t h))),
      (λ e. has_by new path name t (files_at new path) refl (texts.1 (Contains-append_right (texts_of_files (other_files name fs)) (text_there name text) (name, t) (text_in name text t e)))),
    )

path_changes : (old new : List PackageModel) (path name : List ℕ) (text : Option (List ℕ)) → IsEdited old path name text new → (n t : List ℕ) → n ≢ name → HasText new path n t ↔ HasText old path n t
path_changes old new path name text edit n t apart =
    let fs = files_or_none (files_at old path) in
    let texts = new_texts old new path name text edit (n, t) in
    let other = other_is fs name text n t apart in (
      (λ h. has_by old path n t (files_at old path) refl (other.0 (texts.0 (of_files new path n t h)))),
      (λ h. has_by new path n t (files_at new path) refl (texts.1 (other.1 (of_files old path n t h)))),
    )

any_path : (old new : List PackageModel) (path name : List ℕ) (text : Option (List ℕ)) → IsEdited old path name text new → (p n t : List ℕ) → n ≢ name → HasText new p n t ↔ HasText old p n t
any_path old new path name text edit p n t apart = elim (true_or_false (bytes_eq p path)) [
  | inl y ↦ (let same : p ≡ path = (bytes_eq-Decides p path).0 y in subst (λ (q : List ℕ). HasText new q n t ↔ HasText old q n t) (sym same) (path_changes old new path name text edit n t apart))
  | inr f ↦ same_package old new p n t (edit.others p (λ e. let clash : false ≡ true = sym f ∙ (bytes_eq-Decides p path).1 e in cc))
]

pub edits_change : EditsChangeOneFile
edits_change old new path name text edit = record {
  here = here_changes old new path name text edit;
  others = λ p n t apart. ⊎_elim (λ (q : p ≢ path). same_package old new p n t (edit.others p q)) (λ (m : n ≢ name). any_path old new path name text edit p n t m) apart;
}
