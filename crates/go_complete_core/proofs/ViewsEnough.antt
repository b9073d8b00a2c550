-- What those packages tell that imports come to is enough for these.
use Rattle.std.proofs.Common.{◌≡◌, ℕ, ◌⊎◌, inl, inr, Bool, true, false, ◌||◌, List, [], ◌∷◌, refl, sym, ap, ◌∙◌}
use Rattle.std.specs.Str.{bytes_eq}
use Rattle.std.specs.List.{list_any}
use Rattle.std.proofs.lemmas.Bool.{false≢true}
use Rattle.std.proofs.lemmas.List.Elements.{All-cons, All-filter, All-nil}
use Rattle.std.proofs.lemmas.List.Kept.{AllPairs-filter}
use Rattle.std.proofs.lemmas.Slice.Eq.{bytes_eq-Decides}
use Rattle.go_names_core.specs.block_core.declared.imports.Imported.TheVariants as given
use Rattle.go_typexpr_core.proofs.EntryAmong.{Among, among_from, among_to, filter_among}
use Rattle.go_package_core.specs.summary_core.Summaries.{SummaryModel, IsOfOne, path_of}
use Rattle.go_package_core.specs.summary_core.Views.{PathsAreApart}
use Rattle.go_package_core.specs.package_part.Inputs.{InputModel, IsInput}
use Rattle.go_snap_core.specs.whole_workspace.Known.{IsImportedPath, KnownAlike}
use Rattle.go_snap_core.proofs.WholeWorkspaceTold.{AreWell, NoneIsOf, TellAlike, known_alike, known_by}
use Rattle.go_complete_core.specs.views.Imported.{comes_to, is_imported, told_by_imports}

pub any_there : {X : Type 0} (p : X → Bool) (xs : List X) (x : X) → Among xs x → p x ≡ true → list_any p xs ≡ true
any_there p [] x a h = absurd a
any_there p (y ∷ ys) x a h = elim a [
  | inl e ↦ ap (λ b. b || list_any p ys) (ap p e ∙ h)
  | inr r ↦ ap (λ b. p y || b) (any_there p ys x r h) ∙ by (p y)
]
  where
    by : (b : Bool) → (b || true) ≡ true
    by true = refl
    by false = refl

-- a summary of the package of a path
pub record IsThere (ss : List SummaryModel) (path : List ℕ) : Type 0 where
  pub summary : SummaryModel
  pub among : Among ss summary
  pub is : path_of summary ≡ path

found : (ss : List SummaryModel) (path : List ℕ) → IsThere ss path ⊎ NoneIsOf ss path
found [] path = inr (All-nil (λ s. path ≡ path_of s → ⊥))
found (s ∷ ss) path = by (bytes_eq (path_of s) path) refl (found ss path)
  where
    by : (b : Bool) → bytes_eq (path_of s) path ≡ b → IsThere ss path ⊎ NoneIsOf ss path → IsThere (s ∷ ss) path ⊎ NoneIsOf (s ∷ ss) path
    by true e rest = inl (record { summary = s; among = inl refl; is = (bytes_eq-Decides (path_of s) path).0 e })
    by false e (inl r) = inl (record { summary = r.summary; among = inr r.among; is = r.is })
    by false e (inr none) = inr (All-cons (λ t. path ≡ path_of t → ⊥) s ss (λ same. false≢true (sym e ∙ (bytes_eq-Decides (path_of s) path).1 (sym same))) none)

module _ (i : InputModel) (well : IsInput i) where
  abbrev is_kept : SummaryModel → Bool
  is_kept s = is_imported i.imports (path_of s)

  all_well : AreWell i.reached
  all_well = record { apart = well.reached.apart; own = well.own }

  kept_well : AreWell (told_by_imports i)
  kept_well = record { apart = AllPairs-filter (λ s t. path_of s ≡ path_of t → ⊥) is_kept i.reached well.reached.apart; own = All-filter is_kept IsOfOne i.reached well.own }

  pub apart : PathsAreApart (told_by_imports i)
  apart = kept_well.apart

  passes : (path : List ℕ) → IsImportedPath i.imports path → is_imported i.imports path ≡ true
  passes path h =
      any_there (list_any (comes_to path)) i.imports h.of_file (among_from i.imports h.of_file h.file)
      (any_there (comes_to path) h.of_file (given.«Package» h.shown) (among_from h.of_file (given.«Package» h.shown) h.there) ((bytes_eq-Decides h.shown.path path).1 (sym h.is)))

  tell : (path : List ℕ) → IsImportedPath i.imports path → TellAlike (told_by_imports i) i.reached path
  tell path h = by (found i.reached path)
    where
      by : IsThere i.reached path ⊎ NoneIsOf i.reached path → TellAlike (told_by_imports i) i.reached path
      by (inl t) = inl (record {
        summary = t.summary;
        one = among_to (told_by_imports i) t.summary (filter_among is_kept i.reached t.summary t.among (ap (is_imported i.imports) t.is ∙ passes path h));
        other = among_to i.reached t.summary t.among;
        is = t.is;
      })
      by (inr none) = inr (All-filter is_kept (λ s. path ≡ path_of s → ⊥) i.reached none, none)

  pub alike : KnownAlike (IsImportedPath i.imports) (known_by (told_by_imports i)) (known_by i.reached)
  alike = known_alike (told_by_imports i) i.reached kept_well all_well (IsImportedPath i.imports) tell
