-- Whether a package is seen.
use Rattle.std.proofs.Common.{◌≡◌, ℕ, suc, List, [], ◌∷◌, All, Bool, true, false, if◌then◌else◌, Option, Some, None, is_some, refl, sym, ap, ◌∙◌, arith}
use Rattle.std.specs.Prelude.{option_copied}
use Rattle.std.specs.Borrow.{Bor}
use Rattle.std.specs.Str.{bytes_eq}
use Rattle.std.proofs.lemmas.List.Elements.{All-cons, All-nil}
use Rattle.std.proofs.lemmas.Slice.Eq.{bytes_eq-Decides}
use Rattle.go_block_core.specs.Exports.{ExportsModel}
use Rattle.go_table_core.specs.Entries.{Entry}
use Rattle.go_summary_core.specs.declared_core.Packages.{PackageFacesModel, package_in}
use Rattle.go_summary_core.specs.Summaries.{SummaryModel, IsOfOne, path_of}
use Rattle.go_summary_core.specs.Views.{faces_told}
use Rattle.go_batch_core.specs.seen.Local.{NoneIsOf}
use Rattle.go_batch_core.specs.seen.Sights.{AreSeen, IsSeenOf}

pub some_copied : {X : Type 0} (o : Option (Bor X)) → is_some o ≡ is_some (option_copied o)
some_copied None = refl
some_copied (Some x) = refl

rest_own : (s : SummaryModel) (ss : List SummaryModel) → All IsOfOne (s ∷ ss) → All IsOfOne ss
rest_own s ss own = λ k d lt. own (suc k) d (omega (arith, lt))

found_in : (ss : List SummaryModel) (path : List ℕ) (p : PackageFacesModel) → All IsOfOne ss → package_in (faces_told ss) path ≡ Some p → IsSeenOf ss path
found_in [] path p own h = absurd (let no : None ≡ Some p = h in cc)
found_in (s ∷ ss) path p own h = by (bytes_eq path s.faces.path) refl (λ rest. found_in ss path p (rest_own s ss own) rest) h
  where
    by : (b : Bool) → bytes_eq path s.faces.path ≡ b → (package_in (faces_told ss) path ≡ Some p → IsSeenOf ss path) → (if b then Some s.faces else package_in (faces_told ss) path) ≡ Some p → IsSeenOf (s ∷ ss) path
    by true e rest h = (s, (0, omega arith, refl), sym ((bytes_eq-Decides path s.faces.path).0 e ∙ (own 0 s (omega arith)).faces))
    by false e rest h = (let found = rest h in (found.0, (suc found.1.0, (let lt = found.1.1 in omega (arith, lt)), found.1.2), found.2))

none_in : (ss : List SummaryModel) (path : List ℕ) → All IsOfOne ss → package_in (faces_told ss) path ≡ None → NoneIsOf ss path
none_in [] path own h = All-nil (λ (s : SummaryModel). path ≡ path_of s → ⊥)
none_in (s ∷ ss) path own h = by (bytes_eq path s.faces.path) refl (λ rest. none_in ss path (rest_own s ss own) rest) h
  where
    by : (b : Bool) → bytes_eq path s.faces.path ≡ b → (package_in (faces_told ss) path ≡ None → NoneIsOf ss path) → (if b then Some s.faces else package_in (faces_told ss) path) ≡ None → NoneIsOf (s ∷ ss) path
    by true e rest h = absurd (let no : Some s.faces ≡ None = h in cc)
    by false e rest h =
        All-cons (λ (t : SummaryModel). path ≡ path_of t → ⊥) s ss
        (λ same. (let is : bytes_eq path s.faces.path ≡ true = (bytes_eq-Decides path s.faces.path).1 (same ∙ sym (own 0 s (omega arith)).faces) in let not : bytes_eq path s.faces.path ≡ false = e in cc))
        (rest h)

-- by what the table of faces answers
pub record IsLooked (ss : List SummaryModel) (path : List ℕ) (b : Bool) : Type 0 where
  pub there : b ≡ true → IsSeenOf ss path
  pub none : b ≡ false → NoneIsOf ss path

by_found : (ss : List SummaryModel) (path : List ℕ) (b : Bool) (o : Option PackageFacesModel) → All IsOfOne ss → package_in (faces_told ss) path ≡ o → b ≡ is_some o → IsLooked ss path b
by_found ss path b None own is same = record { there = λ yes. absurd (let no : b ≡ false = same in cc); none = λ no. none_in ss path own is }
by_found ss path b (Some p) own is same = record { there = λ yes. found_in ss path p own is; none = λ no. absurd (let yes : b ≡ true = same in cc) }

pub looked : (ss : List SummaryModel) (types : List Entry) (shown : List ExportsModel) (faces : List PackageFacesModel) (path : List ℕ) (b : Bool) → AreSeen ss types shown faces → b ≡ is_some (package_in faces path) → IsLooked ss path b
looked ss types shown faces path b seen is =
    by_found ss path b (package_in (faces_told ss) path) seen.well.own refl (is ∙ ap (λ (l : List PackageFacesModel). is_some (package_in l path)) seen.seen.faces_are)
