-- What look-ups in a snapshot find.
use Rattle.std.proofs.Common.{◌≡◌, ℕ, List, map, get_or, length, All, Option, Some, None, Result, Ok, Err, slice_get, refl, sym, ◌∙◌, ap, subst}
use Rattle.std.specs.Prelude.{MatchOption}
use Rattle.std.specs.Borrow.{Bor}
use Rattle.std.specs.Slice.{IsItemAt}
use Rattle.std.specs.List.Sorted.{IsStrictlySortedBy, IsBinarySearchResult, IsSearchInRange}
use Rattle.std.specs.Option.{option_map}
use Rattle.std.specs.Result.{result_ok}
use Rattle.std.proofs.lemmas.Option.{none-some, slice_get-map, slice_get_within, slice_get_past, slice_get_read, slice_get-get_or, get_or_from_slice_get}
use Rattle.go_graph_core.specs.Sources.{SourceModel}
use Rattle.go_graph_core.specs.Workspaces.{PackageModel, IsWorkspace, by_bytes, names_of_files}
use Rattle.go_report_core.specs.usage.Used.{FileUse}
use Rattle.go_emit_core.specs.package_core.PackagePartParts.{FileOf, PartModel}
use Rattle.go_snap_core.proofs.WholeWorkspaceLists.{one_at}
use Rattle.go_snap_core.specs.Snapshots.{IsAnswerAt, IsPartAt}
use Rattle.go_snap_core.proofs.MakeSearching.{found, not_found}
pub use Rattle.go_snap_core.proofs.MakeSearching.{one_key}
pub use Rattle.go_snap_core.proofs.MakeFinding.{one_part_at}

-- what a search for a file answers
pub file_found : (fs : List SourceModel) (name : List ℕ) (r : Result ℕ ℕ) (o : Option ℕ) → o ≡ result_ok r → IsStrictlySortedBy by_bytes (names_of_files fs) → IsSearchInRange r (length fs) → IsBinarySearchResult (λ (f : SourceModel). by_bytes f.name name) fs r
    → MatchOption o (All (λ f. f.name ≡ name → ⊥) fs) (λ number. (f : SourceModel) × (slice_get fs number ≡ Some f) × (f.name ≡ name))
file_found fs name r o is order within search_is = subst (λ x. MatchOption x (All (λ f. f.name ≡ name → ⊥) fs) (λ number. (f : SourceModel) × (slice_get fs number ≡ Some f) × (f.name ≡ name))) (sym is) (by r within search_is)
  where
    by : (r : Result ℕ ℕ) → IsSearchInRange r (length fs) → IsBinarySearchResult (λ (f : SourceModel). by_bytes f.name name) fs r → MatchOption (result_ok r) (All (λ f. f.name ≡ name → ⊥) fs) (λ number. (f : SourceModel) × (slice_get fs number ≡ Some f) × (f.name ≡ name))
    by (Ok i) low at = found (λ (f : SourceModel). f.name) fs name i low at
    by (Err i) low at = λ j d lt same. not_found (λ (f : SourceModel). f.name) fs name i order at j (get_or fs j d) (slice_get-get_or fs j d lt) same

-- the items of a mapped list

pub mapped_at : {A B : Type 0} (f : A → B) (xs : List A) (i : ℕ) (x : A) → slice_get xs i ≡ Some x → slice_get (map f xs) i ≡ Some (f x)
mapped_at f xs i x h = slice_get-map f xs i ∙ ap (option_map f) h

pub mapped_past : {A B : Type 0} (f : A → B) (xs : List A) (i : ℕ) → slice_get xs i ≡ None → slice_get (map f xs) i ≡ None
mapped_past f xs i h = slice_get-map f xs i ∙ ap (option_map f) h

nothing_at : {A : Type 0} (xs : List A) (i : ℕ) (x : A) → slice_get xs i ≡ None → slice_get xs i ≡ Some x → ⊥
nothing_at xs i x p q = none-some x (sym p ∙ q)

-- what a look-up by number answers

pub looked_up : {X : Type 0} (xs : List X) (i : ℕ) (r : Option (Bor X)) (N : Type 0) (S : X → Type 0) → IsItemAt xs i r → (slice_get xs i ≡ None → N) → ((x : X) → slice_get xs i ≡ Some x → S x) → MatchOption r N (λ x. S x.now)
looked_up xs i None N S is none some = none (slice_get_past xs i is.3)
looked_up xs i (Some x) N S is none some = some x.now (slice_get_read xs (length xs) i x.now refl is.3.0 is.1)

-- a path has at most one part, and a file at most one answer
module _ (ps : List PackageModel) (well : IsWorkspace ps) (parts : List (Option PartModel)) (path : List ℕ) where
  module _ (p : PartModel) (there : IsPartAt ps parts path p) (name : List ℕ) where
    -- what an answer says of the part
    record IsIn (n : ℕ) (u : FileUse) : Type 0 where
      pub number : ℕ
      pub source : SourceModel
      pub in_package : slice_get p.input.source.1 number ≡ Some source
      pub named : source.name ≡ name
      pub file : FileOf
      pub made : slice_get p.content.files number ≡ Some file
      pub answer : slice_get file.answers.uses n ≡ Some u

    in_part : (n : ℕ) (u : FileUse) → IsAnswerAt ps parts path name n u → IsIn n u
    in_part n u h =
        let same : h.of_part ≡ p = one_part_at ps well parts path h.of_part p h.in_workspace there in
        record {
          number = h.number;
          source = h.source;
          in_package = subst (λ (q : PartModel). slice_get q.input.source.1 h.number ≡ Some h.source) same h.in_package;
          named = h.named;
          file = h.file;
          made = subst (λ (q : PartModel). slice_get q.content.files h.number ≡ Some h.file) same h.made;
          answer = h.answer;
        }

    pub no_file : All (λ f. f.name ≡ name → ⊥) p.input.source.1 → (n : ℕ) (u : FileUse) → IsAnswerAt ps parts path name n u → ⊥
    no_file none n u h =
        let i = in_part n u h in
        let at : get_or p.input.source.1 i.number i.source ≡ i.source = get_or_from_slice_get p.input.source.1 i.number i.source i.source i.in_package in
        none i.number i.source (slice_get_within p.input.source.1 i.number i.source i.in_package) (ap (λ (s : SourceModel). s.name) at ∙ i.named)

    module _ (order : IsStrictlySortedBy by_bytes (names_of_files p.input.source.1)) (k : ℕ) (f : SourceModel) (at : slice_get p.input.source.1 k ≡ Some f) (named : f.name ≡ name) where
      same_number : (n : ℕ) (u : FileUse) (h : IsIn n u) → h.number ≡ k
      same_number n u h = one_key (λ (s : SourceModel). s.name) p.input.source.1 h.number k h.source f order h.in_package at (h.named ∙ sym named)

      pub no_made : slice_get p.content.files k ≡ None → (n : ℕ) (u : FileUse) → IsAnswerAt ps parts path name n u → ⊥
      no_made none n u h =
          let i = in_part n u h in
          nothing_at p.content.files k i.file none (subst (λ m. slice_get p.content.files m ≡ Some i.file) (same_number n u i) i.made)

      module _ (m : FileOf) (made : slice_get p.content.files k ≡ Some m) (n : ℕ) where
        pub no_answer : slice_get m.answers.uses n ≡ None → (u : FileUse) → IsAnswerAt ps parts path name n u → ⊥
        no_answer none u h =
            let i = in_part n u h in
            let same : i.file ≡ m = one_at p.content.files k i.file m (subst (λ l. slice_get p.content.files l ≡ Some i.file) (same_number n u i) i.made) made in
            nothing_at m.answers.uses n u none (subst (λ (g : FileOf). slice_get g.answers.uses n ≡ Some u) same i.answer)

        pub is_answer : (u : FileUse) → slice_get m.answers.uses n ≡ Some u → IsAnswerAt ps parts path name n u
        is_answer u h = record { of_part = p; in_workspace = there; number = k; source = f; in_package = at; named = named; file = m; made = made; answer = h }

-- what a search says of one workspace and its parts it says of equal ones
pub part_searched : (ps qs : List PackageModel) (parts xs : List (Option PartModel)) (path q : List ℕ) (r : Option (Bor PartModel)) → qs ≡ ps → xs ≡ parts → q ≡ path
    → MatchOption r ((p : PartModel) → IsPartAt qs xs q p → ⊥) (λ p. IsPartAt qs xs q p.now) → MatchOption r ((p : PartModel) → IsPartAt ps parts path p → ⊥) (λ p. IsPartAt ps parts path p.now)
part_searched ps qs parts xs path q r a b e h =
    subst (λ (k : List ℕ). MatchOption r ((p : PartModel) → IsPartAt ps parts k p → ⊥) (λ p. IsPartAt ps parts k p.now)) e
    (subst (λ (l : List (Option PartModel)). MatchOption r ((p : PartModel) → IsPartAt ps l q p → ⊥) (λ p. IsPartAt ps l q p.now)) b
    (subst (λ (l : List PackageModel). MatchOption r ((p : PartModel) → IsPartAt l xs q p → ⊥) (λ p. IsPartAt l xs q p.now)) a h))

-- what an occurrence has, or that it is none
abbrev pub IsTold : List PackageModel → List (Option PartModel) → List ℕ → List ℕ → ℕ → Option (Bor FileUse) → Type 0
IsTold ps parts path name n r = MatchOption r ((u : FileUse) → IsAnswerAt ps parts path name n u → ⊥) (λ answer. IsAnswerAt ps parts path name n answer.now)

pub none_told : (ps : List PackageModel) (parts : List (Option PartModel)) (path name : List ℕ) (n : ℕ) (r : Option (Bor FileUse)) → r ≡ None → ((u : FileUse) → IsAnswerAt ps parts path name n u → ⊥) → IsTold ps parts path name n r
none_told ps parts path name n r is none = subst (IsTold ps parts path name n) (sym is) none
