-- Texts in which a name is replaced.
use Rattle.std.proofs.Common.{◌≡◌, ◌↔◌, ◌+◌, ◌<◌, ◌≤◌, ◌^◌, ◌∙◌, inl, inr, ℕ, Bool, true, false, List, [], ◌∷◌, ◌++◌, Some, length, get_or, map, take, slice_get, sym, ap, subst, arith}
use Rattle.std.specs.Prelude.{IsTrue, MatchOption, Option}
use Rattle.go_lsp_core.specs.edits.Edits.{Part, Stand, edited, part}
use Rattle.std.proofs.lemmas.Bool.{true≢false}
use Rattle.std.proofs.lemmas.List.{map-append, take_all, take_more}
use Rattle.std.proofs.lemmas.Option.{get_or_from_slice_get, slice_get-get_or}
use Rattle.go_typexpr_core.proofs.EntryAmong.{Among, among_from}
use Rattle.go_graph_core.specs.Sources.{SourceModel}
use Rattle.go_graph_core.specs.Workspaces.{PackageModel}
use Rattle.go_query_core.specs.snap_core.Snapshots.{SnapshotModel}
use Rattle.go_reference_core.specs.rename.Moving.{AllPaired, Corresponds, Moves, names_in}
use Rattle.go_reference_core.specs.rename.Renaming.{AreRenamed, HasNoEnd, IsRenamedFile, IsRenamedPackage, IsRenamedText, Keeps, name_parts}
use Rattle.go_reference_core.proofs.RenameMoved.{never}
use Rattle.go_reference_core.proofs.RenamePaired.{told_same}

-- a text that was made is compared
pub made_same : (b : Bool) (made other all : List ℕ) (S : Type 0) → S → made ≡ all → IsTrue b ↔ (made ≡ other) → IsTrue b ↔ (S × (other ≡ all))
made_same b made other all S s is test = (λ (on : IsTrue b). (s, sym (test.0 on) ∙ is), λ (h : S × (other ≡ all)). test.1 (is ∙ sym h.1))

pub as_renamed : (b : Bool) (text other : List ℕ) (ps qs : List Part) → ps ≡ qs → IsTrue b ↔ (Stand text 0 ps × (other ≡ edited text ps)) → IsTrue b ↔ IsRenamedText text qs other
as_renamed b text other ps qs same test = (
  λ (on : IsTrue b). (let h = test.0 on in record { stand = subst (Stand text 0) same h.0; is = subst (λ (l : List Part). other ≡ edited text l) same h.1 }),
  λ (h : IsRenamedText text qs other). test.1 (subst (Stand text 0) (sym same) h.stand, subst (λ (l : List Part). other ≡ edited text l) (sym same) h.is),
)

-- a name that is replaced ends in the text
ends_within : (text new : List ℕ) (len from at : ℕ) (offsets : List ℕ) → Stand text from (name_parts len new offsets) → Among offsets at → at + len ≤ length text
ends_within text new len from at [] h a = absurd a
ends_within text new len from at (o ∷ os) h (inl e) = (let within = h.0.ends.0 in omega (arith, within, e))
ends_within text new len from at (o ∷ os) h (inr a) = ends_within text new len (o + len) at os h.1 a

pub no_end : (text new other : List ℕ) (len : ℕ) (offsets : List ℕ) → length text < 2 ^ 64 → HasNoEnd len offsets → IsTrue false ↔ IsRenamedText text (name_parts len new offsets) other
no_end text new other len offsets few far =
    never (IsRenamedText text (name_parts len new offsets) other)
    (λ h. (let within = ends_within text new len 0 far.at offsets h.stand (among_from offsets far.at far.there) in let big = far.far in omega (arith, within, big, few)))

-- ---- files and packages

module _ (m : Moves) (new : List ℕ) (number file : ℕ) (f g : SourceModel) where
  pub other_name : (b : Bool) → b ≡ false → IsTrue b ↔ (g.name ≡ f.name) → IsTrue false ↔ IsRenamedFile m new number file f g
  other_name b off test = never (IsRenamedFile m new number file f g) (λ h. true≢false (sym (test.1 h.name) ∙ off))

  pub whole_file : (b r : Bool) → b ≡ true → IsTrue b ↔ (g.name ≡ f.name) → IsTrue r ↔ IsRenamedText f.text (name_parts m.old new (names_in m number file)) g.text → IsTrue r ↔ IsRenamedFile m new number file f g
  whole_file b r on names test = (λ met. record { name = names.0 on; text = test.0 met }, λ h. test.1 h.text)

module _ (m : Moves) (new : List ℕ) (number : ℕ) (p q : PackageModel) where
  pub other_package : (b : Bool) → b ≡ false → IsTrue b ↔ (q.0 ≡ p.0) → IsTrue false ↔ IsRenamedPackage m new number p q
  other_package b off test = never (IsRenamedPackage m new number p q) (λ h. true≢false (sym (test.1 h.path) ∙ off))

  pub whole_package : (b r : Bool) → b ≡ true → IsTrue b ↔ (q.0 ≡ p.0) → IsTrue r ↔ AllPaired (IsRenamedFile m new number) p.1 q.1 → IsTrue r ↔ IsRenamedPackage m new number p q
  whole_package b r on paths test = (λ met. record { path = paths.0 on; files = test.0 met }, λ h. test.1 h.files)

-- a test of two lists is one of equal lists
pub tested_of : {A B : Type 0} (b : Bool) (P : List A → List B → Type 0) (xs us : List A) (ys vs : List B) → xs ≡ us → ys ≡ vs → IsTrue b ↔ P xs ys → IsTrue b ↔ P us vs
tested_of b P xs us ys vs e g h = subst (λ l. IsTrue b ↔ P l vs) e (subst (λ l. IsTrue b ↔ P xs l) g h)

-- what a name that is replaced keeps is decided by what occurrences have
pub kept_where : {C : Type 0} (r : Option C) (m : Moves) (new : List ℕ) (s t : SnapshotModel) → length new ≡ m.new → AreRenamed m new s.sources t.sources → MatchOption r (Corresponds m s t) (λ x. ¬ Corresponds m s t) → MatchOption r (Keeps m new s t) (λ x. ¬ Keeps m new s t)
kept_where r m new s t len texts h = told_same r (Corresponds m s t) (Keeps m new s t) (λ all. record { len = len; texts = texts; corresponds = all }, λ keeps. keeps.corresponds) h

-- ---- edits at offsets

number_there : (xs : List ℕ) (i : ℕ) → i < length xs → slice_get xs i ≡ Some (get_or xs i 0)
number_there xs i lt = slice_get-get_or xs i 0 lt

pub no_end_at : (len : ℕ) (offsets : List ℕ) (i : ℕ) → i < length offsets → 2 ^ 64 ≤ get_or offsets i 0 + len → HasNoEnd len offsets
no_end_at len offsets i lt far =
    let at = get_or offsets i 0 in
    record { at = at; there = (i, lt, get_or_from_slice_get offsets i at at (number_there offsets i lt)); far = far }

pub parts_more : (len : ℕ) (new offsets : List ℕ) (i : ℕ) (parts more : List Part) (e : Part) → i < length offsets → e ≡ part (get_or offsets i 0) (get_or offsets i 0 + len) new → more ≡ parts ++ e ∷ [] → parts ≡ name_parts len new (take i offsets)
    → more ≡ name_parts len new (take (i + 1) offsets)
parts_more len new offsets i parts more e lt is pushed before =
    let at = get_or offsets i 0 in
    let made : ℕ → Part = λ at. part at (at + len) new in
    pushed
    ∙ (ap (λ (x : Part). parts ++ x ∷ []) is
    ∙ (ap (λ (l : List Part). l ++ made at ∷ []) before ∙ sym (ap (map made) (take_more offsets i 0 lt) ∙ map-append made (take i offsets) (at ∷ []))))

pub parts_all : (len : ℕ) (new offsets : List ℕ) (i : ℕ) (parts : List Part) → length offsets ≤ i → parts ≡ name_parts len new (take i offsets) → parts ≡ name_parts len new offsets
parts_all len new offsets i parts le before = before ∙ ap (name_parts len new) (take_all i offsets le)

-- where the edits are misplaced
pub misplaced : (b : Bool) (S O : Type 0) → b ≡ false → (S → ⊥) → IsTrue b ↔ (S × O)
misplaced b S O off none = (λ on. absurd (true≢false (sym on ∙ off)), λ h. absurd (none h.0))
