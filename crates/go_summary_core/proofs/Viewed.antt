-- What is seen by summaries of which each path is there once.
use Rattle.std.proofs.Common.{◌≡◌, ℕ, zero, suc, ◌+◌, ◌<◌, List, [], ◌∷◌, ◌++◌, length, take, get_or, Bool, true, false, arith, refl, ap, sym, ◌∙◌, subst, append_assoc, append-nil}
use Rattle.std.specs.Prelude.{if◌then◌else◌, ⊤}
use Rattle.std.specs.Str.{bytes_eq}
use Rattle.std.proofs.lemmas.List.{map-append, take_more}
use Rattle.std.proofs.lemmas.List.Elements.{All-append, All-cons}
use Rattle.std.proofs.lemmas.Slice.Eq.{bytes_eq-Decides}
use Rattle.go_declared_core.specs.block_core.Exports.{ExportsModel}
use Rattle.go_declared_core.specs.typexpr_core.EntryShowing.{with_shown}
use Rattle.go_table_core.specs.Entries.{Entry}
use Rattle.go_table_core.specs.Tables.{AreOf, AreOthers}
use Rattle.go_declared_core.specs.Packages.{PackageFacesModel, with_faces}
use Rattle.go_summary_core.specs.Summaries.{SummaryModel, IsOfOne, path_of}
use Rattle.go_summary_core.specs.Views.{PathsAreApart, exports_told, faces_told, types_told}

pub text_apart : (x y : List ℕ) → (x ≡ y → ⊥) → bytes_eq x y ≡ false
text_apart x y apart = by (bytes_eq x y) refl
  where
    by : (b : Bool) → bytes_eq x y ≡ b → b ≡ false
    by true e = absurd (apart ((bytes_eq-Decides x y).0 e))
    by false e = refl

-- none of these has the path
abbrev pub AreElsewhere : List SummaryModel → List ℕ → Type 0
AreElsewhere [] path = ⊤
AreElsewhere (s ∷ ss) path = (path_of s ≡ path → ⊥) × AreElsewhere ss path

-- all of each of these is of one package
abbrev pub AreOfOne : List SummaryModel → Type 0
AreOfOne [] = ⊤
AreOfOne (s ∷ ss) = IsOfOne s × AreOfOne ss

-- those in front of one have other paths
pub before : (ss : List SummaryModel) (i : ℕ) (s : SummaryModel) → PathsAreApart ss → i < length ss → s ≡ get_or ss i s → AreElsewhere (take i ss) (path_of s)
before [] i s apart lt is = absurd (omega (arith, lt))
before (t ∷ ts) zero s apart lt is = tt
before (t ∷ ts) (suc i) s apart lt is = (
  (λ e. apart zero (suc i) s (omega arith) lt (e ∙ ap path_of is)),
  before ts i s (λ j k d l w. apart (suc j) (suc k) d (omega (arith, l)) (omega (arith, w))) (omega (arith, lt)) is,
)

-- the next is of one package too
pub of_one_more : (ss : List SummaryModel) (i : ℕ) (s : SummaryModel) → i < length ss → s ≡ get_or ss i s → IsOfOne s → AreOfOne (take i ss) → AreOfOne (take (i + 1) ss)
of_one_more ss i s lt is own all = subst AreOfOne (sym (take_more ss i s lt)) (joined (take i ss) (get_or ss i s) (subst IsOfOne is own) all)
  where
    joined : (ts : List SummaryModel) (t : SummaryModel) → IsOfOne t → AreOfOne ts → AreOfOne (ts ++ t ∷ [])
    joined [] t o a = (o, tt)
    joined (u ∷ ts) t o a = (a.0, joined ts t o a.1)

-- types

other_types : (path q : List ℕ) (es : List Entry) → AreOf q es → (q ≡ path → ⊥) → AreOthers path es
other_types path q [] own other = λ k d lt. absurd (omega (arith, lt))
other_types path q (e ∷ es) own other = All-cons (λ (f : Entry). f.key.path ≡ path → ⊥) e es (λ is. other (sym own.0 ∙ is)) (other_types path q es own.1 other)

pub types_apart : (ss : List SummaryModel) (path : List ℕ) → AreOfOne ss → AreElsewhere ss path → AreOthers path (types_told ss)
types_apart [] path own other = λ k d lt. absurd (omega (arith, lt))
types_apart (s ∷ ss) path own other = All-append (λ (f : Entry). f.key.path ≡ path → ⊥) s.types.entries (types_told ss) (other_types path (path_of s) s.types.entries own.0.own other.0) (types_apart ss path own.1 other.1)

pub types_more : (ss : List SummaryModel) (i : ℕ) (s : SummaryModel) (old new : List Entry) → i < length ss → s ≡ get_or ss i s → new ≡ old ++ s.types.entries → old ≡ types_told (take i ss) → new ≡ types_told (take (i + 1) ss)
types_more ss i s old new lt is added so_far =
    added ∙ (ap (λ l. l ++ s.types.entries) so_far
    ∙ (ap (λ (t : SummaryModel). types_told (take i ss) ++ t.types.entries) is
    ∙ (joined (take i ss) (get_or ss i s) ∙ ap types_told (sym (take_more ss i s lt)))))
  where
    joined : (ts : List SummaryModel) (t : SummaryModel) → types_told ts ++ t.types.entries ≡ types_told (ts ++ t ∷ [])
    joined [] t = sym (append-nil t.types.entries)
    joined (u ∷ ts) t = append_assoc u.types.entries (types_told ts) t.types.entries ∙ ap (λ l. u.types.entries ++ l) (joined ts t)

-- what is shown

pub exports_added : (ss : List SummaryModel) (e : ExportsModel) → AreElsewhere ss e.path → with_shown (exports_told ss) e ≡ exports_told ss ++ e ∷ []
exports_added [] e other = refl
exports_added (s ∷ ss) e other =
    ap (λ b. if b then e ∷ exports_told ss else s.exports ∷ with_shown (exports_told ss) e) (text_apart e.path (path_of s) (λ is. other.0 (sym is)))
    ∙ ap (λ l. s.exports ∷ l) (exports_added ss e other.1)

pub exports_more : (ss : List SummaryModel) (i : ℕ) (s : SummaryModel) (old new : List ExportsModel) → i < length ss → s ≡ get_or ss i s → PathsAreApart ss → new ≡ with_shown old s.exports → old ≡ exports_told (take i ss) → new ≡ exports_told (take (i + 1) ss)
exports_more ss i s old new lt is apart added so_far =
    added ∙ (ap (λ l. with_shown l s.exports) so_far
    ∙ (exports_added (take i ss) s.exports (before ss i s apart lt is)
    ∙ (ap (λ (t : SummaryModel). exports_told (take i ss) ++ t.exports ∷ []) is
    ∙ (sym (map-append (λ (t : SummaryModel). t.exports) (take i ss) (get_or ss i s ∷ [])) ∙ ap exports_told (sym (take_more ss i s lt))))))

-- faces

pub faces_added : (ss : List SummaryModel) (f : PackageFacesModel) → AreOfOne ss → AreElsewhere ss f.path → with_faces (faces_told ss) f ≡ faces_told ss ++ f ∷ []
faces_added [] f own other = refl
faces_added (s ∷ ss) f own other =
    ap (λ b. if b then f ∷ faces_told ss else s.faces ∷ with_faces (faces_told ss) f) (text_apart f.path s.faces.path (λ is. other.0 (sym (is ∙ own.0.faces))))
    ∙ ap (λ l. s.faces ∷ l) (faces_added ss f own.1 other.1)

pub faces_more : (ss : List SummaryModel) (i : ℕ) (s : SummaryModel) (old new : List PackageFacesModel) → i < length ss → s ≡ get_or ss i s → PathsAreApart ss → IsOfOne s → AreOfOne (take i ss) → new ≡ with_faces old s.faces → old ≡ faces_told (take i ss) → new ≡ faces_told (take (i + 1) ss)
faces_more ss i s old new lt is apart own all added so_far =
    added ∙ (ap (λ l. with_faces l s.faces) so_far
    ∙ (faces_added (take i ss) s.faces all (subst (AreElsewhere (take i ss)) (sym own.faces) (before ss i s apart lt is))
    ∙ (ap (λ (t : SummaryModel). faces_told (take i ss) ++ t.faces ∷ []) is
    ∙ (sym (map-append (λ (t : SummaryModel). t.faces) (take i ss) (get_or ss i s ∷ [])) ∙ ap faces_told (sym (take_more ss i s lt))))))
