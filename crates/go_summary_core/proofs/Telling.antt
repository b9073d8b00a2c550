-- What views tell.
use Rattle.std.proofs.Common.{◌≡◌, ◌↔◌, ℕ, zero, suc, ◌<◌, ◌&&◌, List, [], ◌∷◌, length, Bool, true, false, Option, Some, None, All, is_some, arith, refl, ap, sym, ◌∙◌, subst}
use Rattle.std.specs.Prelude.{slice_index_or, if◌then◌else◌}
use Rattle.std.specs.Str.{chars}
use Rattle.std.proofs.lemmas.Bool.{true≢false}
use Rattle.std.proofs.lemmas.List.Elements.{All-head, All-tail}
use Rattle.go_term_core.specs.text_core.Text.{exported}
use Rattle.go_term_core.specs.decl_core.declared.keys.DeclKey.{DeclKey}
use Rattle.go_term_core.specs.decl_core.declared.keys.DeclRef.{DeclRef}
use Rattle.go_declared_core.specs.block_core.Tables.{in_block, has}
use Rattle.go_declared_core.specs.block_core.Exports.{exports_model}
use Rattle.go_declared_core.specs.typexpr_core.EntryShowing.{names_shown}
use Rattle.go_table_core.specs.Entries.{Entry, find_entry, same_key, same_decl}
use Rattle.go_table_core.specs.Tables.{AreOf}
use Rattle.go_table_core.proofs.Finding.{bytes_same, find-append, or_else, or_none}
use Rattle.go_declared_core.specs.declared.shown.ShownFace.{ShownFace}
use Rattle.go_declared_core.specs.declared.shown.ShownFace.TheVariants as shows
use Rattle.go_declared_core.specs.Packages.{DeclaredOf, package_in, package_faces, names_seen, shown_by, shown_in_some, face_in_some}
use Rattle.go_declared_core.proofs.Displaying.{shows_its_block}
use Rattle.go_summary_core.specs.Summaries.{SummaryModel, IsOfOne, path_of, summary_with}
use Rattle.go_summary_core.specs.Views.{PathsAreApart, exports_told, faces_told, types_told}
use Rattle.go_summary_core.specs.Laws.{HiddenNamesAreKnown, HiddenNamesDoNotCount, ViewsTellNothingElse, ViewsTellSummaries}
use Rattle.go_summary_core.proofs.Viewed.{AreElsewhere, AreOfOne, text_apart}

pub of_one : (ss : List SummaryModel) → All IsOfOne ss → AreOfOne ss
of_one [] all = tt
of_one (s ∷ ss) all = (All-head IsOfOne s ss all, of_one ss (All-tail IsOfOne s ss all))

elsewhere : (ss : List SummaryModel) (path : List ℕ) → All (λ (s : SummaryModel). path ≡ path_of s → ⊥) ss → AreElsewhere ss path
elsewhere [] path all = tt
elsewhere (s ∷ ss) path all = (
  (λ e. All-head (λ (t : SummaryModel). path ≡ path_of t → ⊥) s ss all (sym e)),
  elsewhere ss path (All-tail (λ (t : SummaryModel). path ≡ path_of t → ⊥) s ss all),
)

-- those behind the first have other paths
behind : (s : SummaryModel) (ss : List SummaryModel) → PathsAreApart (s ∷ ss) → AreElsewhere ss (path_of s)
behind s [] apart = tt
behind s (t ∷ ss) apart = (
  (λ e. apart zero (suc zero) s (omega arith) (omega arith) (sym e)),
  behind s ss (λ j k d l w. two s t ss apart j k d l w),
)
  where
    -- the same without the second
    two : (s t : SummaryModel) (ss : List SummaryModel) → PathsAreApart (s ∷ t ∷ ss) → PathsAreApart (s ∷ ss)
    two s t ss apart zero zero d l w = absurd (omega (arith, l))
    two s t ss apart zero (suc k) d l w = apart zero (suc (suc k)) d (omega arith) (omega (arith, w))
    two s t ss apart (suc j) zero d l w = absurd (omega (arith, l))
    two s t ss apart (suc j) (suc k) d l w = apart (suc (suc j)) (suc (suc k)) d (omega (arith, l)) (omega (arith, w))

tail_apart : (s : SummaryModel) (ss : List SummaryModel) → PathsAreApart (s ∷ ss) → PathsAreApart ss
tail_apart s ss apart j k d l w = apart (suc j) (suc k) d (omega (arith, l)) (omega (arith, w))

-- the first is not at the path of a later one
first_apart : (t : SummaryModel) (ts : List SummaryModel) (i : ℕ) (s : SummaryModel) → PathsAreApart (t ∷ ts) → i < length ts → slice_index_or ts i s ≡ s → path_of t ≡ path_of s → ⊥
first_apart t ts i s apart lt is e = apart zero (suc i) s (omega arith) (omega (arith, lt)) (e ∙ ap path_of (sym is))

-- types

other_key : (a k : DeclKey) (path : List ℕ) → a.path ≡ path → (path ≡ k.path → ⊥) → same_key a k ≡ false
other_key a k path own other = ap (λ b. b && same_decl a.decl k.decl) (text_apart a.path k.path (λ e. other (sym own ∙ e)))

find-other : (es : List Entry) (path : List ℕ) (k : DeclKey) → AreOf path es → (path ≡ k.path → ⊥) → find_entry es k ≡ None
find-other [] path k own other = refl
find-other (e ∷ es) path k own other = ap (λ b. if b then Some e else find_entry es k) (other_key e.key k path own.0 other) ∙ find-other es path k own.1 other

find_nowhere : (ss : List SummaryModel) (k : DeclKey) → AreOfOne ss → AreElsewhere ss k.path → find_entry (types_told ss) k ≡ None
find_nowhere [] k own other = refl
find_nowhere (s ∷ ss) k own other =
    find-append s.types.entries (types_told ss) k
    ∙ (ap (λ o. or_else o (find_entry (types_told ss) k)) (find-other s.types.entries (path_of s) k own.0.own other.0) ∙ find_nowhere ss k own.1 other.1)

find_told : (ss : List SummaryModel) (i : ℕ) (s : SummaryModel) (k : DeclKey) → PathsAreApart ss → AreOfOne ss → i < length ss → slice_index_or ss i s ≡ s → k.path ≡ path_of s → find_entry (types_told ss) k ≡ find_entry s.types.entries k
find_told [] i s k apart own lt is at = absurd (omega (arith, lt))
find_told (t ∷ ts) zero s k apart own lt is at =
    find-append t.types.entries (types_told ts) k
    ∙ (ap (or_else (find_entry t.types.entries k)) (find_nowhere ts k own.1 (subst (AreElsewhere ts) (ap path_of is ∙ sym at) (behind t ts apart)))
    ∙ (or_none (find_entry t.types.entries k) ∙ ap (λ (x : SummaryModel). find_entry x.types.entries k) is))
find_told (t ∷ ts) (suc i) s k apart own lt is at =
    find-append t.types.entries (types_told ts) k
    ∙ (ap (λ o. or_else o (find_entry (types_told ts) k)) (find-other t.types.entries (path_of t) k own.0.own (λ e. first_apart t ts i s apart (omega (arith, lt)) is (e ∙ at)))
    ∙ find_told ts i s k (tail_apart t ts apart) own.1 (omega (arith, lt)) is at)

-- names

shown_nowhere : (ss : List SummaryModel) (path : List ℕ) → AreElsewhere ss path → names_shown (exports_told ss) path ≡ []
shown_nowhere [] path other = refl
shown_nowhere (s ∷ ss) path other =
    ap (λ b. if b then s.exports.names else names_shown (exports_told ss) path) (text_apart path (path_of s) (λ e. other.0 (sym e))) ∙ shown_nowhere ss path other.1

shown_told : (ss : List SummaryModel) (i : ℕ) (s : SummaryModel) → PathsAreApart ss → i < length ss → slice_index_or ss i s ≡ s → names_shown (exports_told ss) (path_of s) ≡ s.exports.names
shown_told [] i s apart lt is = absurd (omega (arith, lt))
shown_told (t ∷ ts) zero s apart lt is =
    ap (λ b. if b then t.exports.names else names_shown (exports_told ts) (path_of s)) (bytes_same (path_of s) (path_of t) (ap path_of (sym is))) ∙ ap (λ (x : SummaryModel). x.exports.names) is
shown_told (t ∷ ts) (suc i) s apart lt is =
    ap (λ b. if b then t.exports.names else names_shown (exports_told ts) (path_of s)) (text_apart (path_of s) (path_of t) (λ e. first_apart t ts i s apart (omega (arith, lt)) is (sym e)))
    ∙ shown_told ts i s (tail_apart t ts apart) (omega (arith, lt)) is

own_names : (s : SummaryModel) → names_shown (s.exports ∷ []) (path_of s) ≡ s.exports.names
own_names s = ap (λ b. if b then s.exports.names else []) (bytes_same (path_of s) (path_of s) refl)

neither : (b : Bool) → ◌≡◌ {A = Option DeclRef} (if b then None else None) None
neither true = refl
neither false = refl

-- faces

faces_nowhere : (ss : List SummaryModel) (path : List ℕ) → AreOfOne ss → AreElsewhere ss path → package_in (faces_told ss) path ≡ None
faces_nowhere [] path own other = refl
faces_nowhere (s ∷ ss) path own other =
    ap (λ b. if b then Some s.faces else package_in (faces_told ss) path) (text_apart path s.faces.path (λ e. other.0 (sym (e ∙ own.0.faces)))) ∙ faces_nowhere ss path own.1 other.1

faces_there : (ss : List SummaryModel) (i : ℕ) (s : SummaryModel) → PathsAreApart ss → AreOfOne ss → i < length ss → slice_index_or ss i s ≡ s → package_in (faces_told ss) (path_of s) ≡ Some s.faces
faces_there [] i s apart own lt is = absurd (omega (arith, lt))
faces_there (t ∷ ts) zero s apart own lt is =
    ap (λ b. if b then Some t.faces else package_in (faces_told ts) (path_of s)) (bytes_same (path_of s) t.faces.path (ap path_of (sym is) ∙ sym own.0.faces)) ∙ ap (λ (x : SummaryModel). Some x.faces) is
faces_there (t ∷ ts) (suc i) s apart own lt is =
    ap (λ b. if b then Some t.faces else package_in (faces_told ts) (path_of s)) (text_apart (path_of s) t.faces.path (λ e. first_apart t ts i s apart (omega (arith, lt)) is (sym (e ∙ own.0.faces))))
    ∙ faces_there ts i s (tail_apart t ts apart) own.1 (omega (arith, lt)) is

-- laws

pub views_tell : ViewsTellSummaries
views_tell ss s apart all has =
    let own = of_one ss all in record {
      types = λ k at. find_told ss has.0 s k apart own has.1 has.2 at;
      names = λ name. ap (λ ns. if exported (chars name) then in_block ns name else None) (shown_told ss has.0 s apart has.1 has.2 ∙ sym (own_names s));
      faces = λ name. ap (λ o. shown_in_some o name) (faces_there ss has.0 s apart own has.1 has.2);
      declared = λ d. ap (λ o. face_in_some o d) (faces_there ss has.0 s apart own has.1 has.2);
    }

pub nothing_else : ViewsTellNothingElse
nothing_else ss path all others =
    let own = of_one ss all in
    let other = elsewhere ss path others in record {
      types = λ k at. find_nowhere ss k own (subst (AreElsewhere ss) (sym at) other);
      names = λ name. ap (λ ns. if exported (chars name) then in_block ns name else None) (shown_nowhere ss path other) ∙ neither (exported (chars name));
      faces = λ name. ap (λ o. shown_in_some o name) (faces_nowhere ss path own other);
      declared = λ d. ap (λ o. face_in_some o d) (faces_nowhere ss path own other);
    }

pub hidden_do_not_count : HiddenNamesDoNotCount
hidden_do_not_count = record {
  apart = λ p q b c types shown h i. summary_with (exports_model (h.path i) (h.clause i) (h.names i)) types (package_faces (h.path i) [] shown) (h.files i);
  alike = λ p q b c types shown h seen i. summary_with (exports_model (h.path i) (h.clause i) (h.names i)) types (package_faces (h.path i) (seen i) shown) (h.files i);
}

-- what is seen of a name, by what the block has and by whether it is exported

abbrev Seen : List ℕ → List (List ℕ × DeclRef) → List DeclaredOf → List ℕ → ShownFace
Seen path block faces name = shown_by (package_faces path (names_seen block) faces) name

hidden_by : (path : List ℕ) (block : List (List ℕ × DeclRef)) (faces : List DeclaredOf) (name : List ℕ) (o : Option DeclRef) (x : Bool)
    → in_block block name ≡ o → exported (chars name) ≡ x
    → (Seen path block faces name ≡ shows.Hidden) ↔ ((has block name ≡ true) × (exported (chars name) ≡ false))
hidden_by path block faces name None x is ex =
    let seen = shows_its_block.absent path block faces name is in
    let none : has block name ≡ false = ap is_some is in
    (λ e. absurd (let k : shows.Absent ≡ shows.Hidden = sym seen ∙ e in cc), λ h. absurd (true≢false (sym h.0 ∙ none)))
hidden_by path block faces name (Some d) false is ex =
    let some : has block name ≡ true = ap is_some is in
    (λ _. (some, ex), λ _. shows_its_block.hidden path block faces name d is ex)
hidden_by path block faces name (Some d) true is ex =
    let seen = shows_its_block.shown path block faces name d is ex in
    (λ e. absurd (let k = sym seen ∙ e in cc), λ h. absurd (true≢false (sym ex ∙ h.1)))

absent_by : (path : List ℕ) (block : List (List ℕ × DeclRef)) (faces : List DeclaredOf) (name : List ℕ) (o : Option DeclRef) (x : Bool)
    → in_block block name ≡ o → exported (chars name) ≡ x
    → (Seen path block faces name ≡ shows.Absent) ↔ (has block name ≡ false)
absent_by path block faces name None x is ex =
    let none : has block name ≡ false = ap is_some is in
    (λ _. none, λ _. shows_its_block.absent path block faces name is)
absent_by path block faces name (Some d) false is ex =
    let some : has block name ≡ true = ap is_some is in
    let seen = shows_its_block.hidden path block faces name d is ex in
    (λ e. absurd (let k : shows.Hidden ≡ shows.Absent = sym seen ∙ e in cc), λ h. absurd (true≢false (sym some ∙ h)))
absent_by path block faces name (Some d) true is ex =
    let some : has block name ≡ true = ap is_some is in
    let seen = shows_its_block.shown path block faces name d is ex in
    (λ e. absurd (let k = sym seen ∙ e in cc), λ h. absurd (true≢false (sym some ∙ h)))

pub hidden_known : HiddenNamesAreKnown
hidden_known = record {
  hidden = λ path b faces name. hidden_by path b.names faces name (in_block b.names name) (exported (chars name)) refl refl;
  absent = λ path b faces name. absent_by path b.names faces name (in_block b.names name) (exported (chars name)) refl refl;
}
