-- What is seen, with what is added.
use Rattle.std.proofs.Common.{◌≡◌, ◌⊎◌, inl, inr, ⊎_elim, ℕ, zero, suc, ◌+◌, ◌<◌, ◌≤◌, List, [], ◌∷◌, ◌++◌, length, take, get_or, Some, refl, sym, ap, subst, ◌∙◌, arith}
use Rattle.std.specs.Prelude.{Contains, slice_get}
use Rattle.std.proofs.lemmas.List.{get_or-take, length-take, take_all, take_more}
use Rattle.std.proofs.lemmas.List.Elements.{All-contains, All-nil, All-push, Contains-append_left, Contains-append_right, Contains-get_or, Contains-push, Contains-push_cases}
use Rattle.std.proofs.lemmas.List.Quantifiers.{all_pairs_push}
use Rattle.std.proofs.lemmas.Option.{get_or_from_slice_get, slice_get_within}
use Rattle.go_block_core.specs.Exports.{ExportsModel}
use Rattle.go_table_core.specs.Entries.{Entry}
use Rattle.go_table_core.specs.Tables.{AreOthers}
use Rattle.go_typexpr_core.specs.entry.Showing.{shown_in, with_shown}
use Rattle.go_summary_core.specs.declared_core.Packages.{PackageFacesModel, with_faces}
use Rattle.go_summary_core.specs.Summaries.{SummaryModel, IsOfOne, path_of}
use Rattle.go_summary_core.specs.Views.{PathsAreApart, exports_told, types_told}
use Rattle.go_package_core.specs.package_part.Inputs.{InputModel, path_in}
use Rattle.go_package_core.specs.package_part.Parts.{ContentOf, IsMade, IsPart, seen_with}
use Rattle.go_snap_core.proofs.WholeWorkspaceMaking.{others_seen, seen_more}
use Rattle.go_snap_core.proofs.WholeWorkspaceTold.{AreWell}
use Rattle.go_batch_core.specs.seen.Local.{AreAmong, IsLocal, NoneIsOf}
use Rattle.go_batch_core.specs.seen.Sights.{Agrees, AreSeen, AreSeenBy, AreWithReached, IsSeenOf}

-- one package

-- nothing
pub nothing_seen : (types : List Entry) (shown : List ExportsModel) (faces : List PackageFacesModel) → types ≡ [] → shown ≡ [] → faces ≡ [] → AreSeen [] types shown faces
nothing_seen types shown faces a b c = record {
  well = record { apart = λ i j d lt within. absurd (omega (arith, within)); own = All-nil IsOfOne };
  seen = record { types_are = a; shown_are = b; faces_are = c };
}

well_more : (ss : List SummaryModel) (s : SummaryModel) → AreWell ss → IsOfOne s → NoneIsOf ss (path_of s) → AreWell (ss ++ s ∷ [])
well_more ss s well one none = record {
  apart = all_pairs_push (λ (a b : SummaryModel). path_of a ≡ path_of b → ⊥) ss s well.apart (λ k d lt e. none k d lt (sym e));
  own = All-push IsOfOne ss s well.own one;
}

-- one more
pub seen_push : (ss all : List SummaryModel) (s : SummaryModel) (types more : List Entry) (shown others : List ExportsModel) (faces told : List PackageFacesModel)
    → AreSeen ss types shown faces → IsOfOne s → NoneIsOf ss (path_of s) → all ≡ ss ++ s ∷ [] → more ≡ types ++ s.types.entries → others ≡ with_shown shown s.exports → told ≡ with_faces faces s.faces → AreSeen all more others told
seen_push ss all s types more shown others faces told seen one none is a b c =
    subst (λ (l : List SummaryModel). AreSeen l more others told) (sym is)
    (record { well = well_more ss s seen.well one none; seen = seen_more ss s types more shown others faces told seen.well one none seen.seen a b c })

-- no type of its path is there
pub others_before : (ss : List SummaryModel) (path : List ℕ) (types : List Entry) (shown : List ExportsModel) (faces : List PackageFacesModel) → AreSeen ss types shown faces → NoneIsOf ss path → AreOthers path types
others_before ss path types shown faces seen none = others_seen ss path types seen.well none seen.seen.types_are

-- a list of one
alone : (s x : SummaryModel) → Contains (s ∷ []) x → s ≡ x
alone s x c = by c.0 c.1 c.2
  where
    by : (k : ℕ) → k < length (s ∷ []) → get_or (s ∷ []) k x ≡ x → s ≡ x
    by zero lt is = is
    by (suc k) lt is = absurd (omega (arith, lt))

one_there : (s x : SummaryModel) → s ≡ x → Contains (s ∷ []) x
one_there s x is = (0, omega arith, is)

-- where a package of its path is seen, it is this
pub had_new : (ts : List SummaryModel) (s : SummaryModel) → Agrees ts (s ∷ []) → IsSeenOf ts (path_of s) → AreWithReached ts (s ∷ []) ts
had_new ts s agrees there =
    let same : there.0 ≡ s = agrees there.0 s there.1 (one_there s s refl) there.2 in
    let has : Contains ts s = subst (Contains ts) same there.1 in
    record {
      old = λ x h. h;
      reached = λ x h. subst (Contains ts) (alone s x h) has;
      only = λ x h. inl h;
    }

pub put_new : (ts more : List SummaryModel) (s : SummaryModel) → more ≡ ts ++ s ∷ [] → AreWithReached ts (s ∷ []) more
put_new ts more s is =
    subst (λ (l : List SummaryModel). AreWithReached ts (s ∷ []) l) (sym is)
    (record {
      old = λ x h. Contains-append_left ts (s ∷ []) x h;
      reached = λ x h. subst (Contains (ts ++ s ∷ [])) (alone s x h) (Contains-push ts s);
      only = λ x h. ⊎_elim (λ (a : Contains ts x). inl a) (λ (b : s ≡ x). inr (one_there s x b)) (Contains-push_cases ts s x h);
    })

-- what is reached, one after another

pub reached_none : (ss : List SummaryModel) → AreWithReached ss [] ss
reached_none ss = record { old = λ x h. h; reached = λ x h. absurd (let lt = h.1 in omega (arith, lt)); only = λ x h. inl h }

pub reached_more : (ss rs ts more : List SummaryModel) (k : ℕ) (s : SummaryModel) → slice_get rs k ≡ Some s → AreWithReached ss (take k rs) ts → AreWithReached ts (s ∷ []) more → AreWithReached ss (take (k + 1) rs) more
reached_more ss rs ts more k s at front last =
    let within : k < length rs = slice_get_within rs k s at in
    let is : get_or rs k s ≡ s = get_or_from_slice_get rs k s s at in
    let next : take (k + 1) rs ≡ take k rs ++ s ∷ [] = take_more rs k s within ∙ ap (λ (x : SummaryModel). take k rs ++ x ∷ []) is in
    subst (λ (l : List SummaryModel). AreWithReached ss l more) (sym next)
    (record {
      old = λ x h. last.old x (front.old x h);
      reached = λ x h. ⊎_elim (λ (a : Contains (take k rs) x). last.old x (front.reached x a)) (λ (b : s ≡ x). last.reached x (one_there s x b)) (Contains-push_cases (take k rs) s x h);
      only = λ x h. ⊎_elim
          (λ (a : Contains ts x). ⊎_elim (λ (o : Contains ss x). inl o) (λ (r : Contains (take k rs) x). inr (Contains-append_left (take k rs) (s ∷ []) x r)) (front.only x a))
          (λ (b : Contains (s ∷ []) x). inr (Contains-append_right (take k rs) (s ∷ []) x b))
          (last.only x h);
    })

-- those in front of one have other paths
front_apart : (rs : List SummaryModel) (k : ℕ) (s x : SummaryModel) → PathsAreApart rs → slice_get rs k ≡ Some s → Contains (take k rs) x → path_of x ≡ path_of s → ⊥
front_apart rs k s x apart at c same =
    let within : k < length rs = slice_get_within rs k s at in
    let low : c.0 < k = (let lt = c.1 in let long = length-take k rs in omega (arith, lt, long)) in
    let here : get_or rs c.0 x ≡ x = sym (get_or-take k rs c.0 x low) ∙ c.2 in
    let there : get_or rs k x ≡ s = get_or_from_slice_get rs k s x at in
    apart c.0 k x low within (ap path_of here ∙ (same ∙ sym (ap path_of there)))

pub agrees_next : (ss rs ts : List SummaryModel) (k : ℕ) (s : SummaryModel) → PathsAreApart rs → Agrees ss rs → slice_get rs k ≡ Some s → AreWithReached ss (take k rs) ts → Agrees ts (s ∷ [])
agrees_next ss rs ts k s apart agrees at front x r h last same =
    let is : s ≡ r = alone s r last in
    let path : path_of x ≡ path_of s = same ∙ sym (ap path_of is) in
    let within : k < length rs = slice_get_within rs k s at in
    let there : Contains rs s = (k, within, get_or_from_slice_get rs k s s at) in
    ⊎_elim
    (λ (a : Contains ss x). agrees x s a there path ∙ is)
    (λ (b : Contains (take k rs) x). absurd (front_apart rs k s x apart at b path))
    (front.only x h)

-- all of it
pub reached_all : (ss rs ts : List SummaryModel) (k : ℕ) → length rs ≤ k → AreWithReached ss (take k rs) ts → AreWithReached ss rs ts
reached_all ss rs ts k le h = subst (λ (l : List SummaryModel). AreWithReached ss l ts) (take_all k rs le) h

-- a part over what is seen

-- nothing of a package is there once what others tell is added
pub none_whole : (ss rs more : List SummaryModel) (path : List ℕ) → AreWithReached ss rs more → NoneIsOf ss path → NoneIsOf rs path → NoneIsOf more path
none_whole ss rs more path with_them one other k d lt =
    let x = get_or more k d in
    let P : SummaryModel → Type 0 = λ s. path ≡ path_of s → ⊥ in
    ⊎_elim (λ (a : Contains ss x). All-contains P ss x one a) (λ (b : Contains rs x). All-contains P rs x other b) (with_them.only x (Contains-get_or more k d lt))

-- the same, or nothing
pub agrees_same : (ss ts rs : List SummaryModel) → (ts ≡ ss) ⊎ (ts ≡ []) → Agrees ss rs → Agrees ts rs
agrees_same ss ts rs (inl is) agrees = subst (λ (l : List SummaryModel). Agrees l rs) (sym is) agrees
agrees_same ss ts rs (inr is) agrees = λ s r h there same. absurd (let none : Contains [] s = subst (λ (l : List SummaryModel). Contains l s) is h in let lt = none.1 in omega (arith, lt))

old_same : (ss ts : List SummaryModel) (x : SummaryModel) → (ts ≡ ss) ⊎ (ts ≡ []) → Contains ts x → Contains ss x
old_same ss ts x (inl is) h = subst (λ (l : List SummaryModel). Contains l x) is h
old_same ss ts x (inr is) h = absurd (let none : Contains [] x = subst (λ (l : List SummaryModel). Contains l x) is h in let lt = none.1 in omega (arith, lt))

-- what is made of an input over what is seen is what the input gives
pub made_alone : (i : InputModel) (ss : List SummaryModel) (types : List Entry) (shown : List ExportsModel) (faces : List PackageFacesModel) (c : ContentOf)
    → IsLocal i → AreSeen ss types shown faces → NoneIsOf ss (path_in i) → AreAmong i.reached ss → IsMade i (seen_with types (shown_in shown) faces) c → IsPart i c
made_alone i ss types shown faces c local seen none all made =
    local.alone ss c seen.well none all
    (subst (λ x. IsMade i (seen_with (types_told ss) (shown_in (exports_told ss)) x) c) seen.seen.faces_are
    (subst (λ x. IsMade i (seen_with (types_told ss) (shown_in x) faces) c) seen.seen.shown_are
    (subst (λ x. IsMade i (seen_with x (shown_in shown) faces) c) seen.seen.types_are made)))

-- what a part tells is of its package
pub path_made : (i : InputModel) (c : ContentOf) → IsPart i c → path_of c.summary ≡ path_in i
path_made i c made = ap path_of made.summary

-- each that is seen after it was there, or is of the input
pub seen_by_all : (ss ts more last : List SummaryModel) (i : InputModel) (c : ContentOf) → (ts ≡ ss) ⊎ (ts ≡ []) → AreWithReached ts i.reached more → IsPart i c → last ≡ more ++ c.summary ∷ [] → AreSeenBy ss i last
seen_by_all ss ts more last i c same front made is x h =
    let at : Contains (more ++ c.summary ∷ []) x = subst (λ (l : List SummaryModel). Contains l x) is h in
    ⊎_elim
    (λ (a : Contains more x). ⊎_elim (λ (o : Contains ts x). inl (old_same ss ts x same o)) (λ (r : Contains i.reached x). inr (inl r)) (front.only x a))
    (λ (b : c.summary ≡ x). inr (inr (c, made, sym b)))
    (Contains-push_cases more c.summary x at)
