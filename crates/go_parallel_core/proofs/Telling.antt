-- What packages tell, as actions are handed out and ended.
use Rattle.std.proofs.Common.{◌≡◌, ◌≢◌, ◌⊎◌, inl, inr, ℕ, zero, suc, ◌<◌, List, [], ◌∷◌, length, get_or, refl, sym, ap, ap₂, subst, ◌∙◌, arith, Option, Some, None}
use Rattle.std.specs.Prelude.{Contains, slice_get, slice_set}
use Rattle.std.specs.List.{AllZip}
use Rattle.std.proofs.lemmas.Bool.{cases_eq}
use Rattle.std.proofs.lemmas.Option.{slice_get_within}
use Rattle.go_block_core.specs.graph_core.Workspaces.{PackageModel}
use Rattle.go_summary_core.specs.Summaries.{SummaryModel, path_of}
use Rattle.go_package_core.specs.package_part.Inputs.{InputModel, path_in}
use Rattle.go_package_core.specs.package_part.Parts.{PartModel}
use Rattle.go_snap_core.specs.whole_workspace.Inputs.{IsInputAt, Tells}
use Rattle.go_batch_core.specs.Batches.{BatchModel, IsBegun, batch_with, with_part}
use Rattle.go_batch_core.specs.Telling.{IsToldOnce}
use Rattle.go_batch_core.specs.declared.slot.Slot.TheVariants.{Untaken, Taken, Finished}
use Rattle.go_batch_core.proofs.Slots.{at_set_other, at_set_same}
use Rattle.go_parallel_core.specs.Told.{AreAllTold, AreTold, IsHeld, IsTold, TellsMore, summary_in}

-- lists

-- what a list has in step with another stands in step with something
zip_at : {A B : Type 0} (R : A → B → Type 0) (xs : List A) (ys : List B) (k : ℕ) (d : B) → AllZip R xs ys → k < length ys → (x : A) × R x (get_or ys k d)
zip_at R [] [] k d h lt = absurd (omega (arith, lt))
zip_at R [] (y ∷ ys) k d h lt = absurd h
zip_at R (x ∷ xs) [] k d h lt = absurd h
zip_at R (x ∷ xs) (y ∷ ys) zero d h lt = (x, h.0)
zip_at R (x ∷ xs) (y ∷ ys) (suc k) d h lt = zip_at R xs ys k d h.1 (omega (arith, lt))

-- two entries that differ stand apart
pub apart_at : {X : Type 0} (xs : List X) (p q : ℕ) (x y : X) → slice_get xs p ≡ Some x → slice_get xs q ≡ Some y → (y ≡ x → ⊥) → q ≢ p
apart_at xs p q x y a b ne same = ne (let both : Some y ≡ Some x = sym b ∙ (ap (slice_get xs) same ∙ a) in cc)

-- a list of one
pub alone : {X : Type 0} (s x : X) → Contains (s ∷ []) x → s ≡ x
alone s x c = by c.0 c.1 c.2
  where
    by : (k : ℕ) → k < length (s ∷ []) → get_or (s ∷ []) k x ≡ x → s ≡ x
    by zero lt is = is
    by (suc k) lt is = absurd (omega (arith, lt))

pub one_there : {X : Type 0} (s x : X) → s ≡ x → Contains (s ∷ []) x
one_there s x is = (0, omega arith, is)

pub none_there : {X : Type 0} (x : X) → Contains [] x → ⊥
none_there x c = let lt = c.1 in omega (arith, lt)

-- nothing is told in a batch that begins
pub begun_untold : (ps : List PackageModel) (b : BatchModel) → IsBegun ps b → AreAllTold b.parts []
begun_untold ps b begun = record {
  all = λ s t. absurd (let both : Some t.tells.of_part ≡ None = begun.parts t.place (Some t.tells.of_part) t.tells.there in cc (both));
  only = λ s h. absurd (none_there s h);
}

-- an action is handed out

reached_told : (ps : List PackageModel) (parts : List (Option PartModel)) (n : ℕ) (i : InputModel) → IsInputAt ps parts n i → AreTold parts i.reached
reached_told ps parts n i at s h =
    let found = zip_at (Tells parts) at.input.reached.numbers i.reached h.0 s at.input.reached.told h.1 in
    record { place = found.0; tells = subst (Tells parts found.0) h.2 found.1 }

pub held_handed : (old new : BatchModel) (n m number : ℕ) (i awaited : InputModel) → IsToldOnce new → new ≡ batch_with old.sources (slice_set old.slots n (Taken number awaited)) old.parts → awaited ≡ i → slice_get old.slots n ≡ Some Untaken
    → IsInputAt old.sources old.parts m i → IsHeld old.parts i
held_handed old new n m number i awaited once same is ready at =
    let set : slice_get (slice_set old.slots n (Taken number awaited)) n ≡ Some (Taken number awaited) = at_set_same old.slots n (Taken number awaited) (slice_get_within old.slots n Untaken ready) in
    let taken : slice_get new.slots n ≡ Some (Taken number i) = ap (λ (b : BatchModel). slice_get b.slots n) same ∙ (set ∙ ap (λ (j : InputModel). Some (Taken number j)) is) in
    let parts : new.parts ≡ old.parts = ap (λ (b : BatchModel). b.parts) same in
    record {
      reached = reached_told old.sources old.parts m i at;
      own = λ s t path. once.taken t.place n number s i (subst (λ (xs : List (Option PartModel)). Tells xs t.place s) (sym parts) t.tells) taken path;
    }

-- an action is ended
module _ (b : BatchModel) (place number : ℕ) (p : PartModel) (once : IsToldOnce b) (taken : slice_get b.slots place ≡ Some (Taken number p.input)) where
  abbrev after : List (Option PartModel)
  after = slice_set b.parts place (Some p)

  no_part : (q : PartModel) → slice_get b.parts place ≡ Some (Some q) → ⊥
  no_part q there =
      let ended : slice_get b.slots place ≡ Some Finished = once.finished place q.content.summary (record { of_part = q; there = there; is = refl }) in
      let both : Some Finished ≡ Some (Taken number p.input) = sym ended ∙ taken in
      cc (both)

  apart_there : (n : ℕ) (q : PartModel) → slice_get b.parts n ≡ Some (Some q) → n ≢ place
  apart_there n q there same = no_part q (subst (λ (m : ℕ). slice_get b.parts m ≡ Some (Some q)) same there)

  told_before : (s : SummaryModel) → IsTold b.parts s → IsTold after s
  told_before s t =
      record {
        place = t.place;
        tells = record { of_part = t.tells.of_part; there = at_set_other b.parts place t.place (Some p) (apart_there t.place t.tells.of_part t.tells.there) ∙ t.tells.there; is = t.tells.is };
      }

  part_there : slice_get after place ≡ Some (Some p)
  part_there = at_set_same b.parts place (Some p) (let long = once.many in let lt = slice_get_within b.slots place (Taken number p.input) taken in omega (arith, long, lt))

  told_only : (s : SummaryModel) (t : IsTold after s) → (t.place ≡ place) ⊎ (t.place ≢ place) → IsTold b.parts s ⊎ Contains (summary_in p ∷ []) s
  told_only s t (inl same) =
      let both : Some (Some t.tells.of_part) ≡ Some (Some p) = sym t.tells.there ∙ (ap (slice_get after) same ∙ part_there) in
      let part : t.tells.of_part ≡ p = cc (both) in
      inr (one_there (summary_in p) s (sym (t.tells.is ∙ ap summary_in part)))
  told_only s t (inr ne) = inl (record { place = t.place; tells = record { of_part = t.tells.of_part; there = sym (at_set_other b.parts place t.place (Some p) ne) ∙ t.tells.there; is = t.tells.is } })

  tells_ended : TellsMore b.parts (summary_in p ∷ []) after
  tells_ended = record {
    before = told_before;
    added = λ s h. record { place = place; tells = record { of_part = p; there = part_there; is = sym (alone (summary_in p) s h) } };
    only = λ s t. told_only s t (cases_eq t.place place);
  }

pub tells_finished : (b new : BatchModel) (place number n : ℕ) (p q : PartModel) → IsToldOnce b → slice_get b.slots place ≡ Some (Taken number p.input) → new ≡ with_part b n q → n ≡ place → q ≡ p → TellsMore b.parts (summary_in p ∷ []) new.parts
tells_finished b new place number n p q once taken same a c =
    let parts : slice_set b.parts n (Some q) ≡ slice_set b.parts place (Some p) = ap₂ (λ (m : ℕ) (r : PartModel). slice_set b.parts m (Some r)) a c in
    subst (TellsMore b.parts (summary_in p ∷ [])) (sym (ap (λ (x : BatchModel). x.parts) same ∙ parts)) (tells_ended b place number p once taken)
