-- What is told, where some of what is untold was added already.
use Rattle.std.proofs.Common.{◌≡◌, ◌≤◌, ◌<◌, ◌≢◌, ⊎_elim, ℕ, zero, suc, ◌+◌, List, [], ◌∷◌, ◌++◌, length, set, take, refl, sym, ap, ◌∙◌, subst, arith, Option, Some}
use Rattle.std.specs.Prelude.{slice_get}
use Rattle.std.proofs.lemmas.Bool.{cases_eq}
use Rattle.std.proofs.lemmas.Option.{get_or_from_slice_get}
use Rattle.std.proofs.lemmas.List.{take_more}
use Rattle.go_digraph_core.specs.reach.Numbers.{Numbers}
use Rattle.go_block_core.specs.graph_core.Plans.{PlanModel}
use Rattle.go_block_core.specs.graph_core.Workspaces.{PackageModel}
use Rattle.go_summary_core.specs.Summaries.{SummaryModel}
use Rattle.go_package_core.specs.package_part.Parts.{PartModel}
use Rattle.go_digraph_core.specs.ready_queue.Turns.{TurnsModel}
use Rattle.go_batch_core.specs.declared.slot.Slot.{Slot}
use Rattle.go_batch_core.specs.declared.tell.Tell.{Tell}
use Rattle.go_batch_core.specs.mirrors.Keeping.{IsKept}
use Rattle.go_batch_core.specs.mirrors.Tells.{AreWithin, tell_in, with_tells}
use Rattle.go_batch_core.proofs.Slots.{some_at}
use Rattle.go_batch_core.proofs.Steps.{tells_long, tells_push}

set_twice : {X : Type 0} (xs : List X) (k : ℕ) (x y : X) → set (set xs k x) k y ≡ set xs k y
set_twice [] k x y = refl
set_twice (z ∷ zs) zero x y = refl
set_twice (z ∷ zs) (suc k) x y = ap (λ l. z ∷ l) (set_twice zs k x y)

set_swap : {X : Type 0} (xs : List X) (k n : ℕ) (x y : X) → k ≢ n → set (set xs k x) n y ≡ set (set xs n y) k x
set_swap [] k n x y ne = refl
set_swap (z ∷ zs) zero zero x y ne = absurd (ne refl)
set_swap (z ∷ zs) zero (suc n) x y ne = refl
set_swap (z ∷ zs) (suc k) zero x y ne = refl
set_swap (z ∷ zs) (suc k) (suc n) x y ne = ap (λ l. z ∷ l) (set_swap zs k n x y (λ e. ne (ap suc e)))

-- what stands among those that are added is added already
one_again : (told : List (Option SummaryModel)) (us : List Tell) (n : ℕ) (t : Tell) → slice_get us n ≡ Some t → with_tells (tell_in told t) us ≡ with_tells told us
one_again told [] n t e = absurd (cc)
one_again told (u ∷ us) zero t e =
    let is : t ≡ u = cc in
    ap (λ (x : Tell). with_tells (tell_in (tell_in told x) u) us) is
    ∙ ap (λ l. with_tells l us) (set_twice told u.place (Some u.part.content.summary) (Some u.part.content.summary))
one_again told (u ∷ us) (suc n) t e = ⊎_elim
    (λ (same : t.place ≡ u.place). ap (λ l. with_tells l us) (ap (λ (k : ℕ). tell_in (set told k (Some t.part.content.summary)) u) same ∙ set_twice told u.place (Some t.part.content.summary) (Some u.part.content.summary)))
    (λ (ne : t.place ≢ u.place). ap (λ l. with_tells l us) (set_swap told t.place u.place (Some t.part.content.summary) (Some u.part.content.summary) ne) ∙ one_again (tell_in told u) us n t e)
    (cases_eq t.place u.place)

-- with all that is untold it is the same whether the first of it was added already
pub told_again : (told : List (Option SummaryModel)) (us : List Tell) (k : ℕ) → k ≤ length us → with_tells (with_tells told (take k us)) us ≡ with_tells told us
told_again told us zero le = refl
told_again told us (suc k) le =
    let at = some_at us k (omega (arith, le)) in
    let more : take (suc k) us ≡ take k us ++ at.0 ∷ [] = ap (λ (n : ℕ). take n us) (let e : suc k ≡ k + 1 = omega arith in e) ∙ take_more us k at.0 (omega (arith, le)) ∙ ap (λ (x : Tell). take k us ++ x ∷ []) (get_or_from_slice_get us k at.0 at.0 at.1) in
    ap (λ (l : List Tell). with_tells (with_tells told l) us) more
    ∙ ap (λ l. with_tells l us) (tells_push told (take k us) at.0)
    ∙ one_again (with_tells told (take k us)) us k at.0 at.1
    ∙ told_again told us k (omega (arith, le))

pub kept_told : (ps : List PackageModel) (plan : PlanModel) (sets : List Numbers) (turns : TurnsModel) (slots : List Slot) (parts : List (Option PartModel)) (told more : List (Option SummaryModel)) (untold : List Tell) (room left : ℕ) → IsKept ps plan sets turns slots parts told untold room left → with_tells more untold ≡ with_tells told untold → IsKept ps plan sets turns slots parts more untold room left
kept_told ps plan sets turns slots parts told more untold room left kept same = record {
  plans = kept.plans;
  importers = kept.importers;
  rows = kept.rows;
  marks = kept.marks;
  right = kept.right;
  tells = same ∙ kept.tells;
  within = subst (λ (k : ℕ). AreWithin k untold) (sym (tells_long told untold) ∙ ap length (sym same) ∙ tells_long more untold) kept.within;
  has_room = kept.has_room;
  counted = kept.counted;
}
