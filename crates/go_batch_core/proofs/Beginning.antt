-- A batch that begins.
use Rattle.std.proofs.Common.{◌≡◌, ◌<◌, ◌≤◌, ◌≢◌, ◌⊎◌, ⊎_elim, inl, inr, ℕ, zero, suc, ◌+◌, List, [], ◌∷◌, length, get_or, map, replicate, refl, sym, ap, ◌∙◌, subst, arith, Option, Some, None, cond}
use Rattle.std.specs.Prelude.{slice_get, Contains, All, option_and_then}
use Rattle.std.proofs.lemmas.Bool.{cases_eq}
use Rattle.std.proofs.lemmas.Option.{slice_get_within, slice_get-get_or}
use Rattle.std.proofs.lemmas.List.{length-replicate}
use Rattle.std.proofs.lemmas.List.Elements.{All-nil}
use Rattle.go_digraph_core.specs.reach.Numbers.{Numbers}
use Rattle.go_block_core.specs.graph_core.declared.imports.ImportAt.{ImportAt}
use Rattle.go_block_core.specs.graph_core.declared.imports.ImportOutcome.{ImportOutcome}
use Rattle.go_block_core.specs.graph_core.declared.imports.ImportOutcome.TheVariants.{Package}
use Rattle.go_block_core.specs.graph_core.Plans.{AreImporters, IsAssembledAt, IsPlan, PlanModel, outcome_at}
use Rattle.go_block_core.specs.graph_core.Plans as plans
use Rattle.go_block_core.specs.graph_core.Workspaces.{PackageModel}
use Rattle.go_summary_core.specs.Summaries.{SummaryModel}
use Rattle.go_package_core.specs.package_part.Parts.{PartModel}
use Rattle.go_snap_core.specs.make.Telling.{told_of}
use Rattle.go_digraph_core.specs.declared.ready_queue.mark.Mark.{Mark}
use Rattle.go_digraph_core.specs.ready_queue.Turns.{TurnsModel}
use Rattle.go_digraph_core.specs.ready_queue.mirrors.Counting.{AreFresh, AreNodes, IsUntaken}
use Rattle.go_batch_core.specs.declared.slot.Slot.{Slot}
use Rattle.go_batch_core.specs.declared.slot.Slot.TheVariants.{NoAction, Untaken, Taken, Finished}
use Rattle.go_batch_core.specs.Batches.{IsBegun, IsBusy, IsReady, batch_with, is_left, unfinished}
use Rattle.go_batch_core.specs.declared.tell.Tell.{Tell}
use Rattle.go_batch_core.specs.mirrors.Tells.{AreWithin, with_tells}
use Rattle.go_batch_core.specs.mirrors.Keeping.{AreFreshSlots, IsFreshSlot, IsKept, IsPlanned, IsRight, mark_of}
use Rattle.go_batch_core.proofs.Ordered.{AreOrdered}
use Rattle.go_batch_core.proofs.Passing.{passing_target}
use Rattle.go_batch_core.proofs.Slots.{at_map_back, at_replicate, replicate_at}

get_or_self : (xs : List ℕ) (k d : ℕ) → k < length xs → get_or xs k (get_or xs k d) ≡ get_or xs k d
get_or_self [] k d lt = absurd (omega arith)
get_or_self (x ∷ xs) zero d lt = refl
get_or_self (x ∷ xs) (suc k) d lt = get_or_self xs k d (omega arith)

not_in : (x : ℕ) (xs : List ℕ) (n : ℕ) → n ≢ x → (Contains xs n → ⊥) → Contains (x ∷ xs) n → ⊥
not_in x xs n ne none (zero, lt, e) = ne (sym e)
not_in x xs n ne none (suc k, lt, e) = none (k, omega (arith, lt), e)

-- a package with an import that is planned is one
passing_within : (plan : PlanModel) (n to : ℕ) → plans.IsPassing plan (record { from = n; to = to }) → n < length plan.outcomes
passing_within plan n to passing = subst (λ (k : ℕ). k < length plan.outcomes) passing.1 (first plan.outcomes passing.0 passing.2)
  where
    first : (os : List (List (List ImportOutcome))) (at : ImportAt) → outcome_at os at ≡ Some (Package to) → at.«package» < length os
    first os at e = by (slice_get os at.«package») refl
      where
        by : (o : Option (List (List ImportOutcome))) → slice_get os at.«package» ≡ o → at.«package» < length os
        by None is = absurd (let none : outcome_at os at ≡ None = ap (λ x. option_and_then (λ is. slice_get is at.import) (option_and_then (λ fs. slice_get fs at.file) x)) is in cc)
        by (Some files) is = slice_get_within os at.«package» files is

-- what an order that is read has
pub order_within : (ps packages : List PackageModel) (plan : PlanModel) (order : List ℕ) (count : ℕ) → IsPlan ps plan → order ≡ plan.order → packages ≡ ps → count ≡ length packages → All (λ (n : ℕ). n < count) order
order_within ps packages plan order count planned same all many k d lt =
    let there : Contains order (get_or order k d) = (k, lt, get_or_self order k d lt) in
    let assembled = (planned.each (get_or order k d)).0 (subst (λ (l : List ℕ). Contains l (get_or order k d)) same there) in
    omega (arith, many, ap length all, slice_get_within ps (get_or order k d) (assembled.0, assembled.1) assembled.2)

in_or_not : (xs : List ℕ) (n : ℕ) → Contains xs n ⊎ (Contains xs n → ⊥)
in_or_not [] n = inr (λ h. omega (arith, h.1))
in_or_not (x ∷ xs) n = ⊎_elim
    (λ (same : n ≡ x). inl (0, omega arith, sym same))
    (λ (ne : n ≢ x). ⊎_elim
    (λ (there : Contains xs n). inl (suc there.0, omega (arith, there.1), there.2))
    (λ (none : Contains xs n → ⊥). inr (not_in x xs n ne none))
    (in_or_not xs n))
    (cases_eq n x)

none_other : (count : ℕ) (order : List ℕ) (slots : List Slot) (n : ℕ) (s : Slot) → AreOrdered count order slots → slice_get slots n ≡ Some s → (s ≡ NoAction) ⊎ (s ≡ Untaken)
none_other count order slots n s ordered e = ⊎_elim
    (λ (there : Contains order n). inr (let both : Some s ≡ Some Untaken = sym e ∙ ordered.ordered n there in cc))
    (λ (none : Contains order n → ⊥). inl (ordered.others n s e none))
    (in_or_not order n)

fresh_slot : (s : Slot) → (s ≡ NoAction) ⊎ (s ≡ Untaken) → IsFreshSlot s
fresh_slot s (inl e) = subst IsFreshSlot (sym e) tt
fresh_slot s (inr e) = subst IsFreshSlot (sym e) tt

pub fresh_slots : (count : ℕ) (order : List ℕ) (slots shown : List Slot) → AreOrdered count order slots → shown ≡ slots → AreFreshSlots shown
fresh_slots count order slots shown ordered same = record { each = λ n s e. fresh_slot s (none_other count order slots n s ordered (ap (λ l. slice_get l n) (sym same) ∙ e)) }

untaken_mark : (s : Slot) → IsFreshSlot s → IsUntaken (mark_of s)
untaken_mark NoAction fresh = tt
untaken_mark Untaken fresh = tt
untaken_mark (Taken k i) fresh = absurd fresh
untaken_mark Finished fresh = absurd fresh

pub fresh_marks : (slots : List Slot) (marks : List Mark) → AreFreshSlots slots → marks ≡ map mark_of slots → AreFresh marks
fresh_marks slots marks fresh is = record {
  each = λ k d lt.
      let e : slice_get (map mark_of slots) k ≡ Some (get_or marks k d) = ap (λ l. slice_get l k) (sym is) ∙ slice_get-get_or marks k d lt in
      let at = at_map_back mark_of slots k (get_or marks k d) e in
      subst IsUntaken at.2 (untaken_mark at.0 (fresh.each k at.0 at.1));
}

-- those whose imports come to a package are packages
pub nodes_of : (plan : PlanModel) (rows : List (List ℕ)) (count : ℕ) → AreImporters plan rows → count ≡ length plan.outcomes → AreNodes count rows
nodes_of plan rows count importers same = record {
  within = λ to row lt k d inside.
      let at : slice_get rows to ≡ Some (get_or rows to row) = slice_get-get_or rows to row lt in
      let there : Contains (get_or rows to row) (get_or (get_or rows to row) k d) = (k, inside, get_or_self (get_or rows to row) k d inside) in
      let passing = (importers to (get_or rows to row) at (get_or (get_or rows to row) k d)).0 there in
      omega (arith, same, passing_within plan (get_or (get_or rows to row) k d) to passing);
}

begun_right : (ps : List PackageModel) (plan : PlanModel) (slots : List Slot) (parts : List (Option PartModel)) (n : ℕ) (s : Slot) → IsPlan ps plan → AreOrdered (length ps) plan.order slots → parts ≡ replicate (length ps) None → slice_get slots n ≡ Some s → (s ≡ NoAction) ⊎ (s ≡ Untaken) → IsRight ps slots parts n s
begun_right ps plan slots parts n s planned ordered none e (inl is) =
    subst (λ (x : Slot). IsRight ps slots parts n x) (sym is) (record {
      part = None;
      there = ap (λ l. slice_get l n) none ∙ replicate_at (length ps) n None (omega (arith, ordered.many, slice_get_within slots n s e));
      right = λ assembled. (let both : Some NoAction ≡ Some Untaken = ap Some (sym is) ∙ sym e ∙ ordered.ordered n ((planned.each n).1 assembled) in cc);
    })
begun_right ps plan slots parts n s planned ordered none e (inr is) =
    subst (λ (x : Slot). IsRight ps slots parts n x) (sym is) (record {
      part = None;
      there = ap (λ l. slice_get l n) none ∙ replicate_at (length ps) n None (omega (arith, ordered.many, slice_get_within slots n s e));
      right = (planned.each n).0 (⊎_elim (λ (there : Contains plan.order n). there) (λ (out : Contains plan.order n → ⊥). absurd (let both : Untaken ≡ NoAction = sym is ∙ ordered.others n s e out in cc)) (in_or_not plan.order n));
    })

told_none : (count : ℕ) → told_of (replicate count None) ≡ replicate count None
told_none zero = refl
told_none (suc count) = ap (λ l. None ∷ l) (told_none count)

pub kept_begun : (ps : List PackageModel) (plan : PlanModel) (sets : List Numbers) (turns : TurnsModel) (slots : List Slot) (parts : List (Option PartModel)) (told : List (Option SummaryModel)) (untold : List Tell) (room left : ℕ) → IsPlanned ps plan sets → AreOrdered (length ps) plan.order slots → AreImporters plan turns.needing → length turns.needing ≡ length plan.outcomes → turns.marks ≡ map mark_of slots → parts ≡ replicate (length ps) None → told ≡ replicate (length ps) None → left ≡ unfinished slots → untold ≡ [] → left ≤ room → IsKept ps plan sets turns slots parts told untold room left
kept_begun ps plan sets turns slots parts told untold room left planned ordered importers rows marked none nothing counts empty wide = record {
  plans = planned;
  importers = importers;
  rows = rows;
  marks = marked;
  right = record {
    many = ordered.many;
    many_parts = ap length none ∙ length-replicate {A = Option PartModel} (length ps) None;
    each = λ n s e. begun_right ps plan slots parts n s planned.planned ordered none e (none_other (length ps) plan.order slots n s ordered e);
  };
  tells = ap (with_tells told) empty ∙ nothing ∙ sym (told_none (length ps)) ∙ ap told_of (sym none);
  within = subst (AreWithin (length told)) (sym empty) (All-nil (λ (t : Tell). t.place < length told));
  has_room = omega (arith, ap length empty, wide);
  counted = counts;
}

pub begun : (ps : List PackageModel) (plan : PlanModel) (slots : List Slot) (parts : List (Option PartModel)) → IsPlan ps plan → AreOrdered (length ps) plan.order slots → parts ≡ replicate (length ps) None → IsBegun ps (batch_with ps slots parts)
begun ps plan slots parts planned ordered none = record {
  sources = refl;
  assembled = λ n assembled. ordered.ordered n ((planned.each n).1 assembled);
  others = λ n s e out. ordered.others n s e (λ there. out ((planned.each n).0 there));
  many = ordered.many;
  parts = λ n o e. at_replicate (length ps) n None o (ap (λ l. slice_get l n) (sym none) ∙ e);
}

-- slots by the order that was read
pub ordered_by : (ps packages : List PackageModel) (plan : PlanModel) (order : List ℕ) (count : ℕ) (slots : List Slot) → order ≡ plan.order → packages ≡ ps → count ≡ length packages → length slots ≡ count → ((n : ℕ) → Contains order n → slice_get slots n ≡ Some Untaken) → ((n : ℕ) (s : Slot) → slice_get slots n ≡ Some s → (Contains order n → ⊥) → s ≡ NoAction) → AreOrdered (length ps) plan.order slots
ordered_by ps packages plan order count slots same all counts many ordered others = record {
  many = many ∙ counts ∙ ap length all;
  ordered = λ n there. ordered n (subst (λ (l : List ℕ). Contains l n) (sym same) there);
  others = λ n s e out. others n s e (λ there. out (subst (λ (l : List ℕ). Contains l n) same there));
}

get_or_zero : (xs : List ℕ) (k x : ℕ) → k < length xs → get_or xs k 0 ≡ get_or xs k x
get_or_zero [] k x lt = absurd (omega arith)
get_or_zero (y ∷ ys) zero x lt = refl
get_or_zero (y ∷ ys) (suc k) x lt = get_or_zero ys k x (omega arith)

-- without an order nothing is to be done
nothing_left : (slots : List Slot) → ((n : ℕ) (s : Slot) → slice_get slots n ≡ Some s → s ≡ NoAction) → unfinished slots ≡ 0
nothing_left [] none = refl
nothing_left (x ∷ xs) none =
    let rest = nothing_left xs (λ n s e. none (suc n) s e) in
    ap (λ (s : Slot). cond (is_left s) (1 + unfinished xs) (unfinished xs)) (none 0 x refl) ∙ rest

-- the first of an order is ready
first_ready : (ps : List PackageModel) (plan : PlanModel) (slots : List Slot) (parts : List (Option PartModel)) (first : ℕ) (others : List ℕ) → IsPlan ps plan → AreOrdered (length ps) plan.order slots → plan.order ≡ first ∷ others → IsReady (batch_with ps slots parts) first
first_ready ps plan slots parts first others planned ordered is =
    let many : 0 < length plan.order = omega (arith, ap length is) in
    let here : get_or plan.order 0 0 ≡ first = ap (λ l. get_or l 0 0) is in
    record {
      untaken = ordered.ordered first (subst (λ (l : List ℕ). Contains l first) (sym is) (0, omega arith, refl));
      imports = λ e passing from.
          let there = (planned.each e.to).1 (passing_target ps e passing) in
          let reads : get_or plan.order there.0 0 ≡ e.to = get_or_zero plan.order there.0 e.to there.1 ∙ there.2 in
          absurd (let less : there.0 < 0 = planned.after passing.0 e.to passing.2 0 there.0 many there.1 (here ∙ sym (passing.1 ∙ from)) reads in omega (arith, less));
    }

busy_by : (ps : List PackageModel) (plan : PlanModel) (slots : List Slot) (parts : List (Option PartModel)) (order : List ℕ) → IsPlan ps plan → AreOrdered (length ps) plan.order slots → plan.order ≡ order → IsBusy (batch_with ps slots parts)
busy_by ps plan slots parts [] planned ordered is some none =
    some (nothing_left slots (λ n s e. ordered.others n s e (λ there. omega (arith, (subst (λ (l : List ℕ). Contains l n) is there).1))))
busy_by ps plan slots parts (first ∷ others) planned ordered is some none = none first (first_ready ps plan slots parts first others planned ordered is)

pub busy : (ps : List PackageModel) (plan : PlanModel) (slots : List Slot) (parts : List (Option PartModel)) → IsPlan ps plan → AreOrdered (length ps) plan.order slots → IsBusy (batch_with ps slots parts)
busy ps plan slots parts planned ordered some none = busy_by ps plan slots parts plan.order planned ordered refl some none
