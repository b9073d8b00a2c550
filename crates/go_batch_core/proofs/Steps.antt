-- A batch as its actions are taken and finished.
use Rattle.std.proofs.Common.{◌≡◌, ◌<◌, ◌≤◌, ◌≢◌, ⊎_elim, ℕ, zero, suc, ◌+◌, ◌-◌, Bool, true, false, cond, All, List, [], ◌∷◌, ◌++◌, length, get_or, set, take, refl, sym, ap, ◌∙◌, subst, arith, Option, Some, None}
use Rattle.std.specs.Prelude.{slice_get}
use Rattle.std.specs.Option.{option_map}
use Rattle.std.proofs.lemmas.Bool.{cases_eq}
use Rattle.std.proofs.lemmas.Option.{slice_get_within, get_or_from_slice_get}
use Rattle.std.proofs.lemmas.List.{take_more, take_all, length-take-le, length-map, length_push}
use Rattle.std.proofs.lemmas.List.Elements.{All-push}
use Rattle.go_digraph_core.specs.declared.cycle.edge.Edge.{Edge}
use Rattle.go_digraph_core.specs.reach.Numbers.{Numbers}
use Rattle.go_block_core.specs.graph_core.Imports.{IsNumbered}
use Rattle.go_block_core.specs.graph_core.Packages.{IsAssembled}
use Rattle.go_block_core.specs.graph_core.Plans.{AreImporters, IsAssembledAt, PlanModel}
use Rattle.go_block_core.specs.graph_core.Sources.{SourceModel}
use Rattle.go_block_core.specs.graph_core.Workspaces.{PackageModel, AreAllRead, IsWorkspace}
use Rattle.go_block_core.specs.graph_core.Numbers.{has_one_number}
use Rattle.go_summary_core.specs.Summaries.{SummaryModel}
use Rattle.go_package_core.specs.package_part.Inputs.{InputModel}
use Rattle.go_package_core.specs.package_part.Parts.{PartModel, IsPart}
use Rattle.go_snap_core.specs.whole_workspace.Inputs.{AreParts, HasReached, IsInputAt, IsInputOf, IsPartOf, IsPassingImport}
use Rattle.go_snap_core.specs.whole_workspace.Laws.{AreOwnParts, HasPart, InputsStay, PartsComeInOrder}
use Rattle.go_snap_core.specs.make.Telling.{told_of}
use Rattle.go_digraph_core.specs.declared.ready_queue.mark.Mark.TheVariants as mark
use Rattle.go_digraph_core.specs.ready_queue.Turns.{TurnsModel, turns_with, Needs}
use Rattle.go_digraph_core.specs.ready_queue.Turns as turn
use Rattle.go_batch_core.specs.declared.slot.Slot.{Slot}
use Rattle.go_batch_core.specs.declared.slot.Slot.TheVariants.{NoAction, Untaken, Taken, Finished}
use Rattle.go_batch_core.specs.declared.tell.Tell.{Tell}
use Rattle.go_batch_core.specs.Batches.{AreImportsFinished, IsReady, batch_with, is_left, tell, unfinished}
use Rattle.go_batch_core.specs.mirrors.Keeping.{AreRight, IsKept, IsReadSlot, IsRight, IsSlotRight, mark_of}
use Rattle.go_batch_core.specs.mirrors.Tells.{AreWithin, tell_in, with_tells}
use Rattle.go_batch_core.proofs.Passing.{passing_from, passing_to, target_within}
use Rattle.go_batch_core.proofs.Slots.{at_set_same, at_set_other, at_map, at_map_back, map_set, length_set, some_at}

-- counting

left_push : (ss : List Slot) (s : Slot) → unfinished (ss ++ s ∷ []) ≡ unfinished ss + cond (is_left s) 1 0
left_push [] s = elim (is_left s) as (λ b. cond b 1 0 ≡ 0 + cond b 1 0) [ true ↦ refl | false ↦ refl ]
left_push (x ∷ xs) s = elim (is_left x) as (λ b. cond b (1 + unfinished (xs ++ s ∷ [])) (unfinished (xs ++ s ∷ [])) ≡ cond b (1 + unfinished xs) (unfinished xs) + cond (is_left s) 1 0) [ true ↦ omega (arith, left_push xs s) | false ↦ left_push xs s ]

-- one more of a list
pub left_more : (ss : List Slot) (i : ℕ) (s : Slot) (b : Bool) → i < length ss → s ≡ get_or ss i s → is_left s ≡ b → unfinished (take (i + 1) ss) ≡ unfinished (take i ss) + cond b 1 0
left_more ss i s b within at is =
    ap unfinished (take_more ss i s within ∙ ap (λ x. take i ss ++ x ∷ []) (sym at))
    ∙ left_push (take i ss) s
    ∙ ap (λ t. unfinished (take i ss) + cond t 1 0) is

left_most : (ss : List Slot) → unfinished ss ≤ length ss
left_most [] = omega arith
left_most (x ∷ xs) = elim (is_left x) as (λ b. cond b (1 + unfinished xs) (unfinished xs) ≤ suc (length xs)) [ true ↦ omega (arith, left_most xs) | false ↦ omega (arith, left_most xs) ]

pub left_below : (ss : List Slot) (i : ℕ) → i ≤ length ss → unfinished (take i ss) ≤ i
left_below ss i within = omega (arith, left_most (take i ss), length-take-le i ss within)

pub left_all : (ss : List Slot) (i : ℕ) → length ss ≤ i → unfinished (take i ss) ≡ unfinished ss
left_all ss i end = ap unfinished (take_all i ss end)

pub left_same : (ss : List Slot) (n : ℕ) (old new : Slot) → slice_get ss n ≡ Some old → is_left new ≡ is_left old → unfinished (set ss n new) ≡ unfinished ss
left_same [] n old new e same = refl
left_same (z ∷ zs) zero old new e same = (let is : z ≡ old = cc in ap (λ b. cond b (1 + unfinished zs) (unfinished zs)) (same ∙ ap is_left (sym is)))
left_same (z ∷ zs) (suc n) old new e same = ap (λ k. cond (is_left z) (1 + k) k) (left_same zs n old new e same)

pub left_less : (ss : List Slot) (n : ℕ) (old new : Slot) → slice_get ss n ≡ Some old → is_left old ≡ true → is_left new ≡ false → unfinished (set ss n new) + 1 ≡ unfinished ss
left_less [] n old new e was now = absurd (cc)
left_less (z ∷ zs) zero old new e was now =
    let is : z ≡ old = cc in
    let before : cond (is_left z) (1 + unfinished zs) (unfinished zs) ≡ 1 + unfinished zs = ap (λ b. cond b (1 + unfinished zs) (unfinished zs)) (ap is_left is ∙ was) in
    let after : cond (is_left new) (1 + unfinished zs) (unfinished zs) ≡ unfinished zs = ap (λ b. cond b (1 + unfinished zs) (unfinished zs)) now in
    omega (arith, before, after)
left_less (z ∷ zs) (suc n) old new e was now =
    let rest = left_less zs n old new e was now in
    elim (is_left z) as (λ b. cond b (1 + unfinished (set zs n new)) (unfinished (set zs n new)) + 1 ≡ cond b (1 + unfinished zs) (unfinished zs)) [ true ↦ omega (arith, rest) | false ↦ omega (arith, rest) ]

none_left : (ss : List Slot) (n : ℕ) (s : Slot) → unfinished ss ≡ 0 → slice_get ss n ≡ Some s → is_left s ≡ false
none_left [] n s z e = absurd (cc)
none_left (y ∷ ys) zero s z e =
    let is : y ≡ s = cc in
    elim (is_left s) as (λ b. (is_left s ≡ b) → b ≡ false) [
      | true ↦ λ t. (let here : cond (is_left y) (1 + unfinished ys) (unfinished ys) ≡ 1 + unfinished ys = ap (λ b. cond b (1 + unfinished ys) (unfinished ys)) (ap is_left is ∙ t) in absurd (omega (arith, here, z)))
      | false ↦ λ t. refl
    ] refl
none_left (y ∷ ys) (suc n) s z e =
    none_left ys n s (elim (is_left y) as (λ b. (cond b (1 + unfinished ys) (unfinished ys) ≡ 0) → unfinished ys ≡ 0) [ true ↦ λ h. absurd (omega (arith, h)) | false ↦ λ h. h ] z) e

-- marks and slots

waiting_is : (s : Slot) → mark_of s ≡ mark.Waiting → s ≡ Untaken
waiting_is NoAction e = absurd (cc)
waiting_is Untaken e = refl
waiting_is (Taken k i) e = absurd (cc)
waiting_is Finished e = absurd (cc)

finished_is : (s : Slot) → mark_of s ≡ mark.Finished → s ≡ Finished
finished_is NoAction e = absurd (cc)
finished_is Untaken e = absurd (cc)
finished_is (Taken k i) e = absurd (cc)
finished_is Finished e = refl

pub ready_from_turns : (ps : List PackageModel) (plan : PlanModel) (sets : List Numbers) (turns : TurnsModel) (slots : List Slot) (parts : List (Option PartModel)) (told : List (Option SummaryModel)) (untold : List Tell) (room left n : ℕ) → IsKept ps plan sets turns slots parts told untold room left → turn.IsReady turns n → IsReady (batch_with ps slots parts) n
ready_from_turns ps plan sets turns slots parts told untold room left n kept ready =
    let here = at_map_back mark_of slots n mark.Waiting (ap (λ ms. slice_get ms n) (sym kept.marks) ∙ ready.waits) in
    record {
      untaken = here.1 ∙ ap Some (waiting_is here.0 here.2);
      imports = λ e passing from.
          let row = some_at turns.needing e.to (omega (arith, kept.rows, kept.plans.planned.many, target_within ps e passing)) in
          let passes = passing_from ps plan e kept.plans.well kept.plans.planned passing in
          let need = (kept.importers e.to row.0 row.1 n).1 (passes.0, passes.1 ∙ from, passes.2) in
          let there = at_map_back mark_of slots e.to mark.Finished (ap (λ ms. slice_get ms e.to) (sym kept.marks) ∙ ready.needs e.to (row.0, row.1, need)) in
          there.1 ∙ ap Some (finished_is there.0 there.2);
    }

pub turns_from_ready : (ps : List PackageModel) (plan : PlanModel) (sets : List Numbers) (turns : TurnsModel) (slots : List Slot) (parts : List (Option PartModel)) (told : List (Option SummaryModel)) (untold : List Tell) (room left n : ℕ) → IsKept ps plan sets turns slots parts told untold room left → IsReady (batch_with ps slots parts) n → turn.IsReady turns n
turns_from_ready ps plan sets turns slots parts told untold room left n kept ready = record {
  waits = ap (λ ms. slice_get ms n) kept.marks ∙ at_map mark_of slots n Untaken ready.untaken;
  needs = λ m need.
      let e : Edge = record { from = n; to = m } in
      let passing : IsPassingImport ps e = passing_to ps plan e kept.plans.planned ((kept.importers m need.0 need.1 n).0 need.2) in
      ap (λ ms. slice_get ms m) kept.marks ∙ at_map mark_of slots m Finished (ready.imports e passing refl);
}

-- what is known of a slot

untaken_right : (ps : List PackageModel) (slots : List Slot) (parts : List (Option PartModel)) (n : ℕ) (o : Option PartModel) → IsSlotRight ps slots parts n Untaken o → IsAssembledAt ps n × (o ≡ None)
untaken_right ps slots parts n None right = (right, refl)
untaken_right ps slots parts n (Some p) right = absurd right

pub taken_right : (ps : List PackageModel) (slots : List Slot) (parts : List (Option PartModel)) (n k : ℕ) (i : InputModel) (o : Option PartModel) → IsSlotRight ps slots parts n (Taken k i) o → IsAssembledAt ps n × IsInputAt ps parts n i × AreImportsFinished ps slots n × (o ≡ None)
taken_right ps slots parts n k i None right = (right.0, right.1, right.2, refl)
taken_right ps slots parts n k i (Some p) right = absurd right

finished_right : (ps : List PackageModel) (slots : List Slot) (parts : List (Option PartModel)) (n : ℕ) (o : Option PartModel) → IsSlotRight ps slots parts n Finished o → (p : PartModel) × (o ≡ Some p) × IsInputAt ps parts n p.input × AreImportsFinished ps slots n × IsPart p.input p.content
finished_right ps slots parts n None right = absurd right
finished_right ps slots parts n (Some p) right = (p, refl, right.1, right.2, right.3)

part_right : (ps : List PackageModel) (slots : List Slot) (parts : List (Option PartModel)) (n : ℕ) (s : Slot) (p : PartModel) → IsSlotRight ps slots parts n s (Some p) → IsInputAt ps parts n p.input × AreImportsFinished ps slots n × IsPart p.input p.content
part_right ps slots parts n NoAction p right = absurd right
part_right ps slots parts n Untaken p right = absurd right
part_right ps slots parts n (Taken k i) p right = absurd right
part_right ps slots parts n Finished p right = (right.1, right.2, right.3)

-- what is known of a part
pub known_part : (ps : List PackageModel) (slots : List Slot) (parts : List (Option PartModel)) (n : ℕ) (p : PartModel) → AreRight ps slots parts → slice_get parts n ≡ Some (Some p) → IsInputAt ps parts n p.input × AreImportsFinished ps slots n × IsPart p.input p.content
known_part ps slots parts n p right at =
    let slot = some_at slots n (omega (arith, right.many, right.many_parts, slice_get_within parts n (Some p) at)) in
    let r = right.each n slot.0 slot.1 in
    let same : r.part ≡ Some p = (let e : Some r.part ≡ Some (Some p) = sym r.there ∙ at in cc) in
    part_right ps slots parts n slot.0 p (subst (λ (o : Option PartModel). IsSlotRight ps slots parts n slot.0 o) same r.right)

pub assembled_at : (ps : List PackageModel) (slots : List Slot) (parts : List (Option PartModel)) (n : ℕ) → AreRight ps slots parts → slice_get slots n ≡ Some Untaken → IsAssembledAt ps n
assembled_at ps slots parts n right e = (let r = right.each n Untaken e in (untaken_right ps slots parts n r.part r.right).0)

pub no_part_yet : (ps : List PackageModel) (slots : List Slot) (parts : List (Option PartModel)) (n k : ℕ) (i : InputModel) → AreRight ps slots parts → slice_get slots n ≡ Some (Taken k i) → slice_get parts n ≡ Some None
no_part_yet ps slots parts n k i right e = (let r = right.each n (Taken k i) e in r.there ∙ ap Some (taken_right ps slots parts n k i r.part r.right).3)

-- what a package reaches has parts

part_there : (ps : List PackageModel) (slots : List Slot) (parts : List (Option PartModel)) (n : ℕ) → AreRight ps slots parts → slice_get slots n ≡ Some Finished → (p : PartModel) × (slice_get parts n ≡ Some (Some p)) × AreImportsFinished ps slots n
part_there ps slots parts n right e =
    let r = right.each n Finished e in
    let f = finished_right ps slots parts n r.part r.right in
    (f.0, r.there ∙ ap Some f.1, f.3)

own_parts : (ps : List PackageModel) (slots : List Slot) (parts : List (Option PartModel)) → AreRight ps slots parts → AreOwnParts ps parts
own_parts ps slots parts right = λ n p at. (let known = known_part ps slots parts n p right at in (known.0.numbered, known.2))

imports_have_parts : (ps : List PackageModel) (slots : List Slot) (parts : List (Option PartModel)) (n : ℕ) → AreRight ps slots parts → AreImportsFinished ps slots n → (e : Edge) → IsPassingImport ps e → e.from ≡ n → HasPart parts e.to
imports_have_parts ps slots parts n right imports e passing from = (let p = part_there ps slots parts e.to right (imports e passing from) in (p.0, p.1))

pub has_reached : PartsComeInOrder → (ps : List PackageModel) (slots : List Slot) (parts : List (Option PartModel)) (n : ℕ) → AreRight ps slots parts → AreImportsFinished ps slots n → HasReached ps parts n
has_reached law ps slots parts n right imports =
    law.reached ps parts (own_parts ps slots parts right)
    (λ e passing has. imports_have_parts ps slots parts e.from right (known_part ps slots parts e.from has.0 right has.1).1 e passing refl)
    n (imports_have_parts ps slots parts n right imports)

-- what is finished stays so

finished_stays : (slots : List Slot) (n : ℕ) (old new : Slot) → slice_get slots n ≡ Some old → (old ≡ Finished → ⊥) → (m : ℕ) → slice_get slots m ≡ Some Finished → slice_get (set slots n new) m ≡ Some Finished
finished_stays slots n old new here other m e = at_set_other slots n m new (λ same. other (let both : Some old ≡ Some Finished = sym here ∙ ap (slice_get slots) (sym same) ∙ e in cc)) ∙ e

imports_stay : (ps : List PackageModel) (slots : List Slot) (n : ℕ) (old new : Slot) → slice_get slots n ≡ Some old → (old ≡ Finished → ⊥) → (m : ℕ) → AreImportsFinished ps slots m → AreImportsFinished ps (set slots n new) m
imports_stay ps slots n old new here other m imports = λ e passing from. finished_stays slots n old new here other e.to (imports e passing from)

slot_stays : (ps : List PackageModel) (slots : List Slot) (parts : List (Option PartModel)) (n : ℕ) (old new : Slot) → slice_get slots n ≡ Some old → (old ≡ Finished → ⊥) → (m : ℕ) (s : Slot) (o : Option PartModel) → IsSlotRight ps slots parts m s o → IsSlotRight ps (set slots n new) parts m s o
slot_stays ps slots parts n old new here other m NoAction None right = right
slot_stays ps slots parts n old new here other m Untaken None right = right
slot_stays ps slots parts n old new here other m (Taken k i) None right = (right.0, right.1, imports_stay ps slots n old new here other m right.2)
slot_stays ps slots parts n old new here other m Finished (Some p) right = (right.0, right.1, imports_stay ps slots n old new here other m right.2, right.3)
slot_stays ps slots parts n old new here other m NoAction (Some p) right = right
slot_stays ps slots parts n old new here other m Untaken (Some p) right = right
slot_stays ps slots parts n old new here other m (Taken k i) (Some p) right = right
slot_stays ps slots parts n old new here other m Finished None right = right

slot_more : InputsStay → (ps : List PackageModel) (slots : List Slot) (parts : List (Option PartModel)) (n : ℕ) (p : PartModel) → slice_get parts n ≡ Some None → (m : ℕ) (s : Slot) (o : Option PartModel) → IsSlotRight ps slots parts m s o → IsSlotRight ps slots (set parts n (Some p)) m s o
slot_more law ps slots parts n p none m NoAction None right = right
slot_more law ps slots parts n p none m Untaken None right = right
slot_more law ps slots parts n p none m (Taken k i) None right = (right.0, law.put ps parts n p none m i right.1, right.2)
slot_more law ps slots parts n p none m Finished (Some q) right = (right.0, law.put ps parts n p none m q.input right.1, right.2, right.3)
slot_more law ps slots parts n p none m NoAction (Some q) right = right
slot_more law ps slots parts n p none m Untaken (Some q) right = right
slot_more law ps slots parts n p none m (Taken k i) (Some q) right = right
slot_more law ps slots parts n p none m Finished None right = right

right_taken : (ps : List PackageModel) (slots : List Slot) (parts : List (Option PartModel)) (n k : ℕ) (i : InputModel) → AreRight ps slots parts → slice_get slots n ≡ Some Untaken → AreImportsFinished ps slots n → IsInputAt ps parts n i → AreRight ps (set slots n (Taken k i)) parts
right_taken ps slots parts n k i right untaken imports input =
    let new = Taken k i in
    let other : Untaken ≡ Finished → ⊥ = λ e. cc in
    record {
      many = length_set slots n new ∙ right.many;
      many_parts = right.many_parts;
      each = λ m s e. ⊎_elim
          (λ (same : m ≡ n).
          let r = right.each n Untaken untaken in
          let known = untaken_right ps slots parts n r.part r.right in
          let is : s ≡ new = (let both : Some s ≡ Some new = sym e ∙ ap (slice_get (set slots n new)) same ∙ at_set_same slots n new (slice_get_within slots n Untaken untaken) in cc) in
          let here : IsRight ps (set slots n new) parts n new = record { part = None; there = r.there ∙ ap Some known.1; right = (known.0, input, imports_stay ps slots n Untaken new untaken other n imports) } in
          subst (λ (x : ℕ). IsRight ps (set slots n new) parts x s) (sym same) (subst (λ (x : Slot). IsRight ps (set slots n new) parts n x) (sym is) here))
          (λ (ne : m ≢ n).
          let r = right.each m s (sym (at_set_other slots n m new ne) ∙ e) in
          record { part = r.part; there = r.there; right = slot_stays ps slots parts n Untaken new untaken other m s r.part r.right })
          (cases_eq m n);
    }

pub kept_taken : (ps : List PackageModel) (plan : PlanModel) (sets : List Numbers) (turns after : TurnsModel) (slots : List Slot) (parts : List (Option PartModel)) (told : List (Option SummaryModel)) (untold : List Tell) (room left n k : ℕ) (i : InputModel) → IsKept ps plan sets turns slots parts told untold room left → IsReady (batch_with ps slots parts) n → IsInputAt ps parts n i → after ≡ turns_with (set turns.marks n mark.Taken) turns.needing → IsKept ps plan sets after (set slots n (Taken k i)) parts told untold room left
kept_taken ps plan sets turns after slots parts told untold room left n k i kept ready input is = record {
  plans = kept.plans;
  importers = subst (λ (t : TurnsModel). AreImporters plan t.needing) (sym is) kept.importers;
  rows = ap (λ (t : TurnsModel). length t.needing) is ∙ kept.rows;
  marks = ap (λ (t : TurnsModel). t.marks) is ∙ ap (λ ms. set ms n mark.Taken) kept.marks ∙ sym (map_set mark_of slots n (Taken k i));
  right = right_taken ps slots parts n k i kept.right ready.untaken ready.imports input;
  tells = kept.tells;
  within = kept.within;
  has_room = kept.has_room;
  counted = kept.counted ∙ sym (left_same slots n Untaken (Taken k i) ready.untaken refl);
}

pub right_finished : InputsStay → (ps : List PackageModel) (slots : List Slot) (parts : List (Option PartModel)) (n k : ℕ) (p : PartModel) → AreRight ps slots parts → slice_get slots n ≡ Some (Taken k p.input) → IsPart p.input p.content → AreRight ps (set slots n Finished) (set parts n (Some p))
right_finished law ps slots parts n k p right taken made =
    let none = no_part_yet ps slots parts n k p.input right taken in
    let other : Taken k p.input ≡ Finished → ⊥ = λ e. cc in
    let more = set parts n (Some p) in
    record {
      many = length_set slots n Finished ∙ right.many;
      many_parts = length_set parts n (Some p) ∙ right.many_parts;
      each = λ m s e. ⊎_elim
          (λ (same : m ≡ n).
          let r = right.each n (Taken k p.input) taken in
          let known = taken_right ps slots parts n k p.input r.part r.right in
          let is : s ≡ Finished = (let both : Some s ≡ Some Finished = sym e ∙ ap (slice_get (set slots n Finished)) same ∙ at_set_same slots n Finished (slice_get_within slots n (Taken k p.input) taken) in cc) in
          let here : IsRight ps (set slots n Finished) more n Finished = record {
            part = Some p;
            there = at_set_same parts n (Some p) (slice_get_within parts n None none);
            right = (known.0, law.put ps parts n p none n p.input known.1, imports_stay ps slots n (Taken k p.input) Finished taken other n known.2, made);
          } in
          subst (λ (x : ℕ). IsRight ps (set slots n Finished) more x s) (sym same) (subst (λ (x : Slot). IsRight ps (set slots n Finished) more n x) (sym is) here))
          (λ (ne : m ≢ n).
          let r = right.each m s (sym (at_set_other slots n m Finished ne) ∙ e) in
          record {
            part = r.part;
            there = at_set_other parts n m (Some p) ne ∙ r.there;
            right = slot_more law ps (set slots n Finished) parts n p none m s r.part (slot_stays ps slots parts n (Taken k p.input) Finished taken other m s r.part r.right);
          })
          (cases_eq m n);
    }

-- what packages tell with one more part
pub told_more : (parts : List (Option PartModel)) (n : ℕ) (p : PartModel) → told_of (set parts n (Some p)) ≡ set (told_of parts) n (Some p.content.summary)
told_more parts n p = map_set (option_map (λ (q : PartModel). q.content.summary)) parts n (Some p)

-- with one more that is not added yet
pub tells_push : (told : List (Option SummaryModel)) (ts : List Tell) (t : Tell) → with_tells told (ts ++ t ∷ []) ≡ tell_in (with_tells told ts) t
tells_push told [] t = refl
tells_push told (u ∷ us) t = tells_push (tell_in told u) us t

pub tells_long : (told : List (Option SummaryModel)) (ts : List Tell) → length (with_tells told ts) ≡ length told
tells_long told [] = refl
tells_long told (t ∷ ts) = tells_long (tell_in told t) ts ∙ length_set told t.place (Some t.part.content.summary)

within_push : (count : ℕ) (ts : List Tell) (t : Tell) → AreWithin count ts → t.place < count → AreWithin count (ts ++ t ∷ [])
within_push count ts t all here = All-push (λ (u : Tell). u.place < count) ts t all here

pub kept_finished : InputsStay → (ps : List PackageModel) (plan : PlanModel) (sets : List Numbers) (turns after : TurnsModel) (slots : List Slot) (parts more : List (Option PartModel)) (told : List (Option SummaryModel)) (untold longer : List Tell) (room wider left less n k : ℕ) (p : PartModel) → IsKept ps plan sets turns slots parts told untold room left → slice_get slots n ≡ Some (Taken k p.input) → IsPart p.input p.content → after ≡ turns_with (set turns.marks n mark.Finished) turns.needing → more ≡ set parts n (Some p) → longer ≡ untold ++ tell n p ∷ [] → room ≤ wider → less ≡ left - 1 → IsKept ps plan sets after (set slots n Finished) more told longer wider less
kept_finished law ps plan sets turns after slots parts more told untold longer room wider left less n k p kept taken made is same longer_is wide fewer =
    let some : 0 < left = omega (arith, kept.counted, left_less slots n (Taken k p.input) Finished taken refl refl) in
    let inside : n < length told = omega (arith, kept.right.many, kept.right.many_parts, slice_get_within slots n (Taken k p.input) taken, tells_long told untold, ap length kept.tells, length-map parts (option_map (λ (q : PartModel). q.content.summary))) in
    let long : length longer ≡ length untold + 1 = ap length longer_is ∙ length_push untold (tell n p) in
    record {
      plans = kept.plans;
      importers = subst (λ (t : TurnsModel). AreImporters plan t.needing) (sym is) kept.importers;
      rows = ap (λ (t : TurnsModel). length t.needing) is ∙ kept.rows;
      marks = ap (λ (t : TurnsModel). t.marks) is ∙ ap (λ ms. set ms n mark.Finished) kept.marks ∙ sym (map_set mark_of slots n Finished);
      right = subst (λ (l : List (Option PartModel)). AreRight ps (set slots n Finished) l) (sym same) (right_finished law ps slots parts n k p kept.right taken made);
      tells = ap (with_tells told) longer_is ∙ tells_push told untold (tell n p) ∙ ap (λ l. set l n (Some p.content.summary)) kept.tells ∙ sym (told_more parts n p) ∙ ap told_of (sym same);
      within = subst (AreWithin (length told)) (sym longer_is) (within_push (length told) untold (tell n p) kept.within inside);
      has_room = omega (arith, kept.has_room, long, wide, fewer, some);
      counted = omega (arith, fewer, kept.counted, left_less slots n (Taken k p.input) Finished taken refl refl);
    }

pub some_left : (ps : List PackageModel) (plan : PlanModel) (sets : List Numbers) (turns : TurnsModel) (slots : List Slot) (parts : List (Option PartModel)) (told : List (Option SummaryModel)) (untold : List Tell) (room left n k : ℕ) (i : InputModel) → IsKept ps plan sets turns slots parts told untold room left → slice_get slots n ≡ Some (Taken k i) → 0 < left
some_left ps plan sets turns slots parts told untold room left n k i kept taken = omega (arith, kept.counted, left_less slots n (Taken k i) Finished taken refl refl)

-- all parts

part_of_slot : (ps : List PackageModel) (slots : List Slot) (parts : List (Option PartModel)) (n : ℕ) (q : PackageModel) (s : Slot) (o : Option PartModel) → slice_get ps n ≡ Some q → is_left s ≡ false → IsSlotRight ps slots parts n s o → IsPartOf ps parts n q o
part_of_slot ps slots parts n q NoAction None at over right = λ assembled. right (q.0, q.1, at, assembled)
part_of_slot ps slots parts n q NoAction (Some p) at over right = absurd right
part_of_slot ps slots parts n q Untaken o at over right = absurd (cc)
part_of_slot ps slots parts n q (Taken k i) o at over right = absurd (cc)
part_of_slot ps slots parts n q Finished None at over right = absurd right
part_of_slot ps slots parts n q Finished (Some p) at over right =
    let files : right.0.1 ≡ q.1 = (let e : Some (right.0.0, right.0.1) ≡ Some q = sym right.0.2 ∙ at in (let f : (right.0.0, right.0.1) ≡ q = cc in ap (λ (x : PackageModel). x.1) f)) in
    let source : p.input.source ≡ q = (let e : Some p.input.source ≡ Some q = sym right.1.numbered ∙ at in cc) in
    (subst IsAssembled files right.0.3, subst (λ (x : PackageModel). IsInputOf ps parts n x p.input) source right.1.input, right.3)

pub all_parts : PartsComeInOrder → (ps : List PackageModel) (slots : List Slot) (parts : List (Option PartModel)) → AreRight ps slots parts → unfinished slots ≡ 0 → AreParts ps parts
all_parts law ps slots parts right none =
    law.all ps parts right.many_parts (λ n q o at there.
    let slot = some_at slots n (omega (arith, right.many, slice_get_within ps n q at)) in
    let r = right.each n slot.0 slot.1 in
    let same : r.part ≡ o = (let e : Some r.part ≡ Some o = sym r.there ∙ there in cc) in
    part_of_slot ps slots parts n q slot.0 o at (none_left slots n slot.0 none slot.1) (subst (λ (x : Option PartModel). IsSlotRight ps slots parts n slot.0 x) same r.right))

-- which action a part is of

pub foreign_path : (ps : List PackageModel) (slots : List Slot) (parts : List (Option PartModel)) (k : ℕ) (p : PartModel) (m : ℕ) → AreRight ps slots parts → slice_get slots m ≡ Some (Taken k p.input) → IsNumbered ps p.input.source.0 m p.input.source.1
foreign_path ps slots parts k p m right taken =
    let r = right.each m (Taken k p.input) taken in
    (taken_right ps slots parts m k p.input r.part r.right).1.numbered

pub foreign_none : (ps packages : List PackageModel) (slots : List Slot) (parts : List (Option PartModel)) (k : ℕ) (p : PartModel) (text : List ℕ) → AreRight ps slots parts → packages ≡ ps → text ≡ p.input.source.0 → ((i : ℕ) (files : List SourceModel) → IsNumbered packages text i files → ⊥) → (m : ℕ) → slice_get slots m ≡ Some (Taken k p.input) → ⊥
foreign_none ps packages slots parts k p text right same written none m taken =
    none m p.input.source.1 (ap (λ q. slice_get q m) same ∙ foreign_path ps slots parts k p m right taken ∙ ap (λ (q : List ℕ). Some (q, p.input.source.1)) (sym written))

pub foreign_other : (ps packages : List PackageModel) (slots : List Slot) (parts : List (Option PartModel)) (k : ℕ) (p : PartModel) (text : List ℕ) (place : ℕ) (files : List SourceModel) (here : Slot) → IsWorkspace ps → AreRight ps slots parts → packages ≡ ps → text ≡ p.input.source.0 → IsNumbered packages text place files → here ≡ get_or slots place here → (here ≡ Taken k p.input → ⊥) → (m : ℕ) → slice_get slots m ≡ Some (Taken k p.input) → ⊥
foreign_other ps packages slots parts k p text place files here well right same written numbered is other m taken =
    let at : IsNumbered ps p.input.source.0 place files = ap (λ q. slice_get q place) (sym same) ∙ numbered ∙ ap (λ (q : List ℕ). Some (q, files)) written in
    let one : m ≡ place = has_one_number ps p.input.source.0 m place p.input.source.1 files well (foreign_path ps slots parts k p m right taken) at in
    let there : slice_get slots place ≡ Some (Taken k p.input) = ap (slice_get slots) (sym one) ∙ taken in
    other (is ∙ get_or_from_slice_get slots place (Taken k p.input) here there)

pub place_within : (ps packages : List PackageModel) (slots : List Slot) (parts : List (Option PartModel)) (text : List ℕ) (place : ℕ) (files : List SourceModel) → AreRight ps slots parts → packages ≡ ps → IsNumbered packages text place files → place < length slots
place_within ps packages slots parts text place files right same numbered = omega (arith, right.many, ap length same, slice_get_within packages place (text, files) numbered)

-- where each file of a workspace is read, the files of a package are as they are read
pub read_at : (ps : List PackageModel) (n : ℕ) (p : PackageModel) → All AreAllRead ps → slice_get ps n ≡ Some p → AreAllRead p
read_at ps n p read at = subst AreAllRead (get_or_from_slice_get ps n p p at) (read n p (slice_get_within ps n p at))

pub read_slot : (ps : List PackageModel) (slots : List Slot) (parts : List (Option PartModel)) (n : ℕ) (s : Slot) → All AreAllRead ps → AreRight ps slots parts → slice_get slots n ≡ Some s → IsReadSlot s
read_slot ps slots parts n NoAction read right at = tt
read_slot ps slots parts n Untaken read right at = tt
read_slot ps slots parts n Finished read right at = tt
read_slot ps slots parts n (Taken k i) read right at =
    let r = right.each n (Taken k i) at in
    read_at ps n i.source read (taken_right ps slots parts n k i r.part r.right).1.numbered
