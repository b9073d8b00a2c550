-- Marks beside the last snapshot, as actions are handed out and finished.
use Rattle.std.proofs.Common.{◌≡◌, ◌<◌, ◌≢◌, ⊎_elim, ℕ, zero, suc, ◌+◌, Bool, true, false, All, List, [], ◌∷◌, length, replicate, set, refl, sym, ap, ◌∙◌, subst, arith, Option, Some, None}
use Rattle.std.specs.Prelude.{slice_get}
use Rattle.std.proofs.lemmas.Bool.{cases_eq}
use Rattle.std.proofs.lemmas.List.{length-replicate}
use Rattle.std.proofs.lemmas.Option.{slice_get_within}
use Rattle.go_block_core.specs.graph_core.Workspaces.{AreAllRead, PackageModel}
use Rattle.go_package_core.specs.package_part.Inputs.{InputModel}
use Rattle.go_package_core.specs.package_part.Parts.{PartModel}
use Rattle.go_snap_core.specs.Snapshots.{SnapshotModel}
use Rattle.go_summary_core.specs.Summaries.{SummaryModel}
use Rattle.go_snap_core.specs.whole_workspace.Inputs.{AreParts, HasReached, IsInputAt, IsInputOf, IsPartOf, ReachesPackage, Tells}
use Rattle.go_batch_core.specs.Batches.{Awaits, BatchModel, IsBegun, batch_with, with_part}
use Rattle.go_batch_core.specs.Steadiness.{AreAgain, AreSameAt, BeginsSteady, IsRetold, IsRetoldOf, IsSteady, IsStoodFor, StaysAt, SteadyModel, WasAt, is_moved, is_retyped, steady_with}
use Rattle.go_batch_core.specs.declared.retold.Retold.{Retold}
use Rattle.go_batch_core.specs.declared.retold.Retold.TheVariants as retolds
use Rattle.go_locality_laws.specs.Beside.{TellsTypes}
use Rattle.go_batch_core.specs.declared.slot.Slot.TheVariants.{Untaken, Taken, Finished}
use Rattle.go_block_core.specs.graph_core.Lists.{AllNumbered}
use Rattle.go_batch_core.proofs.Slots.{at_replicate, at_set_other, at_set_same, length_set}
use Rattle.go_batch_core.proofs.Staying.{input_stays}
use Rattle.go_batch_core.proofs.Steps.{read_at}

-- what stands where something was set
set_there : {X : Type 0} (xs : List X) (k : ℕ) (y z : X) → slice_get (set xs k y) k ≡ Some z → y ≡ z
set_there [] k y z e = absurd cc
set_there (x ∷ xs) zero y z e = (let both : Some y ≡ Some z = e in cc)
set_there (x ∷ xs) (suc k) y z e = set_there xs k y z e

one_part : (parts : List (Option PartModel)) (n : ℕ) (p q : PartModel) → WasAt parts n p → WasAt parts n q → p ≡ q
one_part parts n p q a b = (let both : Some (Some p) ≡ Some (Some q) = sym a ∙ b in let inner : Some p ≡ Some q = cc in cc)

-- the item at a place of which the partner is known
pub numbered_back : {A B : Type 0} (R : ℕ → A → B → Type 0) (k : ℕ) (xs : List A) (ys : List B) (i : ℕ) (y : B) → AllNumbered R k xs ys → slice_get ys i ≡ Some y → (x : A) × (slice_get xs i ≡ Some x) × R (k + i) x y
numbered_back R k xs [] i y h e = cc
numbered_back R k [] (b ∷ ys) i y h e = absurd h
numbered_back R k (a ∷ xs) (b ∷ ys) zero y h e = (let same : b ≡ y = cc in let n : k ≡ k + 0 = omega arith in (a, refl, subst (λ m. R m a y) n (subst (λ z. R k a z) same h.0)))
numbered_back R k (a ∷ xs) (b ∷ ys) (suc i) y h e =
    let rest = numbered_back R (suc k) xs ys i y h.1 e in
    let n : suc k + i ≡ k + suc i = omega arith in
    (rest.0, rest.1, subst (λ m. R m rest.0 y) n rest.2)

none_marked : (marks : List Bool) (count n : ℕ) → marks ≡ replicate count false → slice_get marks n ≡ Some true → ⊥
none_marked marks count n is marked = (let no : true ≡ false = at_replicate count n false true (ap (λ (l : List Bool). slice_get l n) (sym is) ∙ marked) in cc)

-- nothing is handed out yet
pub steady_begun : (s : SnapshotModel) (ps : List PackageModel) (b : BatchModel) (m : SteadyModel) → BeginsSteady s.sources ps m → IsBegun ps b → IsSteady s b m
steady_begun s ps b m begins begun = record {
  same = subst (λ (qs : List PackageModel). AreSameAt s.sources qs m.same) (sym begun.sources) begins.same;
  many = ap length begins.moved ∙ length-replicate {A = Bool} (length m.same) false ∙ begins.many ∙ sym begun.many;
  moved = λ n p at unmarked. absurd (let none : Some p ≡ None = begun.parts n (Some p) at in cc);
  many_types = ap length begins.retyped ∙ length-replicate {A = Bool} (length m.same) false ∙ begins.many ∙ sym begun.many;
  retyped = λ n p at unmarked. absurd (let none : Some p ≡ None = begun.parts n (Some p) at in cc);
  kept = λ n k i at marked. absurd (none_marked m.kept (length m.same) n begins.kept marked);
  stood = λ n k i at marked. absurd (none_marked m.stood (length m.same) n begins.stood marked);
  again = λ n marked. absurd (none_marked m.kept (length m.same) n begins.kept marked);
  finished = λ n p at. absurd (let none : Some p ≡ None = begun.parts n (Some p) at in cc);
}

-- what is not taken yet has no part
none_untaken : (s : SnapshotModel) (b : BatchModel) (m : SteadyModel) (place : ℕ) (p : PartModel) → IsSteady s b m → slice_get b.slots place ≡ Some Untaken → WasAt b.parts place p → ⊥
none_untaken s b m place p is untaken at = (let both : Some Finished ≡ Some Untaken = sym (is.finished place p at) ∙ untaken in cc)

-- an action is handed out
pub steady_handed : (s : SnapshotModel) (b : BatchModel) (m : SteadyModel) (place number : ℕ) (i : InputModel) (kept stood : Bool) → IsSteady s b m → slice_get b.slots place ≡ Some Untaken → slice_get b.sources place ≡ Some i.source
    → (kept ≡ true → (p : PartModel) × WasAt s.parts place p × (p.input ≡ i)) → (stood ≡ true → IsStoodFor s place i)
    → IsSteady s (batch_with b.sources (set b.slots place (Taken number i)) b.parts) (steady_with m.same m.moved m.retyped (set m.kept place kept) (set m.stood place stood))
steady_handed s b m place number i kept stood is untaken numbered known stands = record {
  same = is.same;
  many = is.many ∙ sym (length_set b.slots place (Taken number i));
  moved = is.moved;
  kept = λ n k j at marked. ⊎_elim
      (λ (same : n ≡ place).
      let here : slice_get (set b.slots place (Taken number i)) place ≡ Some (Taken k j) = subst (λ (x : ℕ). slice_get (set b.slots place (Taken number i)) x ≡ Some (Taken k j)) same at in
      let slot : Taken number i ≡ Taken k j = set_there b.slots place (Taken number i) (Taken k j) here in
      let input : i ≡ j = cc in
      let mark : kept ≡ true = set_there m.kept place kept true (subst (λ (x : ℕ). slice_get (set m.kept place kept) x ≡ Some true) same marked) in
      let p = known mark in
      (p.0, subst (λ (x : ℕ). WasAt s.parts x p.0) (sym same) p.1, p.2 ∙ input))
      (λ (ne : n ≢ place). is.kept n k j (sym (at_set_other b.slots place n (Taken number i) ne) ∙ at) (sym (at_set_other m.kept place n kept ne) ∙ marked))
      (cases_eq n place);
  many_types = is.many_types ∙ sym (length_set b.slots place (Taken number i));
  retyped = is.retyped;
  stood = λ n k j at marked. ⊎_elim
      (λ (same : n ≡ place).
      let here : slice_get (set b.slots place (Taken number i)) place ≡ Some (Taken k j) = subst (λ (x : ℕ). slice_get (set b.slots place (Taken number i)) x ≡ Some (Taken k j)) same at in
      let slot : Taken number i ≡ Taken k j = set_there b.slots place (Taken number i) (Taken k j) here in
      let input : i ≡ j = cc in
      let mark : stood ≡ true = set_there m.stood place stood true (subst (λ (x : ℕ). slice_get (set m.stood place stood) x ≡ Some true) same marked) in
      let p = stands mark in
      subst (λ (x : ℕ). IsStoodFor s x j) (sym same) (subst (IsStoodFor s place) input p))
      (λ (ne : n ≢ place). is.stood n k j (sym (at_set_other b.slots place n (Taken number i) ne) ∙ at) (sym (at_set_other m.stood place n stood ne) ∙ marked))
      (cases_eq n place);
  again = λ n marked. ⊎_elim
      (λ (same : n ≡ place).
      let mark : kept ≡ true = set_there m.kept place kept true (subst (λ (x : ℕ). slice_get (set m.kept place kept) x ≡ Some true) same marked) in
      let p = known mark in
      record {
        earlier = p.0;
        was = subst (λ (x : ℕ). WasAt s.parts x p.0) (sym same) p.1;
        source = ap (slice_get b.sources) same ∙ numbered ∙ ap (λ (j : InputModel). Some j.source) (sym p.2);
        made = λ q at. absurd (none_untaken s b m place q is untaken (subst (λ (x : ℕ). WasAt b.parts x q) same at));
      })
      (λ (ne : n ≢ place). is.again n (sym (at_set_other m.kept place n kept ne) ∙ marked))
      (cases_eq n place);
  finished = λ n p at. ⊎_elim
      (λ (same : n ≡ place). absurd (none_untaken s b m place p is untaken (subst (λ (x : ℕ). WasAt b.parts x p) same at)))
      (λ (ne : n ≢ place). at_set_other b.slots place n (Taken number i) ne ∙ is.finished n p at)
      (cases_eq n place);
}

-- a part is put to an action that was taken with its input
pub again_finished : (s : SnapshotModel) (b : BatchModel) (m : SteadyModel) (place number : ℕ) (part : PartModel) → IsSteady s b m → Awaits b place number part → AreAgain s b.sources (set b.parts place (Some part)) m.kept
again_finished s b m place number part is awaits n marked =
    let old = is.again n marked in
    record {
      earlier = old.earlier;
      was = old.was;
      source = old.source;
      made = λ q at. ⊎_elim
          (λ (same : n ≡ place).
          let here : slice_get (set b.parts place (Some part)) place ≡ Some (Some q) = subst (λ (x : ℕ). WasAt (set b.parts place (Some part)) x q) same at in
          let both : Some part ≡ Some q = set_there b.parts place (Some part) (Some q) here in
          let is_part : part ≡ q = cc in
          let known = is.kept place number part.input awaits (subst (λ (x : ℕ). slice_get m.kept x ≡ Some true) same marked) in
          let one : old.earlier ≡ known.0 = one_part s.parts place old.earlier known.0 (subst (λ (x : ℕ). WasAt s.parts x old.earlier) same old.was) known.1 in
          ap (λ (p : PartModel). p.input) one ∙ known.2 ∙ ap (λ (p : PartModel). p.input) is_part)
          (λ (ne : n ≢ place). old.made q (sym (at_set_other b.parts place n (Some part) ne) ∙ at))
          (cases_eq n place);
    }

-- what a part tells beside the one that was there
pub retold_at : (r : Retold) (parts : List (Option PartModel)) (n : ℕ) (earlier p : PartModel) → WasAt parts n earlier → IsRetoldOf r earlier.content.summary p.content.summary → IsRetold r parts n p
retold_at retolds.Same parts n earlier p was is = record { of_part = earlier; there = was; is = is }
retold_at retolds.SameTypes parts n earlier p was is = (earlier.content.summary, record { of_part = earlier; there = was; is = refl }, is)
retold_at retolds.OtherTypes parts n earlier p was is = tt

-- what an unmarked part tells

unmoved : (r : Retold) (parts : List (Option PartModel)) (n : ℕ) (p : PartModel) → IsRetold r parts n p → is_moved r ≡ false → Tells parts n p.content.summary
unmoved retolds.Same parts n p tells e = tells
unmoved retolds.SameTypes parts n p tells e = absurd (let no : true ≡ false = e in cc)
unmoved retolds.OtherTypes parts n p tells e = absurd (let no : true ≡ false = e in cc)

unretyped : (r : Retold) (parts : List (Option PartModel)) (n : ℕ) (p : PartModel) → IsRetold r parts n p → is_retyped r ≡ false → TellsTypes parts n p.content.summary
unretyped retolds.Same parts n p tells e = (p.content.summary, tells, refl)
unretyped retolds.SameTypes parts n p tells e = tells
unretyped retolds.OtherTypes parts n p tells e = absurd (let no : true ≡ false = e in cc)

-- what stays of marks where one is set, of the parts that are there
set_marks : (Is : ℕ → PartModel → Type 0) (parts : List (Option PartModel)) (marks : List Bool) (place : ℕ) (part : PartModel) (mark : Bool) → place < length marks
    → ((n : ℕ) (p : PartModel) → slice_get parts n ≡ Some (Some p) → (slice_get marks n ≡ Some true → ⊥) → Is n p) → (mark ≡ false → Is place part)
    → (n : ℕ) (p : PartModel) → slice_get (set parts place (Some part)) n ≡ Some (Some p) → (slice_get (set marks place mark) n ≡ Some true → ⊥) → Is n p
set_marks Is parts marks place part mark within each here n p at unmarked = ⊎_elim
    (λ (same : n ≡ place).
    let there : slice_get (set parts place (Some part)) place ≡ Some (Some p) = subst (λ (x : ℕ). slice_get (set parts place (Some part)) x ≡ Some (Some p)) same at in
    let both : Some part ≡ Some p = set_there parts place (Some part) (Some p) there in
    let is_part : part ≡ p = cc in
    let no : mark ≡ true → ⊥ = λ said. unmarked (subst (λ (x : ℕ). slice_get (set marks place mark) x ≡ Some true) (sym same) (at_set_same marks place mark within ∙ ap Some said)) in
    let off : mark ≡ false = elim mark as (λ x. (x ≡ true → ⊥) → x ≡ false) [ true ↦ λ n'. absurd (n' refl) | false ↦ λ n'. refl ] no in
    subst (λ (x : ℕ). Is x p) (sym same) (subst (Is place) is_part (here off)))
    (λ (ne : n ≢ place). each n p (sym (at_set_other parts place n (Some part) ne) ∙ at) (λ marked. unmarked (at_set_other marks place n mark ne ∙ marked)))
    (cases_eq n place)

-- an action is finished
pub steady_finished : (s : SnapshotModel) (b : BatchModel) (m : SteadyModel) (place number : ℕ) (part : PartModel) (retold : Retold) → IsSteady s b m → Awaits b place number part → IsRetold retold s.parts place part
    → IsSteady s (with_part b place part) (steady_with m.same (set m.moved place (is_moved retold)) (set m.retyped place (is_retyped retold)) m.kept m.stood)
steady_finished s b m place number part retold is awaits tells =
    let moved = is_moved retold in
    let retyped = is_retyped retold in
    let taken : place < length b.slots = slice_get_within b.slots place (Taken number part.input) awaits in
    let within : place < length m.moved = omega (arith, is.many, taken) in
    let within_types : place < length m.retyped = omega (arith, is.many_types, taken) in
    record {
      same = is.same;
      many_types = length_set m.retyped place retyped ∙ is.many_types ∙ sym (length_set b.slots place Finished);
      retyped = set_marks (λ n p. TellsTypes s.parts n p.content.summary) b.parts m.retyped place part retyped within_types is.retyped (unretyped retold s.parts place part tells);
      stood = λ n k i at marked. ⊎_elim
          (λ (same : n ≡ place).
          let here : slice_get (set b.slots place Finished) place ≡ Some (Taken k i) = subst (λ (x : ℕ). slice_get (set b.slots place Finished) x ≡ Some (Taken k i)) same at in
          absurd (let no : Finished ≡ Taken k i = set_there b.slots place Finished (Taken k i) here in cc))
          (λ (ne : n ≢ place). is.stood n k i (sym (at_set_other b.slots place n Finished ne) ∙ at) marked)
          (cases_eq n place);
      many = length_set m.moved place moved ∙ is.many ∙ sym (length_set b.slots place Finished);
      moved = set_marks (λ n p. Tells s.parts n p.content.summary) b.parts m.moved place part moved within is.moved (unmoved retold s.parts place part tells);
      kept = λ n k i at marked. ⊎_elim
          (λ (same : n ≡ place).
          let here : slice_get (set b.slots place Finished) place ≡ Some (Taken k i) = subst (λ (x : ℕ). slice_get (set b.slots place Finished) x ≡ Some (Taken k i)) same at in
          absurd (let no : Finished ≡ Taken k i = set_there b.slots place Finished (Taken k i) here in cc))
          (λ (ne : n ≢ place). is.kept n k i (sym (at_set_other b.slots place n Finished ne) ∙ at) marked)
          (cases_eq n place);
      again = again_finished s b m place number part is awaits;
      finished = λ n p at. ⊎_elim
          (λ (same : n ≡ place). ap (slice_get (set b.slots place Finished)) same ∙ at_set_same b.slots place Finished taken)
          (λ (ne : n ≢ place). at_set_other b.slots place n Finished ne ∙ is.finished n p (sym (at_set_other b.parts place n (Some part) ne) ∙ at))
          (cases_eq n place);
    }

-- what was handed out with the input of its earlier part awaits this part
pub steady_awaits : (s : SnapshotModel) (b : BatchModel) (m : SteadyModel) (place number : ℕ) (i : InputModel) (p : PartModel) → IsSteady s b m → slice_get b.slots place ≡ Some (Taken number i) → slice_get m.kept place ≡ Some true → WasAt s.parts place p → Awaits b place number p
steady_awaits s b m place number i p is taken marked was =
    let known = is.kept place number i taken marked in
    let same : known.0 ≡ p = one_part s.parts place known.0 p known.1 was in
    taken ∙ ap (λ (x : InputModel). Some (Taken number x)) (sym known.2 ∙ ap (λ (q : PartModel). q.input) same)

-- what tells the same there and here
pub tells_both : (old parts : List (Option PartModel)) (m : ℕ) (s t : SummaryModel) → Tells old m s → Tells old m t → Tells parts m t → Tells parts m s
tells_both old parts m s t a b c =
    let same : a.of_part ≡ b.of_part = one_part old m a.of_part b.of_part a.there b.there in
    let is : s ≡ t = a.is ∙ ap (λ (p : PartModel). p.content.summary) same ∙ sym b.is in
    record { of_part = c.of_part; there = c.there; is = is ∙ c.is }

-- the input of the earlier part is the one that the batch gives the package
pub steady_input : (s : SnapshotModel) (b : BatchModel) (m : SteadyModel) (place : ℕ) (p : PartModel) → IsSteady s b m → HasReached b.sources b.parts place → slice_get m.same place ≡ Some true
    → ((n : ℕ) → ReachesPackage b.sources place n → slice_get m.moved n ≡ Some true → ⊥) → IsInputAt s.sources s.parts place p.input → IsInputAt b.sources b.parts place p.input
steady_input s b m place p is has same none input =
    let stays = is.same place same in
    input_stays s.sources b.sources s.parts b.parts place stays
    (λ n t reaches tells.
    let now = (stays.reaches n).0 reaches in
    let there = has.told n now in
    let part = there.1.of_part in
    let told = is.moved n part there.1.there (none n now) in
    tells_both s.parts b.parts n t part.content.summary tells told (record { of_part = part; there = there.1.there; is = refl }))
    p.input input

-- a part of a snapshot is made of the input of its package
pub part_in : (ps : List PackageModel) (parts : List (Option PartModel)) (n : ℕ) (p : PartModel) → AreParts ps parts → WasAt parts n p → IsInputAt ps parts n p.input
part_in ps parts n p all was =
    let source = numbered_back (λ k q part. IsPartOf ps parts k q part) 0 ps parts n (Some p) all was in
    let of_part : IsPartOf ps parts n source.0 (Some p) = subst (λ (k : ℕ). IsPartOf ps parts k source.0 (Some p)) (let e : 0 + n ≡ n = omega arith in e) source.2 in
    let same : p.input.source ≡ source.0 = of_part.1.source in
    record { numbered = source.1 ∙ ap Some (sym same); input = subst (λ (q : PackageModel). IsInputOf ps parts n q p.input) (sym same) of_part.1 }

-- the files of its package are as they are read
pub read_in : (ps : List PackageModel) (parts : List (Option PartModel)) (n : ℕ) (p : PartModel) → All AreAllRead ps → AreParts ps parts → WasAt parts n p → AreAllRead p.input.source
read_in ps parts n p read all was = read_at ps n p.input.source read (part_in ps parts n p all was).numbered

pub steady_stays : (s : SnapshotModel) (b : BatchModel) (m : SteadyModel) (place : ℕ) (p : PartModel) → AreParts s.sources s.parts → IsSteady s b m → HasReached b.sources b.parts place → slice_get m.same place ≡ Some true
    → ((n : ℕ) → ReachesPackage b.sources place n → slice_get m.moved n ≡ Some true → ⊥) → WasAt s.parts place p → StaysAt s b place p
steady_stays s b m place p all is has same none was =
    let input = part_in s.sources s.parts place p all was in
    record {
      was = was;
      of_path = record { number = place; files = p.input.source.1; numbered = input.numbered; there = was };
      input = steady_input s b m place p is has same none input;
    }
