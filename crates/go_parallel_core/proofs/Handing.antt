-- The actions of a level, handed out and ended.
use Rattle.std.proofs.Common.{◌≡◌, ◌≢◌, ◌⊎◌, inl, inr, ⊎_elim, ℕ, List, [], ◌∷◌, ◌++◌, flat_map, length, map, refl, sym, ap, subst, ◌∙◌, arith, Option, Some}
use Rattle.std.specs.Prelude.{All, Contains, Vec, slice_get, slice_set, ⊤}
use Rattle.std.specs.declared.alloc.Global.{Global}
use Rattle.std.proofs.lemmas.List.Elements.{All-cons, All-head, All-nil, All-push, All-tail, Contains-append_cases, Contains-append_left, Contains-append_right}
use Rattle.std.proofs.lemmas.Option.{slice_get_within}
use Rattle.go_block_core.specs.graph_core.Workspaces.{PackageModel, IsWorkspace}
use Rattle.go_summary_core.specs.Summaries.{SummaryModel}
use Rattle.go_package_core.specs.package_part.Inputs.{InputModel, path_in}
use Rattle.go_package_core.specs.package_part.Parts.{PartModel}
use Rattle.go_snap_core.proofs.WholeWorkspaceBeside.{one_place}
use Rattle.go_batch_core.specs.Batches.{BatchModel, batch_with, with_part}
use Rattle.go_batch_core.specs.declared.slot.Slot.{Slot}
use Rattle.go_batch_core.specs.declared.slot.Slot.TheVariants.{Untaken, Taken, Finished}
use Rattle.go_batch_core.proofs.Slots.{at_set_other, at_set_same}
use Rattle.go_parallel_core.specs.Handed.{AreTaken}
use Rattle.go_parallel_core.specs.Told.{AreApart, AreHeld, IsHeld, IsTold, TellsMore, input_of, summary_in}
use Rattle.go_parallel_core.specs.Works.{inputs_of, items_of}
use Rattle.go_parallel_core.specs.declared.shares.Work.{Work}
use Rattle.go_parallel_core.proofs.Telling.{alone, apart_at, none_there, one_there}

-- another slot is set
taken_other : (slots : List Slot) (n : ℕ) (x : Slot) (ns : List ℕ) (is : List InputModel) → AreTaken slots ns is → All (λ (m : ℕ). m ≢ n) ns → AreTaken (slice_set slots n x) ns is
taken_other slots n x [] [] h apart = tt
taken_other slots n x [] (i ∷ is) h apart = absurd h
taken_other slots n x (m ∷ ns) [] h apart = absurd h
taken_other slots n x (m ∷ ns) (i ∷ is) h apart =
    let first = h.0 in
    (record { taken = at_set_other slots n m x (All-head (λ (l : ℕ). l ≢ n) m ns apart) ∙ first.taken; apart = first.apart }, taken_other slots n x ns is h.1 (All-tail (λ (l : ℕ). l ≢ n) m ns apart))

-- one that is not taken is none of them
apart_all : (slots : List Slot) (n : ℕ) (ns : List ℕ) (is : List InputModel) → AreTaken slots ns is → slice_get slots n ≡ Some Untaken → All (λ (m : ℕ). m ≢ n) ns
apart_all slots n [] [] h ready = All-nil (λ (m : ℕ). m ≢ n)
apart_all slots n [] (i ∷ is) h ready = absurd h
apart_all slots n (m ∷ ns) [] h ready = absurd h
apart_all slots n (m ∷ ns) (i ∷ is) h ready = All-cons (λ (l : ℕ). l ≢ n) m ns (apart_at slots n m Untaken (Taken 0 i) ready h.0.taken (λ e. cc (e))) (apart_all slots n ns is h.1 ready)

push_taken : (slots : List Slot) (n : ℕ) (i : InputModel) (ns : List ℕ) (is : List InputModel) → AreTaken slots ns is → slice_get slots n ≡ Some (Taken 0 i) → All (λ (m : ℕ). m ≢ n) ns → AreTaken slots (ns ++ n ∷ []) (is ++ i ∷ [])
push_taken slots n i [] [] h at apart = (record { taken = at; apart = All-nil (λ (m : ℕ). m ≢ n) }, tt)
push_taken slots n i [] (j ∷ is) h at apart = absurd h
push_taken slots n i (m ∷ ns) [] h at apart = absurd h
push_taken slots n i (m ∷ ns) (j ∷ is) h at apart =
    let ne : n ≢ m = λ same. All-head (λ (l : ℕ). l ≢ n) m ns apart (sym same) in
    let first = h.0 in
    (record { taken = first.taken; apart = All-push (λ (l : ℕ). l ≢ m) ns n first.apart ne }, push_taken slots n i ns is h.1 at (All-tail (λ (l : ℕ). l ≢ n) m ns apart))

-- the packages of these numbers are those of these inputs, place by place
abbrev pub AreNumbered : List PackageModel → List ℕ → List InputModel → Type 0
AreNumbered ps [] [] = ⊤
AreNumbered ps [] (i ∷ is) = ⊥
AreNumbered ps (n ∷ ns) [] = ⊥
AreNumbered ps (n ∷ ns) (i ∷ is) = (slice_get ps n ≡ Some i.source) × AreNumbered ps ns is

push_numbered : (ps : List PackageModel) (n : ℕ) (i : InputModel) (ns : List ℕ) (is : List InputModel) → AreNumbered ps ns is → slice_get ps n ≡ Some i.source → AreNumbered ps (ns ++ n ∷ []) (is ++ i ∷ [])
push_numbered ps n i [] [] h at = (at, tt)
push_numbered ps n i [] (j ∷ is) h at = absurd h
push_numbered ps n i (m ∷ ns) [] h at = absurd h
push_numbered ps n i (m ∷ ns) (j ∷ is) h at = (h.0, push_numbered ps n i ns is h.1 at)

-- packages of different numbers have different paths
apart_paths : (ps : List PackageModel) (n : ℕ) (i : InputModel) (ns : List ℕ) (is : List InputModel) → IsWorkspace ps → AreNumbered ps ns is → slice_get ps n ≡ Some i.source → All (λ (m : ℕ). m ≢ n) ns → All (λ (j : InputModel). path_in i ≡ path_in j → ⊥) is
apart_paths ps n i [] [] well h at apart = All-nil (λ (j : InputModel). path_in i ≡ path_in j → ⊥)
apart_paths ps n i [] (j ∷ is) well h at apart = absurd h
apart_paths ps n i (m ∷ ns) [] well h at apart = absurd h
apart_paths ps n i (m ∷ ns) (j ∷ is) well h at apart =
    All-cons (λ (k : InputModel). path_in i ≡ path_in k → ⊥) j is
    (λ same. All-head (λ (l : ℕ). l ≢ n) m ns apart (one_place ps m n j.source i.source well h.0 at (sym same)))
    (apart_paths ps n i ns is well h.1 at (All-tail (λ (l : ℕ). l ≢ n) m ns apart))

push_apart : (i : InputModel) (is : List InputModel) → AreApart is → All (λ (j : InputModel). path_in i ≡ path_in j → ⊥) is → AreApart (is ++ i ∷ [])
push_apart i [] h apart = (All-nil (λ (j : InputModel). path_in j ≡ path_in i → ⊥), tt)
push_apart i (j ∷ is) h apart =
    (All-push (λ (k : InputModel). path_in k ≡ path_in j → ⊥) is i h.0 (All-head (λ (k : InputModel). path_in i ≡ path_in k → ⊥) j is apart), push_apart i is h.1 (All-tail (λ (k : InputModel). path_in i ≡ path_in k → ⊥) j is apart))

-- of a batch these packages are handed out since it was the first
pub record AreHanded (old now : BatchModel) (ns : List ℕ) (is : List InputModel) : Type 0 where
  pub sources : now.sources ≡ old.sources
  pub parts : now.parts ≡ old.parts
  pub taken : AreTaken now.slots ns is
  pub numbered : AreNumbered old.sources ns is
  pub held : AreHeld old.parts is

pub handed_none : (old now : BatchModel) (ns : List ℕ) (is : List InputModel) → now ≡ old → ns ≡ [] → is ≡ [] → AreHanded old now ns is
handed_none old now ns is same none empty =
    subst (λ (l : List ℕ). AreHanded old now l is) (sym none)
    (subst (AreHanded old now []) (sym empty)
    (record {
      sources = ap (λ (b : BatchModel). b.sources) same;
      parts = ap (λ (b : BatchModel). b.parts) same;
      taken = tt;
      numbered = tt;
      held = record { each = All-nil (IsHeld old.parts); apart = tt };
    }))

-- one more
pub handed_more : (old now new : BatchModel) (ns more : List ℕ) (is all : List InputModel) (n : ℕ) (i : InputModel) → IsWorkspace old.sources → AreHanded old now ns is → slice_get now.slots n ≡ Some Untaken
    → new ≡ batch_with now.sources (slice_set now.slots n (Taken 0 i)) now.parts → slice_get now.sources n ≡ Some i.source → IsHeld now.parts i → more ≡ ns ++ n ∷ [] → all ≡ is ++ i ∷ [] → AreHanded old new more all
handed_more old now new ns more is all n i well h ready same numbered held a b =
    let slots : List Slot = slice_set now.slots n (Taken 0 i) in
    let apart = apart_all now.slots n ns is h.taken ready in
    let here : slice_get old.sources n ≡ Some i.source = subst (λ (ps : List PackageModel). slice_get ps n ≡ Some i.source) h.sources numbered in
    let pushed : AreTaken slots (ns ++ n ∷ []) (is ++ i ∷ []) = push_taken slots n i ns is (taken_other now.slots n (Taken 0 i) ns is h.taken apart) (at_set_same now.slots n (Taken 0 i) (slice_get_within now.slots n Untaken ready)) apart in
    subst (λ (l : List ℕ). AreHanded old new l all) (sym a)
    (subst (AreHanded old new (ns ++ n ∷ [])) (sym b)
    (record {
      sources = ap (λ (x : BatchModel). x.sources) same ∙ h.sources;
      parts = ap (λ (x : BatchModel). x.parts) same ∙ h.parts;
      taken = subst (λ (xs : List Slot). AreTaken xs (ns ++ n ∷ []) (is ++ i ∷ [])) (sym (ap (λ (x : BatchModel). x.slots) same)) pushed;
      numbered = push_numbered old.sources n i ns is h.numbered here;
      held = record {
        each = All-push (IsHeld old.parts) is i h.held.each (subst (λ (xs : List (Option PartModel)). IsHeld xs i) h.parts held);
        apart = push_apart i is h.held.apart (apart_paths old.sources n i ns is well h.numbered here apart);
      };
    }))

pub handed_held : (old now : BatchModel) (ns : List ℕ) (is : List InputModel) → AreHanded old now ns is → AreHeld now.parts is
handed_held old now ns is h = subst (λ (xs : List (Option PartModel)). AreHeld xs is) (sym h.parts) h.held

-- what is cut into shares
pub held_cut : (parts : List (Option PartModel)) (is : List InputModel) (ss : List (Vec InputModel Global)) → AreHeld parts is → flat_map items_of ss ≡ is → AreHeld parts (flat_map items_of ss)
held_cut parts is ss held same = subst (AreHeld parts) (sym same) held

-- the parts of shares are those of the level
pub taken_cut : (slots : List Slot) (ns : List ℕ) (is : List InputModel) (ss : List (Vec InputModel Global)) (ws : List Work) (ps : List PartModel) → AreTaken slots ns is → flat_map items_of ss ≡ is → flat_map inputs_of ws ≡ flat_map items_of ss
    → map input_of ps ≡ flat_map inputs_of ws → AreTaken slots ns (map input_of ps)
taken_cut slots ns is ss ws ps taken a b c = subst (AreTaken slots ns) (sym (c ∙ (b ∙ a))) taken

-- since the batch was the first, of these packages' actions those are to be ended yet by these parts
pub record AreEnding (old now : BatchModel) (ns : List ℕ) (all ps : List PartModel) : Type 0 where
  pub sources : now.sources ≡ old.sources
  pub taken : AreTaken now.slots ns (map input_of ps)
  pub before : (s : SummaryModel) → IsTold old.parts s → IsTold now.parts s
  pub only : (s : SummaryModel) → IsTold now.parts s → IsTold old.parts s ⊎ Contains (map summary_in all) s
  pub each : (s : SummaryModel) → Contains (map summary_in all) s → IsTold now.parts s ⊎ Contains (map summary_in ps) s
  pub among : (s : SummaryModel) → Contains (map summary_in ps) s → Contains (map summary_in all) s

pub ending_none : (old now : BatchModel) (ns left : List ℕ) (ps rest : List PartModel) → now ≡ old → left ≡ ns → rest ≡ ps → AreTaken old.slots ns (map input_of ps) → AreEnding old now left ps rest
ending_none old now ns left ps rest same a b taken =
    subst (λ (x : BatchModel). AreEnding old x left ps rest) (sym same)
    (subst (λ (l : List ℕ). AreEnding old old l ps rest) (sym a)
    (subst (AreEnding old old ns ps) (sym b)
    (record { sources = refl; taken = taken; before = λ s t. t; only = λ s t. inl t; each = λ s h. inr h; among = λ s h. h })))

pub next_taken : (old now : BatchModel) (ns rest : List ℕ) (all ps left : List PartModel) (n : ℕ) (p : PartModel) → AreEnding old now ns all ps → ns ≡ n ∷ rest → ps ≡ p ∷ left → slice_get now.slots n ≡ Some (Taken 0 p.input)
next_taken old now ns rest all ps left n p h a b = (subst (AreTaken now.slots (n ∷ rest)) (ap (map input_of) b) (subst (λ (l : List ℕ). AreTaken now.slots l (map input_of ps)) a h.taken)).0.taken

pub ended_more : (old now new : BatchModel) (ns rest : List ℕ) (all ps left : List PartModel) (n : ℕ) (p : PartModel) → AreEnding old now ns all ps → ns ≡ n ∷ rest → ps ≡ p ∷ left → new ≡ with_part now n p → TellsMore now.parts (summary_in p ∷ []) new.parts
    → AreEnding old new rest all left
ended_more old now new ns rest all ps left n p h a b same more =
    let here : AreEnding old now (n ∷ rest) all (p ∷ left) = subst (AreEnding old now (n ∷ rest) all) b (subst (λ (l : List ℕ). AreEnding old now l all ps) a h) in
    let taken : AreTaken (slice_set now.slots n Finished) rest (map input_of left) = taken_other now.slots n Finished rest (map input_of left) here.taken.1 here.taken.0.apart in
    record {
      sources = ap (λ (x : BatchModel). x.sources) same ∙ here.sources;
      taken = subst (λ (xs : List Slot). AreTaken xs rest (map input_of left)) (sym (ap (λ (x : BatchModel). x.slots) same)) taken;
      before = λ s t. more.before s (here.before s t);
      only = λ s t. ⊎_elim (λ (u : IsTold now.parts s). here.only s u) (λ (u : Contains (summary_in p ∷ []) s). inr (here.among s (Contains-append_left (summary_in p ∷ []) (map summary_in left) s u))) (more.only s t);
      each = λ s c.
          ⊎_elim (λ (u : IsTold now.parts s). inl (more.before s u))
          (λ (u : Contains (summary_in p ∷ map summary_in left) s).
          ⊎_elim (λ (v : Contains (summary_in p ∷ []) s). inl (more.added s v)) (λ (v : Contains (map summary_in left) s). inr v) (Contains-append_cases (summary_in p ∷ []) (map summary_in left) s u))
          (here.each s c);
      among = λ s c. here.among s (Contains-append_right (summary_in p ∷ []) (map summary_in left) s c);
    }

-- all are ended
ended_rest : (slots : List Slot) (ns : List ℕ) (ps : List PartModel) → AreTaken slots ns (map input_of ps) → (ns ≡ []) ⊎ (ps ≡ []) → ps ≡ []
ended_rest slots ns ps taken (inr none) = none
ended_rest slots ns [] taken (inl none) = refl
ended_rest slots ns (p ∷ ps) taken (inl none) = absurd (subst (λ (l : List ℕ). AreTaken slots l (map input_of (p ∷ ps))) none taken)

pub ended_all : (old now : BatchModel) (ns : List ℕ) (all ps : List PartModel) → AreEnding old now ns all ps → (ns ≡ []) ⊎ (ps ≡ []) → TellsMore old.parts (map summary_in all) now.parts
ended_all old now ns all ps h empty =
    let done : ps ≡ [] = ended_rest now.slots ns ps h.taken empty in
    record {
      before = h.before;
      added = λ s c. ⊎_elim (λ (u : IsTold now.parts s). u) (λ (u : Contains (map summary_in ps) s). absurd (none_there s (subst (λ (l : List PartModel). Contains (map summary_in l) s) done u))) (h.each s c);
      only = h.only;
    }
