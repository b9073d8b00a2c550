-- What workers see: before they work, and after it.
use Rattle.std.proofs.Common.{◌≡◌, ◌⊎◌, inl, inr, ⊎_elim, ℕ, zero, suc, ◌+◌, ◌-◌, ◌<◌, ◌≤◌, List, [], ◌∷◌, ◌++◌, drop, length, map, take, get_or, refl, sym, ap, subst, ◌∙◌, append_assoc, arith, Option, Result, Ok, Err}
use Rattle.std.specs.Prelude.{All, Contains, IfOk}
use Rattle.std.specs.declared.alloc.AllocError.{AllocError}
use Rattle.std.proofs.lemmas.List.{append-nil, length-append, map-append, take_all, take_more}
use lib.ListN.{length-drop}
use Rattle.std.proofs.lemmas.List.Elements.{All-cons, All-contains, All-head, All-nil, All-push, All-tail, All-weaker, Contains-append_cases, Contains-append_left, Contains-append_right, Contains-get_or}
use Rattle.go_summary_core.specs.Summaries.{SummaryModel, path_of}
use Rattle.go_package_core.specs.package_part.Inputs.{InputModel, path_in}
use Rattle.go_package_core.specs.package_part.Parts.{PartModel}
use Rattle.go_batch_core.specs.seen.Local.{AreAmong, NoneIsOf}
use Rattle.go_batch_core.specs.seen.Sights.{Agrees, AreWithReached}
use Rattle.go_batch_core.specs.Batches.{BatchModel}
use Rattle.go_batch_core.specs.Telling.{IsToldOnce}
use Rattle.go_parallel_core.specs.Seen.{AreSeers, CanCompile, IsBeside, IsDoneOf, Rests}
use Rattle.go_parallel_core.specs.Told.{AreAllTold, AreApart, AreHeld, AreTold, IsHeld, IsTold, TellsMore, input_of, summary_in}
use Rattle.go_parallel_core.specs.declared.seers.Seer.{Seer}
use Rattle.go_parallel_core.specs.declared.seers.Seers.{Seers}
use Rattle.go_parallel_core.specs.declared.worker.Done.{Done}
use Rattle.go_parallel_core.proofs.Telling.{alone, none_there, one_there}

-- before the work

-- what is told and seen of a package is what is told
pub told_agrees : (b : BatchModel) (ss : List SummaryModel) (t : SummaryModel) → IsToldOnce b → AreTold b.parts ss → IsTold b.parts t → Agrees ss (t ∷ [])
told_agrees b ss t once told here s r h there same =
    let other : t ≡ r = alone t r there in
    let one = told s h in
    once.once here.place one.place t s here.tells one.tells (same ∙ ap path_of (sym other)) ∙ other

pub with_none : (ss : List SummaryModel) (ps : List PartModel) → AreWithReached ss (map summary_in (take 0 ps)) ss
with_none ss ps = record { old = λ s h. h; reached = λ s h. absurd (none_there s h); only = λ s h. inl h }

-- the first parts, and one more
map_more : (ps : List PartModel) (k : ℕ) (p : PartModel) → k < length ps → p ≡ get_or ps k p → map summary_in (take (k + 1) ps) ≡ map summary_in (take k ps) ++ summary_in p ∷ []
map_more ps k p lt is = ap (map summary_in) (take_more ps k p lt) ∙ (map-append summary_in (take k ps) (get_or ps k p ∷ []) ∙ ap (λ (q : PartModel). map summary_in (take k ps) ++ summary_in q ∷ []) (sym is))

pub with_more : (ss seen more : List SummaryModel) (ps : List PartModel) (k : ℕ) (p : PartModel) → k < length ps → p ≡ get_or ps k p → AreWithReached ss (map summary_in (take k ps)) seen → AreWithReached seen (summary_in p ∷ []) more
    → AreWithReached ss (map summary_in (take (k + 1) ps)) more
with_more ss seen more ps k p lt is front last =
    let before = map summary_in (take k ps) in
    subst (λ (l : List SummaryModel). AreWithReached ss l more) (sym (map_more ps k p lt is))
    (record {
      old = λ s h. last.old s (front.old s h);
      reached = λ s h. ⊎_elim (λ (u : Contains before s). last.old s (front.reached s u)) (λ (u : Contains (summary_in p ∷ []) s). last.reached s u) (Contains-append_cases before (summary_in p ∷ []) s h);
      only = λ s h.
          ⊎_elim
          (λ (u : Contains seen s). ⊎_elim (λ (v : Contains ss s). inl v) (λ (v : Contains before s). inr (Contains-append_left before (summary_in p ∷ []) s v)) (front.only s u))
          (λ (u : Contains (summary_in p ∷ []) s). inr (Contains-append_right before (summary_in p ∷ []) s u))
          (last.only s h);
    })

pub with_all : (ss seen : List SummaryModel) (ps : List PartModel) (k : ℕ) → length ps ≤ k → AreWithReached ss (map summary_in (take k ps)) seen → AreWithReached ss (map summary_in ps) seen
with_all ss seen ps k le h = subst (λ (l : List PartModel). AreWithReached ss (map summary_in l) seen) (take_all k ps le) h

-- what is seen is told, where it is of what was told, and of parts that tell
pub told_with : (parts : List (Option PartModel)) (ss seen : List SummaryModel) (ps : List PartModel) (k : ℕ) → AreTold parts ss → AreTold parts (map summary_in ps) → AreWithReached ss (map summary_in (take k ps)) seen → AreTold parts seen
told_with parts ss seen ps k one other h s there =
    ⊎_elim (λ (u : Contains ss s). one s u) (λ (u : Contains (map summary_in (take k ps)) s). other s (front_of ps k s u)) (h.only s there)
  where
    front_of : (qs : List PartModel) (n : ℕ) (t : SummaryModel) → Contains (map summary_in (take n qs)) t → Contains (map summary_in qs) t
    front_of qs zero t c = absurd (none_there t c)
    front_of [] (suc n) t c = absurd (none_there t c)
    front_of (q ∷ qs) (suc n) t c =
        ⊎_elim (λ (u : Contains (summary_in q ∷ []) t). Contains-append_left (summary_in q ∷ []) (map summary_in qs) t u)
        (λ (u : Contains (map summary_in (take n qs)) t). Contains-append_right (summary_in q ∷ []) (map summary_in qs) t (front_of qs n t u))
        (Contains-append_cases (summary_in q ∷ []) (map summary_in (take n qs)) t c)

pub told_at : (parts : List (Option PartModel)) (ps : List PartModel) (k : ℕ) (p : PartModel) → k < length ps → p ≡ get_or ps k p → AreTold parts (map summary_in ps) → IsTold parts (summary_in p)
told_at parts ps k p lt is told = told (summary_in p) (at ps k lt is)
  where
    at : (qs : List PartModel) (n : ℕ) → n < length qs → p ≡ get_or qs n p → Contains (map summary_in qs) (summary_in p)
    at [] n below e = absurd (omega (arith, below))
    at (q ∷ qs) zero below e = Contains-append_left (summary_in q ∷ []) (map summary_in qs) (summary_in p) (one_there (summary_in q) (summary_in p) (ap summary_in (sym e)))
    at (q ∷ qs) (suc n) below e = Contains-append_right (summary_in q ∷ []) (map summary_in qs) (summary_in p) (at qs n (omega (arith, below)) e)

-- what parts tell that are left
rest_of : (qs : List PartModel) (n : ℕ) (t : SummaryModel) → Contains (map summary_in (drop n qs)) t → Contains (map summary_in qs) t
rest_of qs zero t c = c
rest_of [] (suc n) t c = absurd (none_there t c)
rest_of (q ∷ qs) (suc n) t c = Contains-append_right (summary_in q ∷ []) (map summary_in qs) t (rest_of qs n t c)

-- as a slice has them
rest_is : (ps : List PartModel) (n : ℕ) → take (length ps - n) (drop n ps) ≡ drop n ps
rest_is ps n = (let long = length-drop n ps in take_all (length ps - n) (drop n ps) (omega (arith, long)))

pub told_rest : (parts : List (Option PartModel)) (ps : List PartModel) (n : ℕ) → AreAllTold parts (map summary_in ps) → AreTold parts (map summary_in (take (length ps - n) (drop n ps)))
told_rest parts ps n all s h = all.only s (rest_of ps n s (subst (λ (l : List PartModel). Contains (map summary_in l) s) (rest_is ps n) h))

-- a worker that nothing is told
pub rests_none : (parts : List (Option PartModel)) (made : List PartModel) (more : List SummaryModel) (w : Seer) → w.sight ≡ [] → w.told ≡ 0 → Rests parts made more w
rests_none parts made more w empty zero_told = record {
  only = λ s h. absurd (none_there s (subst (λ (l : List SummaryModel). Contains l s) empty h));
  all = λ s h. inr (subst (λ (n : ℕ). Contains (map summary_in (drop n made)) s) (sym zero_told) h);
  within = omega (arith, zero_told);
}

-- a worker at rest sees what is told
pub rest_told : (parts : List (Option PartModel)) (made : List PartModel) (w : Seer) → Rests parts made [] w → AreTold parts w.sight
rest_told parts made w rests s h = ⊎_elim (λ (u : IsTold parts s). u) (λ (u : Contains [] s). absurd (none_there s u)) (rests.only s h)

-- one that was told the rest sees all
pub awake_all : (parts : List (Option PartModel)) (made : List PartModel) (w : Seer) (seen : List SummaryModel) → AreAllTold parts (map summary_in made) → Rests parts made [] w
    → AreWithReached w.sight (map summary_in (take (length made - w.told) (drop w.told made))) seen → AreAllTold parts seen
awake_all parts made w seen all rests slice =
    let more = subst (λ (l : List PartModel). AreWithReached w.sight (map summary_in l) seen) (rest_is made w.told) slice in
    record {
      all = λ s t. ⊎_elim (λ (u : Contains w.sight s). more.old s u) (λ (u : Contains (map summary_in (drop w.told made)) s). more.reached s u) (rests.all s (all.all s t));
      only = λ s h. ⊎_elim (λ (u : Contains w.sight s). rest_told parts made w rests s u) (λ (u : Contains (map summary_in (drop w.told made)) s). all.only s (rest_of made w.told s u)) (more.only s h);
    }

-- the work

all_by : {X : Type 0} (P : X → Type 0) (xs : List X) → ((x : X) → Contains xs x → P x) → All P xs
all_by P xs f k d lt = f (get_or xs k d) (Contains-get_or xs k d lt)

-- over all that is told inputs can be compiled that rest on it
pub can_of : (parts : List (Option PartModel)) (ss : List SummaryModel) (is : List InputModel) → AreAllTold parts ss → AreHeld parts is → CanCompile ss is
can_of parts ss is all held = record {
  reached = All-weaker (IsHeld parts) (λ (i : InputModel). AreAmong i.reached ss) (λ i h s there. all.all s (h.reached s there)) is held.each;
  own = All-weaker (IsHeld parts) (λ (i : InputModel). NoneIsOf ss (path_in i)) (λ i h. all_by (λ (s : SummaryModel). path_in i ≡ path_of s → ⊥) ss (λ s there. h.own s (all.only s there))) is held.each;
  apart = held.apart;
}

-- of inputs these parts are made, and those are left, over what was seen and what is seen now
pub record AreDone (before : List SummaryModel) (got : List PartModel) (left all : List InputModel) (seen : List SummaryModel) : Type 0 where
  pub parts : map input_of got ++ left ≡ all
  pub sight : seen ≡ before ++ map summary_in got
  pub can : CanCompile seen left

pub done_none : (before : List SummaryModel) (got : List PartModel) (left all : List InputModel) (seen : List SummaryModel) → got ≡ [] → left ≡ all → seen ≡ before → CanCompile before all → AreDone before got left all seen
done_none before got left all seen none same is can =
    subst (λ (l : List PartModel). AreDone before l left all seen) (sym none)
    (subst (λ (l : List InputModel). AreDone before [] l all seen) (sym same)
    (subst (AreDone before [] all all) (sym is) (record { parts = refl; sight = sym (append-nil before); can = can })))

pub next_own : (before : List SummaryModel) (got : List PartModel) (left rest all : List InputModel) (seen : List SummaryModel) (i : InputModel) → AreDone before got left all seen → left ≡ i ∷ rest → NoneIsOf seen (path_in i)
next_own before got left rest all seen i h same = All-head (λ (j : InputModel). NoneIsOf seen (path_in j)) i rest (subst (All (λ (j : InputModel). NoneIsOf seen (path_in j))) same h.can.own)

pub next_reached : (before : List SummaryModel) (got : List PartModel) (left rest all : List InputModel) (seen : List SummaryModel) (i : InputModel) → AreDone before got left all seen → left ≡ i ∷ rest → AreAmong i.reached seen
next_reached before got left rest all seen i h same = All-head (λ (j : InputModel). AreAmong j.reached seen) i rest (subst (All (λ (j : InputModel). AreAmong j.reached seen)) same h.can.reached)

-- one input more is compiled
can_next : (seen : List SummaryModel) (i : InputModel) (rest : List InputModel) (t : SummaryModel) → CanCompile seen (i ∷ rest) → path_of t ≡ path_in i → CanCompile (seen ++ t ∷ []) rest
can_next seen i rest t can path =
    let apart = can.apart.0 in
    let own = All-tail (λ (j : InputModel). NoneIsOf seen (path_in j)) i rest can.own in
    record {
      reached = All-weaker (λ (j : InputModel). AreAmong j.reached seen) (λ (j : InputModel). AreAmong j.reached (seen ++ t ∷ [])) (λ j h s there. Contains-append_left seen (t ∷ []) s (h s there)) rest
          (All-tail (λ (j : InputModel). AreAmong j.reached seen) i rest can.reached);
      own = λ k d lt. All-push (λ (s : SummaryModel). path_in (get_or rest k d) ≡ path_of s → ⊥) seen t (own k d lt) (λ same. apart k d lt (same ∙ path));
      apart = can.apart.1;
    }

pub done_more : (before : List SummaryModel) (got more : List PartModel) (left rest all : List InputModel) (seen after : List SummaryModel) (i : InputModel) (p : PartModel) → AreDone before got left all seen → left ≡ i ∷ rest → p.input ≡ i → path_of (summary_in p) ≡ path_in i
    → after ≡ seen ++ summary_in p ∷ [] → more ≡ got ++ p ∷ [] → AreDone before more rest all after
done_more before got more left rest all seen after i p h same made path is grown =
    subst (λ (l : List PartModel). AreDone before l rest all after) (sym grown)
    (record {
      parts =
          ap (λ (l : List InputModel). l ++ rest) (map-append input_of got (p ∷ []))
          ∙ (append_assoc (map input_of got) (p.input ∷ []) rest ∙ (ap (λ (x : InputModel). map input_of got ++ x ∷ rest) made ∙ (ap (λ (l : List InputModel). map input_of got ++ l) (sym same) ∙ h.parts)));
      sight =
          is
          ∙ (ap (λ (l : List SummaryModel). l ++ summary_in p ∷ []) h.sight
          ∙ (append_assoc before (map summary_in got) (summary_in p ∷ []) ∙ ap (λ (l : List SummaryModel). before ++ l) (sym (map-append summary_in got (p ∷ [])))));
      can = subst (λ (l : List SummaryModel). CanCompile l rest) (sym is) (can_next seen i rest (summary_in p) (subst (CanCompile seen) same h.can) path);
    })

pub done_all : (before : List SummaryModel) (got : List PartModel) (left all : List InputModel) (seen : List SummaryModel) → AreDone before got left all seen → length left ≡ 0 → IsDoneOf before all got seen
done_all before got [] all seen h done = record { parts = sym (append-nil (map input_of got)) ∙ h.parts; sight = h.sight }
done_all before got (i ∷ left) all seen h done = absurd (omega (arith, done))

-- after the work

pub beside_done : (parts : List (Option PartModel)) (before : List SummaryModel) (is : List InputModel) (ps : List PartModel) (seen : List SummaryModel) → AreAllTold parts before → IsDoneOf before is ps seen → IsBeside parts (map summary_in ps) seen
beside_done parts before is ps seen all done =
    subst (IsBeside parts (map summary_in ps)) (sym done.sight)
    (record {
      all = λ s t. Contains-append_left before (map summary_in ps) s (all.all s t);
      only = λ s h. ⊎_elim (λ (u : Contains before s). inl (all.only s u)) (λ (u : Contains (map summary_in ps) s). inr u) (Contains-append_cases before (map summary_in ps) s h);
    })

-- the same of a thread that may have had no memory
pub beside_promised : (parts : List (Option PartModel)) (before : List SummaryModel) (is : List InputModel) (r : Result Done AllocError) → AreAllTold parts before → IfOk r (λ (d : Done). IsDoneOf before is d.parts.items d.sight)
    → IfOk r (λ (d : Done). IsBeside parts (map summary_in d.parts.items) d.sight)
beside_promised parts before is (Ok d) all done = beside_done parts before is d.parts.items d.sight all done
beside_promised parts before is (Err e) all done = tt

-- what more packages will tell
pub rests_more : (parts : List (Option PartModel)) (made : List PartModel) (more all : List SummaryModel) → AreAmong more all → (ws : List Seer) → All (Rests parts made more) ws → All (Rests parts made all) ws
rests_more parts made more all among ws h =
    All-weaker (Rests parts made more) (Rests parts made all)
    (λ w r. record { only = λ s there. ⊎_elim (λ (u : IsTold parts s). inl u) (λ (u : Contains more s). inr (among s u)) (r.only s there); all = r.all; within = r.within })
    ws h

-- a worker that comes to rest was told of all that is made
pub rests_beside : (parts : List (Option PartModel)) (made : List PartModel) (more all : List SummaryModel) (w : Seer) (seen : List SummaryModel) (told : ℕ) → AreAllTold parts (map summary_in made) → IsBeside parts more seen → AreAmong more all → w.sight ≡ seen → w.told ≡ told
    → told ≡ length made → Rests parts made all w
rests_beside parts made more all w seen told whole beside among is a b = record {
  only = λ s h. ⊎_elim (λ (u : IsTold parts s). inl u) (λ (u : Contains more s). inr (among s u)) (beside.only s (subst (λ (l : List SummaryModel). Contains l s) is h));
  all = λ s h. inl (subst (λ (l : List SummaryModel). Contains l s) (sym is) (beside.all s (whole.only s h)));
  within = omega (arith, a, b);
}

-- the parts of a level are made

drop_front : (xs ys : List PartModel) (n : ℕ) (s : SummaryModel) → Contains (map summary_in (drop n xs)) s → Contains (map summary_in (drop n (xs ++ ys))) s
drop_front xs ys zero s c = subst (λ (l : List SummaryModel). Contains l s) (sym (map-append summary_in xs ys)) (Contains-append_left (map summary_in xs) (map summary_in ys) s c)
drop_front [] ys (suc n) s c = absurd (none_there s c)
drop_front (x ∷ xs) ys (suc n) s c = drop_front xs ys n s c

drop_behind : (xs ys : List PartModel) (n : ℕ) (s : SummaryModel) → n ≤ length xs → Contains (map summary_in ys) s → Contains (map summary_in (drop n (xs ++ ys))) s
drop_behind xs ys zero s le c = subst (λ (l : List SummaryModel). Contains l s) (sym (map-append summary_in xs ys)) (Contains-append_right (map summary_in xs) (map summary_in ys) s c)
drop_behind [] ys (suc n) s le c = absurd (omega (arith, le))
drop_behind (x ∷ xs) ys (suc n) s le c = drop_behind xs ys n s (omega (arith, le)) c

pub made_more : (old new : List (Option PartModel)) (made more : List PartModel) → AreAllTold old (map summary_in made) → TellsMore old (map summary_in more) new → AreAllTold new (map summary_in (made ++ more))
made_more old new made more all tells =
    subst (AreAllTold new) (sym (map-append summary_in made more))
    (record {
      all = λ s t.
          ⊎_elim (λ (u : IsTold old s). Contains-append_left (map summary_in made) (map summary_in more) s (all.all s u))
          (λ (u : Contains (map summary_in more) s). Contains-append_right (map summary_in made) (map summary_in more) s u)
          (tells.only s t);
      only = λ s h.
          ⊎_elim (λ (u : Contains (map summary_in made) s). tells.before s (all.only s u)) (λ (u : Contains (map summary_in more) s). tells.added s u) (Contains-append_cases (map summary_in made) (map summary_in more) s h);
    })

rest_more : (old new : List (Option PartModel)) (made more : List PartModel) → TellsMore old (map summary_in more) new → (w : Seer) → Rests old made (map summary_in more) w → Rests new (made ++ more) [] w
rest_more old new made more tells w r = record {
  only = λ s h. inl (⊎_elim (λ (u : IsTold old s). tells.before s u) (λ (u : Contains (map summary_in more) s). tells.added s u) (r.only s h));
  all = λ s h.
      ⊎_elim
      (λ (u : Contains (map summary_in made) s).
      ⊎_elim (λ (v : Contains w.sight s). inl v) (λ (v : Contains (map summary_in (drop w.told made)) s). inr (drop_front made more w.told s v)) (r.all s u))
      (λ (u : Contains (map summary_in more) s). inr (drop_behind made more w.told s r.within u))
      (Contains-append_cases (map summary_in made) (map summary_in more) s (subst (λ (l : List SummaryModel). Contains l s) (map-append summary_in made more) h));
  within = (let long = length-append made more in let le = r.within in omega (arith, long, le));
}

pub rest_all : (old new : List (Option PartModel)) (made more : List PartModel) → TellsMore old (map summary_in more) new → (ws : List Seer) → All (Rests old made (map summary_in more)) ws → All (Rests new (made ++ more) []) ws
rest_all old new made more tells ws h = All-weaker (Rests old made (map summary_in more)) (Rests new (made ++ more) []) (rest_more old new made more tells) ws h

-- no worker has begun, and nothing is told
pub seers_none : (parts : List (Option PartModel)) (all : Seers) → AreAllTold parts [] → all.made.items ≡ [] → all.resting.items ≡ [] → AreSeers parts all
seers_none parts all untold none empty = record {
  made = subst (λ (l : List PartModel). AreAllTold parts (map summary_in l)) (sym none) untold;
  resting = subst (All (Rests parts all.made.items [])) (sym empty) (All-nil (Rests parts all.made.items []));
}
