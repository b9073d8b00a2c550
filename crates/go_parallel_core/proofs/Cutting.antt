-- Inputs that are cut into shares, and the parts that come of them.
use Rattle.std.proofs.Common.{◌≡◌, ◌+◌, ℕ, List, [], ◌∷◌, ◌++◌, flat_map, length, map, refl, sym, ap, ap₂, subst, ◌∙◌, arith, append_assoc, Option}
use Rattle.std.specs.Prelude.{All, Vec}
use Rattle.std.specs.declared.alloc.Global.{Global}
use Rattle.std.proofs.lemmas.List.{append-nil, map-append}
use Rattle.std.proofs.lemmas.List.Concat.{flat_map-append}
use Rattle.std.proofs.lemmas.List.Elements.{All-append, All-cons, All-head, All-nil, All-push, All-tail, Contains-append_left, Contains-append_right}
use Rattle.go_summary_core.specs.Summaries.{SummaryModel}
use Rattle.go_package_core.specs.package_part.Inputs.{InputModel, path_in}
use Rattle.go_package_core.specs.package_part.Parts.{PartModel}
use Rattle.go_parallel_core.specs.Seen.{IsBeside, Rests}
use Rattle.go_parallel_core.specs.Told.{AreAllTold, AreApart, AreHeld, IsHeld, input_of, summary_in}
use Rattle.go_parallel_core.specs.Works.{IsWorkIn, inputs_of, items_of}
use Rattle.go_parallel_core.specs.declared.seers.Seer.{Seer}
use Rattle.go_parallel_core.specs.declared.shares.Work.{Work}
use Rattle.go_parallel_core.proofs.Seeing.{rests_beside, rests_more}

-- what holds of two lists after one another holds of each
all_front : {X : Type 0} (P : X → Type 0) (xs ys : List X) → All P (xs ++ ys) → All P xs
all_front P [] ys h = All-nil P
all_front P (x ∷ xs) ys h = All-cons P x xs (All-head P x (xs ++ ys) h) (all_front P xs ys (All-tail P x (xs ++ ys) h))

all_behind : {X : Type 0} (P : X → Type 0) (xs ys : List X) → All P (xs ++ ys) → All P ys
all_behind P [] ys h = h
all_behind P (x ∷ xs) ys h = all_behind P xs ys (All-tail P x (xs ++ ys) h)

apart_front : (is js : List InputModel) → AreApart (is ++ js) → AreApart is
apart_front [] js h = tt
apart_front (i ∷ is) js h = (all_front (λ (j : InputModel). path_in j ≡ path_in i → ⊥) is js h.0, apart_front is js h.1)

apart_behind : (is js : List InputModel) → AreApart (is ++ js) → AreApart js
apart_behind [] js h = h
apart_behind (i ∷ is) js h = apart_behind is js h.1

held_front : (parts : List (Option PartModel)) (is js : List InputModel) → AreHeld parts (is ++ js) → AreHeld parts is
held_front parts is js h = record { each = all_front (IsHeld parts) is js h.each; apart = apart_front is js h.apart }

held_behind : (parts : List (Option PartModel)) (is js : List InputModel) → AreHeld parts (is ++ js) → AreHeld parts js
held_behind parts is js h = record { each = all_behind (IsHeld parts) is js h.each; apart = apart_behind is js h.apart }

-- all shares

-- one more share
works_more : (ws : List Work) (w : Work) → flat_map inputs_of (ws ++ w ∷ []) ≡ flat_map inputs_of ws ++ inputs_of w
works_more ws w = flat_map-append inputs_of ws (w ∷ []) ∙ ap (λ (l : List InputModel). flat_map inputs_of ws ++ l) (append-nil (inputs_of w))

-- inputs in lists
abbrev pub InputList : Type 0
InputList = Vec InputModel Global

given_more : (ss : List InputList) (v : InputList) → flat_map items_of (ss ++ v ∷ []) ≡ flat_map items_of ss ++ v.items
given_more ss v = flat_map-append items_of ss (v ∷ []) ∙ ap (λ (l : List InputModel). flat_map items_of ss ++ l) (append-nil v.items)

-- of some inputs those of these shares are cut off, these are for the next share, and these are left
pub record AreCut (ss : List InputList) (next left all : List InputModel) : Type 0 where
  pub inputs : flat_map items_of ss ++ (next ++ left) ≡ all

pub cut_none : (ss : List InputList) (next left all : List InputModel) → ss ≡ [] → next ≡ [] → left ≡ all → AreCut ss next left all
cut_none ss next left all none empty same = record { inputs = ap₂ (λ (vs : List InputList) (l : List InputModel). flat_map items_of vs ++ (l ++ left)) none empty ∙ same }

-- one more input for the next share
pub cut_more : (ss : List InputList) (next new left rest all : List InputModel) (i : InputModel) → AreCut ss next left all → left ≡ i ∷ rest → new ≡ next ++ i ∷ [] → AreCut ss new rest all
cut_more ss next new left rest all i is same more = record {
  inputs =
      ap (λ (l : List InputModel). flat_map items_of ss ++ (l ++ rest)) more
      ∙ ap (λ (l : List InputModel). flat_map items_of ss ++ l) (append_assoc next (i ∷ []) rest ∙ ap (λ (l : List InputModel). next ++ l) (sym same))
      ∙ is.inputs;
}

-- the next share is cut off
pub cut_share : (ss new : List InputList) (next : InputList) (empty left all : List InputModel) → AreCut ss next.items left all → new ≡ ss ++ next ∷ [] → empty ≡ [] → AreCut new empty left all
cut_share ss new next empty left all is more none = record {
  inputs =
      ap₂ (λ (vs : List InputList) (l : List InputModel). flat_map items_of vs ++ (l ++ left)) more none
      ∙ (ap (λ (l : List InputModel). l ++ left) (given_more ss next) ∙ append_assoc (flat_map items_of ss) next.items left)
      ∙ is.inputs;
}

-- all inputs are cut off
pub cut_all : (ss : List InputList) (next left all : List InputModel) → AreCut ss next left all → length left ≡ 0 → length next ≡ 0 → flat_map items_of ss ≡ all
cut_all ss [] [] all is done none = sym (append-nil (flat_map items_of ss)) ∙ is.inputs
cut_all ss (i ∷ next) [] all is done none = absurd (omega (arith, none))
cut_all ss next (i ∷ left) all is done none = absurd (omega (arith, done))

-- with the last share
pub cut_last : (ss new : List InputList) (next : InputList) (left all : List InputModel) → AreCut ss next.items left all → length left ≡ 0 → new ≡ ss ++ next ∷ [] → flat_map items_of new ≡ all
cut_last ss new next left all is done more = cut_all new [] left all (cut_share ss new next [] left all is more refl) done refl

-- of these shares those are begun, and these are left
pub record AreBegun (parts : List (Option PartModel)) (made : List PartModel) (ws : List Work) (left all : List InputList) (resting : List Seer) : Type 0 where
  pub inputs : flat_map inputs_of ws ++ flat_map items_of left ≡ flat_map items_of all
  pub held : AreHeld parts (flat_map items_of left)
  pub sound : All (IsWorkIn parts) ws
  pub rests : All (Rests parts made []) resting

pub begun_none : (parts : List (Option PartModel)) (made : List PartModel) (ws : List Work) (left all : List InputList) (resting : List Seer) → ws ≡ [] → left ≡ all → AreHeld parts (flat_map items_of all) → All (Rests parts made []) resting
    → AreBegun parts made ws left all resting
begun_none parts made ws left all resting none same held rests = record {
  inputs = ap (λ (vs : List Work). flat_map inputs_of vs ++ flat_map items_of left) none ∙ ap (flat_map items_of) same;
  held = subst (λ (l : List InputList). AreHeld parts (flat_map items_of l)) (sym same) held;
  sound = subst (All (IsWorkIn parts)) (sym none) (All-nil (IsWorkIn parts));
  rests = rests;
}

-- the inputs of the next share are held
pub share_held : (parts : List (Option PartModel)) (made : List PartModel) (ws : List Work) (left rest all : List InputList) (resting : List Seer) (v : InputList) → AreBegun parts made ws left all resting → left ≡ v ∷ rest → AreHeld parts v.items
share_held parts made ws left rest all resting v is same = held_front parts v.items (flat_map items_of rest) (subst (λ (l : List InputList). AreHeld parts (flat_map items_of l)) same is.held)

-- the next share is begun
pub begun_more : (parts : List (Option PartModel)) (made : List PartModel) (ws new : List Work) (left rest all : List InputList) (resting after : List Seer) (v : InputList) (w : Work) → AreBegun parts made ws left all resting → left ≡ v ∷ rest → new ≡ ws ++ w ∷ []
    → inputs_of w ≡ v.items → IsWorkIn parts w → All (Rests parts made []) after → AreBegun parts made new rest all after
begun_more parts made ws new left rest all resting after v w is same more inputs sound rests = record {
  inputs =
      ap (λ (vs : List Work). flat_map inputs_of vs ++ flat_map items_of rest) more
      ∙ (ap (λ (l : List InputModel). l ++ flat_map items_of rest) (works_more ws w ∙ ap (λ (l : List InputModel). flat_map inputs_of ws ++ l) inputs) ∙ append_assoc (flat_map inputs_of ws) v.items (flat_map items_of rest))
      ∙ ap (λ (l : List InputList). flat_map inputs_of ws ++ flat_map items_of l) (sym same)
      ∙ is.inputs;
  held = held_behind parts v.items (flat_map items_of rest) (subst (λ (l : List InputList). AreHeld parts (flat_map items_of l)) same is.held);
  sound = subst (All (IsWorkIn parts)) (sym more) (All-push (IsWorkIn parts) ws w is.sound sound);
  rests = rests;
}

-- all shares are begun
pub begun_all : (parts : List (Option PartModel)) (made : List PartModel) (ws : List Work) (left all : List InputList) (resting : List Seer) → AreBegun parts made ws left all resting → length left ≡ 0 → flat_map inputs_of ws ≡ flat_map items_of all
begun_all parts made ws [] all resting is done = sym (append-nil (flat_map inputs_of ws)) ∙ is.inputs
begun_all parts made ws (v ∷ left) all resting is done = absurd (omega (arith, done))

-- of the parts of shares these are there, and those of these shares are to come
pub record AreEnded (parts : List (Option PartModel)) (made got : List PartModel) (left all : List Work) (resting : List Seer) : Type 0 where
  pub inputs : map input_of got ++ flat_map inputs_of left ≡ flat_map inputs_of all
  pub sound : All (IsWorkIn parts) left
  pub rests : All (Rests parts made (map summary_in got)) resting

pub ended_none : (parts : List (Option PartModel)) (made got : List PartModel) (left all : List Work) (resting : List Seer) → got ≡ [] → left ≡ all → All (IsWorkIn parts) all → All (Rests parts made []) resting → AreEnded parts made got left all resting
ended_none parts made got left all resting none same sound rests = record {
  inputs = ap (λ (l : List PartModel). map input_of l ++ flat_map inputs_of left) none ∙ ap (flat_map inputs_of) same;
  sound = subst (All (IsWorkIn parts)) (sym same) sound;
  rests = subst (λ (l : List PartModel). All (Rests parts made (map summary_in l)) resting) (sym none) rests;
}

pub next_sound : (parts : List (Option PartModel)) (made got : List PartModel) (left rest all : List Work) (resting : List Seer) (w : Work) → AreEnded parts made got left all resting → left ≡ w ∷ rest → IsWorkIn parts w
next_sound parts made got left rest all resting w is same = All-head (IsWorkIn parts) w rest (subst (All (IsWorkIn parts)) same is.sound)

pub ended_more : (parts : List (Option PartModel)) (made got new more : List PartModel) (left rest all : List Work) (resting after : List Seer) (w : Work) (r : Seer) (seen : List SummaryModel) (told : ℕ) → AreAllTold parts (map summary_in made)
    → AreEnded parts made got left all resting → left ≡ w ∷ rest → map input_of more ≡ inputs_of w → IsBeside parts (map summary_in more) seen → new ≡ got ++ more → r.sight ≡ seen → r.told ≡ told → told ≡ length made → after ≡ resting ++ r ∷ []
    → AreEnded parts made new rest all after
ended_more parts made got new more left rest all resting after w r seen told whole is same inputs beside grown a b c kept =
    subst (λ (l : List PartModel). AreEnded parts made l rest all after) (sym grown)
    (subst (AreEnded parts made (got ++ more) rest all) (sym kept)
    (record {
      inputs =
          ap (λ (l : List InputModel). l ++ flat_map inputs_of rest) (map-append input_of got more ∙ ap (λ (l : List InputModel). map input_of got ++ l) inputs)
          ∙ append_assoc (map input_of got) (inputs_of w) (flat_map inputs_of rest)
          ∙ ap (λ (l : List Work). map input_of got ++ flat_map inputs_of l) (sym same)
          ∙ is.inputs;
      sound = All-tail (IsWorkIn parts) w rest (subst (All (IsWorkIn parts)) same is.sound);
      rests =
          subst (λ (l : List SummaryModel). All (Rests parts made l) (resting ++ r ∷ [])) (sym (map-append summary_in got more))
          (All-push (Rests parts made (map summary_in got ++ map summary_in more)) resting r
          (rests_more parts made (map summary_in got) (map summary_in got ++ map summary_in more) (λ s h. Contains-append_left (map summary_in got) (map summary_in more) s h) resting is.rests)
          (rests_beside parts made (map summary_in more) (map summary_in got ++ map summary_in more) r seen told whole beside (λ s h. Contains-append_right (map summary_in got) (map summary_in more) s h) a b c));
    }))

pub ended_all : (parts : List (Option PartModel)) (made got : List PartModel) (left all : List Work) (resting : List Seer) → AreEnded parts made got left all resting → length left ≡ 0 → map input_of got ≡ flat_map inputs_of all
ended_all parts made got [] all resting is done = sym (append-nil (map input_of got)) ∙ is.inputs
ended_all parts made got (w ∷ left) all resting is done = absurd (omega (arith, done))
