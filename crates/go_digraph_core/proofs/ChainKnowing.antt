-- What is known, step by step.
use Rattle.std.proofs.Common.{◌≡◌, ℕ, ◌<◌, ◌⊎◌, inl, inr, Bool, true, false, List, [], ◌∷◌, ◌++◌, length, get_or, set, Option, Some, None, refl, sym, ap, ◌∙◌, subst, arith, replicate}
use Rattle.std.specs.List.{All, Contains, slice_get}
use Rattle.std.proofs.lemmas.List.Elements.{All-contains, Contains-get_or, Contains-append_left, Contains-push, Contains-push_cases}
use Rattle.std.proofs.lemmas.Bool.{cases_eq}
use Rattle.std.proofs.lemmas.Option.{slice_get_within}
use Rattle.std.proofs.Math.ListN.{length-set}
use Rattle.go_digraph_core.specs.chain.Chains.{EndsAt, AreEnds}
use Rattle.go_digraph_core.specs.chain.mirrors.Known.{IsOnWay, Known}
use Rattle.go_digraph_core.proofs.ChainLists.{get_set_same, get_set_other, marked_before, none_marked, unmarked_len, no_ends, no_ends_len}
use Rattle.go_digraph_core.proofs.ChainChained.{leads_on, ends_along, endless_along, endless_way}

-- the stop matters to nobody while nothing is on the way
pub start_anew : (next : List (Option ℕ)) (marks : List Bool) (ends : List (Option ℕ)) (way : List ℕ) (stop other : ℕ) → way ≡ [] → Known next marks ends way stop → Known next marks ends way other
start_anew next marks ends way stop other none k = record {
  marks_len = k.marks_len;
  ends_len = k.ends_len;
  sound = k.sound;
  endless = k.endless;
  on_way = λ i at. absurd (let none' : length way ≡ 0 = ap length none in let lt : at.0 < length way = at.1 in omega arith);
}

-- a number that leads on is marked and put on the way
on_way_still : (next : List (Option ℕ)) (way : List ℕ) (stop follower i : ℕ) → slice_get next stop ≡ Some (Some follower) → IsOnWay next way stop i → IsOnWay next (way ++ stop ∷ []) follower i
on_way_still next way stop follower i f o = record {
  follower = o.follower;
  follows = o.follows;
  within = inl (elim o.within [
    | inl w ↦ Contains-append_left way (stop ∷ []) o.follower w
    | inr e ↦ (let P : ℕ → Type 0 = λ x. Contains (way ++ stop ∷ []) x in subst P (sym e) (Contains-push way stop))
  ]);
  path = o.path ++ follower ∷ [];
  leads = leads_on next i stop follower o.path o.leads f;
}

on_way_now : (next : List (Option ℕ)) (way : List ℕ) (stop follower i : ℕ) → slice_get next stop ≡ Some (Some follower) → stop ≡ i → IsOnWay next (way ++ stop ∷ []) follower i
on_way_now next way stop follower i f e =
    let P : ℕ → Type 0 = λ x. slice_get next x ≡ Some (Some follower) in
    record {
      follower = follower;
      follows = subst P e f;
      within = inr refl;
      path = follower ∷ [];
      leads = (subst P e f, refl);
    }

pub step_on : (next : List (Option ℕ)) (marks : List Bool) (ends : List (Option ℕ)) (way : List ℕ) (stop follower : ℕ)
    → stop < length next → slice_get next stop ≡ Some (Some follower) → Known next marks ends way stop → Known next (set marks stop true) ends (way ++ stop ∷ []) follower
step_on next marks ends way stop follower lt f k = record {
  marks_len = length-set marks stop true ∙ k.marks_len;
  ends_len = k.ends_len;
  sound = k.sound;
  endless = λ i m e. elim (marked_before marks stop i m) [
    | inl q ↦ (let P : ℕ → Type 0 = λ x. Contains (way ++ stop ∷ []) x in inl (subst P (sym q) (Contains-push way stop)))
    | inr o ↦ elim (k.endless i o e) [ inl w ↦ inl (Contains-append_left way (stop ∷ []) i w) | inr z ↦ inr z ]
  ];
  on_way = λ i at. elim (Contains-push_cases way stop i at) [
    | inl w ↦ on_way_still next way stop follower i f (k.on_way i w)
    | inr e ↦ on_way_now next way stop follower i f e
  ];
}

-- an end is marked and its own
pub step_end : (next : List (Option ℕ)) (marks : List Bool) (ends : List (Option ℕ)) (way : List ℕ) (stop : ℕ)
    → stop < length next → slice_get next stop ≡ Some None → Known next marks ends way stop → Known next (set marks stop true) (set ends stop (Some stop)) way stop
step_end next marks ends way stop lt f k =
    let lt' : stop < length ends = (let l : length ends ≡ length next = k.ends_len in omega arith) in
    let here : slice_get (set ends stop (Some stop)) stop ≡ Some (Some stop) = get_set_same ends stop (Some stop) lt' in
    record {
      marks_len = length-set marks stop true ∙ k.marks_len;
      ends_len = length-set ends stop (Some stop) ∙ k.ends_len;
      sound = λ i j e. elim (cases_eq i stop) [
        | inl q ↦
            (let P : ℕ → Type 0 = λ x. slice_get (set ends stop (Some stop)) x ≡ Some (Some j) in
            let two = sym here ∙ subst P q e in
            let same : stop ≡ j = (cc) in
            let Q : ℕ → Type 0 = λ x. slice_get next x ≡ Some None in
            ([], q ∙ same, subst Q same f))
        | inr n ↦ k.sound i j (sym (get_set_other ends stop i (Some stop) n) ∙ e)
      ];
      endless = λ i m e. elim (cases_eq i stop) [
        | inl q ↦
            (let P : ℕ → Type 0 = λ x. slice_get (set ends stop (Some stop)) x ≡ Some None in
            let two = sym here ∙ subst P q e in
            cc)
        | inr n ↦ elim (marked_before marks stop i m) [
          | inl q ↦ absurd (n q)
          | inr o ↦ k.endless i o (sym (get_set_other ends stop i (Some stop) n) ∙ e)
        ]
      ];
      on_way = k.on_way;
    }

-- all on the way get the end of the stop
pub given_end : (next : List (Option ℕ)) (marks : List Bool) (ends ends' : List (Option ℕ)) (way : List ℕ) (stop end : ℕ)
    → slice_get ends stop ≡ Some (Some end) → length ends' ≡ length ends
    → All (λ i. slice_get ends' i ≡ Some (Some end)) way
    → ((i : ℕ) → (slice_get ends' i ≡ slice_get ends i) ⊎ (Contains way i × (slice_get ends' i ≡ Some (Some end))))
    → Known next marks ends way stop → Known next marks ends' [] 0
given_end next marks ends ends' way stop end at len given kept k = record {
  marks_len = k.marks_len;
  ends_len = len ∙ k.ends_len;
  sound = λ i j e. elim (kept i) [
    | inl same ↦ k.sound i j (sym same ∙ e)
    | inr w ↦
        (let o : IsOnWay next way stop i = k.on_way i w.0 in
        let two = sym w.1 ∙ e in
        let same : end ≡ j = (cc) in
        let P : ℕ → Type 0 = λ x. EndsAt next i x in
        subst P same (ends_along next i stop end o.path o.leads (k.sound stop end at)))
  ];
  endless = λ i m e. elim (kept i) [
    | inl same ↦ elim (k.endless i m (sym same ∙ e)) [
      | inl w ↦
          (let g : slice_get ends' i ≡ Some (Some end) = All-contains (λ i. slice_get ends' i ≡ Some (Some end)) way i given w in
          let two = sym g ∙ e in
          cc)
      | inr z ↦ inr z
    ]
    | inr w ↦ (let two = sym w.1 ∙ e in cc)
  ];
  on_way = λ i none. absurd (let lt : none.0 < 0 = none.1 in omega arith);
}

-- all on the way are endless
pub given_none : (next : List (Option ℕ)) (marks : List Bool) (ends : List (Option ℕ)) (way : List ℕ) (stop : ℕ)
    → slice_get ends stop ≡ Some None → get_or marks stop false ≡ true
    → Known next marks ends way stop → Known next marks ends [] 0
given_none next marks ends way stop at marked k = record {
  marks_len = k.marks_len;
  ends_len = k.ends_len;
  sound = k.sound;
  endless = λ i m e. inr (elim (k.endless i m e) [
    | inl w ↦ elim (k.endless stop marked at) [
      | inl there ↦ endless_way next way stop k.on_way there i w
      | inr z ↦ (let o : IsOnWay next way stop i = k.on_way i w in endless_along next i stop o.path o.leads z)
    ]
    | inr z ↦ z
  ]);
  on_way = λ i none. absurd (let lt : none.0 < 0 = none.1 in omega arith);
}

-- all numbers are marked
pub all_known : (next : List (Option ℕ)) (marks : List Bool) (ends : List (Option ℕ)) (way : List ℕ) (stop : ℕ) → way ≡ [] → Known next marks ends way stop → ((i : ℕ) → i < length next → get_or marks i false ≡ true) → AreEnds next ends
all_known next marks ends way stop none k all = record {
  as_many = k.ends_len;
  ends_at = k.sound;
  endless = λ i j e.
      (let lt : i < length next = (let lt' = slice_get_within ends i None e in let l : length ends ≡ length next = k.ends_len in omega arith) in
      elim (k.endless i (all i lt) e) [
        | inl w ↦ absurd (let none' : length way ≡ 0 = ap length none in let lt' : w.0 < length way = w.1 in omega arith)
        | inr z ↦ z j
      ]);
}

-- what is on the way has an end to be set
pub way_inside : (next : List (Option ℕ)) (marks : List Bool) (ends : List (Option ℕ)) (way : List ℕ) (stop : ℕ) → Known next marks ends way stop → All (λ i. i < length ends) way
way_inside next marks ends way stop k n d lt =
    let i : ℕ = get_or way n d in
    let o : IsOnWay next way stop i = k.on_way i (Contains-get_or way n d lt) in
    let inside : i < length next = slice_get_within next i (Some o.follower) o.follows in
    let len : length ends ≡ length next = k.ends_len in
    omega arith

-- nothing is known
pub none_known : (next : List (Option ℕ)) → Known next (replicate (length next) false) (replicate (length next) None) [] 0
none_known next = record {
  marks_len = unmarked_len (length next);
  ends_len = no_ends_len (length next);
  sound = λ i j e. absurd (no_ends (length next) i j e);
  endless = λ i m e. absurd (none_marked (length next) i m);
  on_way = λ i none. absurd (let lt : none.0 < 0 = none.1 in omega arith);
}

pub given_end_to : (next : List (Option ℕ)) (marks : List Bool) (ends ends' : List (Option ℕ)) (way names : List ℕ) (stop end : ℕ)
    → slice_get ends stop ≡ Some (Some end) → length ends' ≡ length ends → names ≡ way
    → All (λ i. slice_get ends' i ≡ Some (Some end)) names
    → ((i : ℕ) → (slice_get ends' i ≡ slice_get ends i) ⊎ (Contains names i × (slice_get ends' i ≡ Some (Some end))))
    → Known next marks ends way stop → Known next marks ends' [] 0
given_end_to next marks ends ends' way names stop end at len same given kept k =
    let P : List ℕ → Type 0 = λ l. All (λ i. slice_get ends' i ≡ Some (Some end)) l × ((i : ℕ) → (slice_get ends' i ≡ slice_get ends i) ⊎ (Contains l i × (slice_get ends' i ≡ Some (Some end)))) in
    let q : P way = subst P same (given, kept) in
    given_end next marks ends ends' way stop end at len q.0 q.1 k
