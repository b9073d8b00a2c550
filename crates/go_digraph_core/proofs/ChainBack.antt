-- A chain without an end leads back.
use Rattle.std.proofs.Common.{◌≡◌, ℕ, zero, suc, ◌<◌, ◌⊎◌, inl, inr, Bool, true, false, not, List, [], ◌∷◌, ◌++◌, length, get_or, set, Option, Some, None, refl, sym, ap, ◌∙◌, subst, arith, replicate}
use Rattle.std.specs.List.{count_by, slice_get}
use Rattle.std.proofs.lemmas.Option.{slice_get-get_or}
use Rattle.std.proofs.Math.ListN.{length-set}
use Rattle.go_digraph_core.specs.chain.Chains.{AllInside, ChainLeads}
use Rattle.go_digraph_core.specs.chain.Laws.{ChainLeadsBack, EndlessLeadsBack}
use Rattle.go_digraph_core.specs.chain.mirrors.Known.{IsEndless}
use Rattle.go_digraph_core.proofs.ChainChained.{leads_on}
use Rattle.go_digraph_core.proofs.ChainLists.{fewer_left, marked_before, none_marked, unmarked_len}

pub bool_cases : (b : Bool) → (b ≡ true) ⊎ (b ≡ false)
bool_cases true = inl refl
bool_cases false = inr refl

pub option_cases : {X : Type 0} (o : Option X) → (o ≡ None) ⊎ ((x : X) × (o ≡ Some x))
option_cases None = inl refl
option_cases (Some x) = inr (x, refl)

-- a number that was passed leads on to another
abbrev pub Passed : List (Option ℕ) → ℕ → ℕ → Type 0
Passed next at j = (follower : ℕ) × (path : List ℕ) × ChainLeads next j (follower ∷ path) at

pub passed_still : (next : List (Option ℕ)) (at follower j : ℕ) → slice_get next at ≡ Some (Some follower) → Passed next at j → Passed next follower j
passed_still next at follower j f p = (p.0, p.1 ++ follower ∷ [], leads_on next j at follower (p.0 ∷ p.1) p.2 f)

pub passed_now : (next : List (Option ℕ)) (at follower j : ℕ) → slice_get next at ≡ Some (Some follower) → j ≡ at → Passed next follower j
passed_now next at follower j f e = (let P : ℕ → Type 0 = λ x. slice_get next x ≡ Some (Some follower) in (follower, [], (subst P (sym e) f, refl)))

back : (n : ℕ) (next : List (Option ℕ)) (marks : List Bool) (i at : ℕ) → AllInside next → IsEndless next i → length marks ≡ length next → count_by (λ m. not m) marks < n → at < length next
    → (path : List ℕ) → ChainLeads next i path at → ((j : ℕ) → get_or marks j false ≡ true → Passed next at j) → ChainLeadsBack next i
back zero next marks i at inside z len few lt path leads passed = absurd (omega arith)
back (suc n) next marks i at inside z len few lt path leads passed =
    elim (bool_cases (get_or marks at false)) [
      | inl m ↦ (at, (path, leads), passed at m)
      | inr u ↦
          (let here : slice_get next at ≡ Some (get_or next at None) = slice_get-get_or next at None lt in
          elim (option_cases (get_or next at None)) [
            | inl e ↦ absurd (z at (path, leads, here ∙ ap Some e))
            | inr f ↦
                (let follows : slice_get next at ≡ Some (Some f.0) = here ∙ ap Some f.1 in
                let lt' : at < length marks = omega arith in
                let fewer : count_by (λ m. not m) (set marks at true) < count_by (λ m. not m) marks = fewer_left marks at lt' u in
                back n next (set marks at true) i f.0 inside z (length-set marks at true ∙ len) (omega arith) (inside at f.0 follows) (path ++ f.0 ∷ []) (leads_on next i at f.0 path leads follows)
                (λ j m. elim (marked_before marks at j m) [
                  | inl e ↦ passed_now next at f.0 j follows e
                  | inr o ↦ passed_still next at f.0 j follows (passed j o)
                ]))
          ])
    ]

pub endless_leads_back : EndlessLeadsBack
endless_leads_back next inside i lt z =
    let marks : List Bool = replicate (length next) false in
    back (suc (count_by (λ m. not m) marks)) next marks i i inside z (unmarked_len (length next)) (omega arith) lt [] refl (λ j m. absurd (none_marked (length next) j m))
