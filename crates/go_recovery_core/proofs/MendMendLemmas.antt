-- What is said, and that a change that is told fits.
use Rattle.std.proofs.Common.{◌≡◌, ◌≤◌, ◌<◌, ℕ, Bool, true, false, List, [], ◌∷◌, length, Option, Some, None, inl, inr, IfSome, refl, ap, sym, subst, ◌∙◌, arith}
use Rattle.std.specs.Prelude.{nat_lt, slice_get}
use Rattle.go_tree_nodes.specs.token_core.declared.token.Token.{Token}
use Rattle.go_parse_core.specs.declared.error.SynFault.{SynFault}
use Rattle.go_recovery_core.specs.declared.mend.mending.Mending.{Mending}
use Rattle.go_recovery_core.specs.declared.mend.outcome.Mend.{Mend}
use Rattle.go_recovery_core.specs.declared.mend.outcome.Told.{Told}
use Rattle.go_recovery_core.specs.declared.mend.outcome.Told.TheVariants as tolds
use Rattle.go_recovery_core.specs.mend.Candidates.{candidates}
use Rattle.go_recovery_core.specs.mend.Mended.{mended_text}
use Rattle.go_recovery_core.specs.mend.Mends.{Fits, HasSomeTree, IsFirstFit, IsMendAt, IsMendingAt, IsToldOf, is_grammar, is_height, open_offset}
use Rattle.go_recovery_core.specs.mend.Outcomes.{mend_of}
use Rattle.go_recovery_core.specs.mend.Tokens.{open_before, place_of}

-- what is said, from what each call answers about the same tokens
pub mend_said : (text : List ℕ) (fault : SynFault) (tokens one two three four five : List Token) (n : ℕ) (told : Told) (met : Option Token) (bracket place : Option ℕ) (high : Bool) (m : Mend)
    → one ≡ tokens → two ≡ tokens → three ≡ tokens → four ≡ tokens → five ≡ tokens
    → n ≡ place_of one fault.offset → IsToldOf text two n fault told
    → bracket ≡ open_before four n 0 → place ≡ open_offset three bracket → met ≡ slice_get five n → high ≡ is_height fault.rule
    → m ≡ mend_of fault.offset met place high told
    → IsMendAt text tokens (place_of tokens fault.offset) fault m
mend_said text fault tokens one two three four five n told met bracket place high m a b c d e number t open_is place_is met_is high_is is =
    let at : n ≡ place_of tokens fault.offset = number ∙ ap (λ ts. place_of ts fault.offset) a in
    let said : IsToldOf text tokens (place_of tokens fault.offset) fault told =
    subst (λ k. IsToldOf text tokens k fault told) at (subst (λ ts. IsToldOf text ts n fault told) b t) in
    let there : bracket ≡ open_before tokens (place_of tokens fault.offset) 0 = open_is ∙ ap (λ ts. open_before ts n 0) d ∙ ap (λ k. open_before tokens k 0) at in
    let stands : place ≡ open_offset tokens (open_before tokens (place_of tokens fault.offset) 0) = place_is ∙ ap (λ ts. open_offset ts bracket) c ∙ ap (open_offset tokens) there in
    let token : met ≡ slice_get tokens (place_of tokens fault.offset) = met_is ∙ ap (λ ts. slice_get ts n) e ∙ ap (slice_get tokens) at in (
      told,
      said,
      is
          ∙ ap (λ x. mend_of fault.offset x place high told) token
          ∙ ap (λ x. mend_of fault.offset (slice_get tokens (place_of tokens fault.offset)) x high told) stands
          ∙ ap (λ x. mend_of fault.offset (slice_get tokens (place_of tokens fault.offset)) (open_offset tokens (open_before tokens (place_of tokens fault.offset) 0)) x told) high_is,
    )

-- the first change that fits does
first_fits : (text : List ℕ) (cs : List (Option Mending)) (x : Mending) → IsFirstFit text cs (Some x) → HasSomeTree (mended_text text x)
first_fits text [] x h = absurd (cc)
first_fits text (c ∷ cs) x (inl w) = subst (Fits text) (sym w.1) w.0
first_fits text (c ∷ cs) x (inr w) = first_fits text cs x w.1

above : (a b : ℕ) → nat_lt a b ≡ true → a < b
above a b e = grind arith

up_to : (a b : ℕ) → nat_lt a b ≡ false → b ≤ a
up_to a b e = grind arith

-- with the change that is told the text has a tree
mending_fits : (text : List ℕ) (tokens : List Token) (n offset : ℕ) (x : Mending) → IsMendingAt text tokens n offset (Some x) → HasSomeTree (mended_text text x)
mending_fits text tokens n offset x h = by (nat_lt 100000 (length text)) refl
  where
    by : (b : Bool) → nat_lt 100000 (length text) ≡ b → HasSomeTree (mended_text text x)
    by true e = (let none : Some x ≡ None = h.1 (above 100000 (length text) e) in absurd (cc))
    by false e = first_fits text (candidates text tokens n offset) x (h.0 (up_to 100000 (length text) e))

of_told : (text : List ℕ) (tokens : List Token) (n : ℕ) (fault : SynFault) (told : Told) (at : ℕ) (met : Option Token) (place : Option ℕ) (high : Bool)
    → IsToldOf text tokens n fault told → IfSome (mend_of at met place high told).mending (λ x. HasSomeTree (mended_text text x))
of_told text tokens n fault (tolds.Form form) at met place high t = tt
of_told text tokens n fault (tolds.Foreign word) at met place high t = tt
of_told text tokens n fault tolds.Nothing at met place high t = tt
of_told text tokens n fault (tolds.Mending x) at met place high t = by (is_grammar fault.rule) refl
  where
    by : (b : Bool) → is_grammar fault.rule ≡ b → HasSomeTree (mended_text text x)
    by true e = mending_fits text tokens n fault.offset x (t.0 e).1
    by false e = (let none : tolds.Mending x ≡ tolds.Nothing = t.1 e in absurd (cc))

pub told_fits : (text : List ℕ) (tokens : List Token) (n : ℕ) (fault : SynFault) (told : Told) (at : ℕ) (met : Option Token) (place : Option ℕ) (high : Bool) (m : Mend)
    → IsToldOf text tokens n fault told → m ≡ mend_of at met place high told → IfSome m.mending (λ x. HasSomeTree (mended_text text x))
told_fits text tokens n fault told at met place high m t is = subst (λ k. IfSome k.mending (λ x. HasSomeTree (mended_text text x))) (sym is) (of_told text tokens n fault told at met place high t)
