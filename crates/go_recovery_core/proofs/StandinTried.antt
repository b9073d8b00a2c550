-- What was tried.
use Rattle.std.proofs.Common.{◌≡◌, ◌∙◌, ◌+◌, ◌<◌, ℕ, List, [], ◌∷◌, drop, length, slice_index_or, drop-cons, add-one, Option, None, Some, sym, ap, subst, arith}
use Rattle.std.specs.List.{AllByRecursion}
use Rattle.std.specs.Prelude.{string_bytes}
use Rattle.go_recovery_core.specs.declared.standin.part.Interval.{Interval}
use Rattle.go_recovery_core.specs.declared.standin.standing.StandIn.{StandIn}
use Rattle.go_recovery_core.specs.standin.Blanks.{all_blanked}
use Rattle.go_recovery_core.specs.standin.Files.{HasLowTree, IsNoFile}
use Rattle.go_recovery_core.specs.standin.Standing.{FailsAtEdit, FailsWithoutBroken, FailsWithoutSome, IsFound, IsFoundAtEdit, IsFoundElsewhere, IsFoundSomewhere, IsFoundWithoutBroken, IsFoundWithoutOne, IsFoundWithoutSome, IsKept, IsStandIn, IsTried, Stands}
use Rattle.go_parse_core.specs.Correct.{HasNoLowTree}
use Rattle.go_recovery_core.specs.standin.Alone.{AreBroken}
use Rattle.go_recovery_core.specs.standin.Lines.{lines_of}
use Rattle.go_recovery_core.specs.standin.Outlines.{declarations}
use Rattle.go_recovery_core.proofs.StandinAlike.{none_blanked}

-- with blanks in the place of a part it does not parse, nor with those in the place of one of the others
pub none_more : (text : List ℕ) (parts : List Interval) (i : ℕ) (d : Interval) → i < length parts → IsNoFile (all_blanked (slice_index_or parts i d ∷ []) text)
    → AllByRecursion (λ part. IsNoFile (all_blanked (part ∷ []) text)) (drop (i + 1) parts) → AllByRecursion (λ part. IsNoFile (all_blanked (part ∷ []) text)) (drop i parts)
none_more text parts i d lt h k =
    let cut : drop i parts ≡ slice_index_or parts i d ∷ drop (i + 1) parts = drop-cons parts i d lt ∙ ap (λ m. slice_index_or parts i d ∷ drop m parts) (sym (add-one i)) in
    subst (AllByRecursion (λ part. IsNoFile (all_blanked (part ∷ []) text))) (sym cut) (h, k)

-- a text that was kept, of the bytes that were blanked
pub kept : (text blank : List ℕ) (parts : List Interval) (s : Option StandIn) → blank ≡ all_blanked parts text → IsKept blank parts s → IsTried text parts s
kept text blank parts None e h = λ k. (let low = subst HasLowTree (sym e) k.1 in h low.0 low.1 low.2)
kept text blank parts (Some s) e h = (record { blanks = h.0 ∙ (e ∙ ap (λ ps. all_blanked ps text) (sym h.1)); parses = subst HasLowTree (sym h.0) h.2 }, h.1)

-- the text itself
pub itself : (text : List ℕ) (s : StandIn) → string_bytes s.text ≡ text → s.blanked.items ≡ [] → HasLowTree text → Stands text s
itself text s is none h = record {
  blanks = is ∙ (sym (none_blanked 0 text) ∙ ap (λ parts. all_blanked parts text) (sym none));
  parses = subst HasLowTree (sym is) h;
}

pub edit_tried : (text : List ℕ) (edited : Interval) (lines : Interval) (s : Option StandIn) → lines ≡ lines_of text edited → IsTried text (lines ∷ []) s → IsFoundAtEdit text (Some edited) s
edit_tried text edited lines None e h = subst (λ l. IsNoFile (all_blanked (l ∷ []) text)) e h
edit_tried text edited lines (Some s) e h = h.0

pub without : (text : List ℕ) (parts broken : List Interval) (s : Option StandIn) → AreBroken text parts broken → IsTried text broken s → IsFoundWithoutBroken text parts s
without text parts broken None b h = (broken, b, h)
without text parts broken (Some s) b h = h.0

-- one declaration was blanked after the other, or there are many
pub without_each : (text : List ℕ) (parts : List Interval) (s : Option StandIn) → IsFound text parts s → IsFoundWithoutOne text parts s
without_each text parts None h = λ few. h
without_each text parts (Some s) h = h

pub of_many : (text : List ℕ) (parts : List Interval) → 32 < length parts → IsFoundWithoutOne text parts None
of_many text parts many = λ few. absurd (omega (arith, few, many))

pub without_any : (text : List ℕ) (parts : List Interval) (s : Option StandIn) → FailsWithoutBroken text parts → IsFoundWithoutOne text parts s → IsFoundWithoutSome text parts s
without_any text parts None f h = (f, h)
without_any text parts (Some s) f h = h

pub elsewhere_is : (text : List ℕ) (parts : List Interval) (s : Option StandIn) → parts ≡ declarations text → IsFoundWithoutSome text parts s → IsFoundElsewhere text s
elsewhere_is text parts None e h = subst (FailsWithoutSome text) e h
elsewhere_is text parts (Some s) e h = h

pub somewhere_is : (text : List ℕ) (edited : Option Interval) (s : Option StandIn) → FailsAtEdit text edited → IsFoundElsewhere text s → IsFoundSomewhere text edited s
somewhere_is text edited None f h = (f, h)
somewhere_is text edited (Some s) f h = h

pub stands_in : (text : List ℕ) (edited : Option Interval) (s : Option StandIn) → HasNoLowTree text → IsFoundSomewhere text edited s → IsStandIn text edited s
stands_in text edited None n h = (n, h.0, h.1)
stands_in text edited (Some s) n h = (h, λ low. absurd (n low.0 low.1 low.2))
