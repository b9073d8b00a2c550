-- A desk that keeps a list.
use Rattle.std.proofs.Common.{ℕ, List, [], ◌∷◌, ◌++◌, refl, sym, ap, ◌∙◌}
use Rattle.std.proofs.lemmas.List.{append_assoc, append-nil}
use Rattle.go_wire_core.specs.declared.request.Request.{Request}
use Rattle.go_wire_core.specs.declared.reply.WireReply.{WireReply}
use Rattle.go_wire_core.specs.declared.reply.WireReply.TheVariants.{Refused}
use Rattle.go_wire_core.specs.declared.step.Step.{Step}
use Rattle.go_wire_core.specs.declared.step.Step.TheVariants.{Ask, Refuse}
use Rattle.go_wire_core.specs.Histories.{AsksInOrder, IsNoted, Notes}
use Rattle.go_wire_core.specs.Replies.{line_of}
use Rattle.go_wire_core.specs.Steps.{AreDone}

steps_are_noted : {D : Type 0} (answers : D → Request → WireReply → D → Type 0) (history : D → List (Request × WireReply)) → Notes answers history
    → (steps : List Step) (d e : D) (out : List ℕ) → AreDone answers d steps e out → IsNoted history steps d e out
steps_are_noted answers history notes [] d e out h = record { noted = []; grows = ap history h.0 ∙ sym (append-nil (history d)); asked = refl; written = h.1 }
steps_are_noted answers history notes (Ask request ∷ steps) d e out h =
    let later = steps_are_noted answers history notes steps h.1 e h.2 h.4 in
    let one : Request × WireReply = (request, h.0) in
    record {
      noted = one ∷ later.noted;
      grows = later.grows ∙ (ap (λ l. l ++ later.noted) (notes d request h.0 h.1 h.3) ∙ append_assoc (history d) (one ∷ []) later.noted);
      asked = ap (λ l. request ∷ l) later.asked;
      written = h.5 ∙ ap (λ l. line_of request.session h.0 ++ l) later.written;
    }
steps_are_noted answers history notes (Refuse session rule ∷ steps) d e out h =
    let later = steps_are_noted answers history notes steps d e h.0 h.1 in
    record { noted = later.noted; grows = later.grows; asked = later.asked; written = h.2 ∙ ap (λ l. line_of session (Refused rule) ++ l) later.written }

pub asks_in_order : {D : Type 0} (answers : D → Request → WireReply → D → Type 0) → AsksInOrder answers
asks_in_order answers history notes steps d e out h = steps_are_noted answers history notes steps d e out h
