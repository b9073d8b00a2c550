-- Words that stand in lines.
use Rattle.std.proofs.Common.{◌≡◌, ◌∙◌, ℕ, List, [], ◌∷◌, ◌++◌, append_assoc, Result, Ok, Err, OnOk, refl, sym, ap}
use Rattle.go_folder_core.specs.declared.orders.Format.{Format}
use Rattle.go_folder_core.specs.declared.orders.Format.TheVariants as format
use Rattle.go_folder_core.specs.declared.places.Position.{Position}
use Rattle.std.specs.Prelude.{codes}
use Rattle.std.proofs.lemmas.List.{append-nil}
use Rattle.govisd_folders.specs.Telling.{AddsBelow, AddsBeside, AddsLine, AddsNote, AddsNotes, AddsText, AddsWords, AreBelow, AreBeside, HasMore, HasNote, IsInLine, IsNone, NoNote, note_front}

-- words and the end of their line
pub words_added : {X E : Type 0} (r : Result X E) (start mid new words : List ℕ) → mid ≡ start ++ words → IsInLine words → OnOk r (new ≡ mid ++ codes "\n") → OnOk r (AddsWords start new)
words_added (Ok x) start mid new words is inside e = record { words = words; one_line = inside; is = e ∙ ap (λ l. l ++ codes "\n") is ∙ append_assoc start words (codes "\n") }
words_added (Err e) start mid new words is inside k = tt

-- no line
pub below_none : (start : List ℕ) → AddsBelow start start
below_none start = ([], IsNone, sym (append-nil start))

-- one more line
pub below_more : (start old mid new : List ℕ) → AddsBelow start old → mid ≡ old ++ codes " " → AddsWords mid new → AddsBelow start new
below_more start old mid new h blank w = (
  h.0 ++ (codes " " ++ (w.words ++ codes "\n")),
  HasMore w.words h.0 w.one_line h.1,
  w.is
      ∙ (ap (λ l. l ++ (w.words ++ codes "\n")) (blank ∙ ap (λ l. l ++ codes " ") h.2)
      ∙ (append_assoc (start ++ h.0) (codes " ") (w.words ++ codes "\n") ∙ append_assoc start h.0 (codes " " ++ (w.words ++ codes "\n")))),
)

-- a line after what it begins with
line_added : (start mid new front : List ℕ) → mid ≡ start ++ front → AddsWords mid new → AddsLine front start new
line_added start mid new front is w = (
  front ++ (w.words ++ codes "\n"),
  record { words = w.words; one_line = w.one_line; is = refl },
  w.is ∙ (ap (λ l. l ++ (w.words ++ codes "\n")) is ∙ append_assoc start front (w.words ++ codes "\n")),
)

pub line_ended : {X E : Type 0} (r : Result X E) (start mid new front : List ℕ) → mid ≡ start ++ front → OnOk r (AddsWords mid new) → OnOk r (AddsLine front start new)
line_ended (Ok x) start mid new front is w = line_added start mid new front is w
line_ended (Err e) start mid new front is w = tt

-- and lines below it
pub text_ended : {X E : Type 0} (r : Result X E) (start first mid new front : List ℕ) → first ≡ start ++ front → AddsWords first mid → OnOk r (AddsBelow mid new) → OnOk r (AddsText front start new)
text_ended (Ok x) start first mid new front is w below =
    let line = line_added start first mid front is w in (
      line.0 ++ below.0,
      record { line = line.0; first = line.1; below = below.0; lines = below.1; is = refl },
      below.2 ∙ (ap (λ l. l ++ below.0) line.2 ∙ append_assoc start line.0 below.0),
    )
text_ended (Err e) start first mid new front is w below = tt

-- what is said at a place that has no fault
pub note_ended : {X E : Type 0} (r : Result X E) (start mid new file : List ℕ) (at : Position) → mid ≡ start ++ note_front file at → OnOk r (AddsWords mid new) → OnOk r (AddsNote start new)
note_ended (Ok x) start mid new file at is w = record { file = file; at = at; line = line_added start mid new (note_front file at) is w }
note_ended (Err e) start mid new file at is w = tt

-- at no place, and at one more
pub notes_none : (start : List ℕ) → AddsNotes start start
notes_none start = ([], NoNote, sym (append-nil start))

pub notes_more : (start old new : List ℕ) → AddsNotes start old → AddsNote old new → AddsNotes start new
notes_more start old new h n = (
  h.0 ++ n.line.0,
  HasNote n.line.0 h.0 (record { file = n.file; at = n.at; is = n.line.1 }) h.1,
  n.line.2 ∙ (ap (λ l. l ++ n.line.0) h.2 ∙ append_assoc start h.0 n.line.0),
)

-- in each form
pub beside_of : (f : Format) (old new : List ℕ) → AddsBeside f old new → (notes : List ℕ) × AreBeside f notes × (new ≡ old ++ notes)
beside_of format.Text old new h = h
beside_of format.Json old new h = ([], refl, h ∙ sym (append-nil old))
beside_of format.Github old new h = ([], refl, h ∙ sym (append-nil old))
beside_of format.Sarif old new h = ([], refl, h ∙ sym (append-nil old))
