-- A message stands alone.
use Rattle.std.proofs.Common.{◌≡◌, ◌∙◌, ℕ, List, ◌++◌, length, take, sym, ap, append_assoc}
use Rattle.std.proofs.lemmas.List.{append_cancel_left, take-append-le}
use Rattle.std.proofs.Math.Seq.{take-append_seam}
use Rattle.go_lsp_core.specs.frames.Frames.{content_length}
use Rattle.go_lsp_core.specs.frames.Laws.{ComesFirst, OneMessage}
use Rattle.go_lsp_core.proofs.FramesEnds.{head_stays, head_within, some_some}

split : (m n left rest : List ℕ) → length m ≡ length n → m ++ left ≡ n ++ rest → (m ≡ n) × (left ≡ rest)
split m n left rest e h =
    let same : m ≡ n = sym (take-append_seam m left) ∙ (ap (take (length m)) h ∙ (ap (λ k. take k (n ++ rest)) e ∙ take-append_seam n rest)) in
    (same, append_cancel_left m left rest (h ∙ ap (λ l. l ++ rest) (sym same)))

pub one_message : OneMessage
one_message m n all left rest h k =
    let head : h.head ≡ k.head = some_some h.head k.head (sym h.found ∙ k.found) in
    let size : length m ≡ length n = some_some (length m) (length n) (sym h.long ∙ (ap (λ i. content_length (take i all)) head ∙ k.long)) in
    split m n left rest size (append_cancel_left (take h.head all) (m ++ left) (n ++ rest) (sym h.whole ∙ (k.whole ∙ ap (λ i. take i all ++ (n ++ rest)) (sym head))))

pub comes_first : ComesFirst
comes_first m all left more h =
    let front : take h.head (all ++ more) ≡ take h.head all = take-append-le h.head all more (head_within all h.head h.found) in
    record {
      head = h.head;
      found = head_stays all more h.head h.found;
      long = ap content_length front ∙ h.long;
      short = h.short;
      whole = ap (λ l. l ++ more) h.whole ∙ (append_assoc (take h.head all) (m ++ left) more ∙ (ap (λ l. take h.head all ++ l) (append_assoc m left more) ∙ ap (λ l. l ++ (m ++ (left ++ more))) (sym front)));
    }
