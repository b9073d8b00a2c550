-- Edits of parts of a text, all at once.
use Rattle.std.specs.Prelude.{ℕ, ◌+◌, ◌-◌, ◌≤◌, ⊤, nat_le, List, [], ◌∷◌, ◌++◌, length, take, drop, if◌then◌else◌, IsCharBoundary}
use Rattle.go_lsp_core.specs.declared.edits.edits.Edit.{Edit}

-- a part of a text, from an offset to another one, and what is to stand in its place
pub record Part : Type 0 where
  pub start : ℕ
  pub end : ℕ
  pub new : List ℕ

abbrev pub part : ℕ → ℕ → List ℕ → Part
part start end new = record { start = start; end = end; new = new }

-- the part of an edit
abbrev pub part_of : Edit → Part
part_of e = part e.start e.end e.new.now

-- it is one of the text, starts at an offset or after it, and cuts no character
pub record Fits (text : List ℕ) (from : ℕ) (e : Part) : Type 0 where
  pub after : from ≤ e.start
  pub order : e.start ≤ e.end
  pub begins : IsCharBoundary text e.start
  pub ends : IsCharBoundary text e.end

-- from an offset on they are parts of the text, one after another
abbrev pub Stand : List ℕ → ℕ → List Part → Type 0
Stand text from [] = ⊤
Stand text from (e ∷ es) = Fits text from e × Stand text e.end es

-- the same, of whatever text
abbrev pub AreInOrder : ℕ → List Part → Type 0
AreInOrder from [] = ⊤
AreInOrder from (e ∷ es) = (from ≤ e.start) × (e.start ≤ e.end) × AreInOrder e.end es

-- the text with one part of it replaced
abbrev pub edited_once : List ℕ → Part → List ℕ
edited_once text e = take e.start text ++ (e.new ++ drop e.end text)

-- the text after edits of parts that stand in order: the last one is made first, so that the others stand where they stood
abbrev pub edited : List ℕ → List Part → List ℕ
edited text [] = text
edited text (e ∷ es) = edited_once (edited text es) e

-- the bytes of the parts that end at an offset or before it
abbrev pub lost : List Part → ℕ → ℕ
lost [] n = 0
lost (e ∷ es) n = if nat_le e.end n then (e.end - e.start) + lost es n else 0

-- and those of what stands in their place
abbrev pub gained : List Part → ℕ → ℕ
gained [] n = 0
gained (e ∷ es) n = if nat_le e.end n then length e.new + gained es n else 0

-- where an offset comes to lie
abbrev pub moved : List Part → ℕ → ℕ
moved es n = (n - lost es n) + gained es n
