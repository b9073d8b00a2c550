use Rattle.std.proofs.Common.{◌≡◌, ◌++◌, drop}
use Rattle.std.specs.Prelude.{string_bytes}
use Rattle.go_object_core.specs.instructions.Writing.{letters_of}
use Rattle.go_object_core.proofs.words.add_words.Given as goal

abbrev pub invariant-loop-word : goal.invariant-loop-word
invariant-loop-word l = string_bytes l.fn.text ++ letters_of l.words ≡ string_bytes l.text ++ letters_of (drop l.word-index l.words)
