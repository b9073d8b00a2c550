use Rattle.std.proofs.Common.{◌≡◌, ◌∙◌, true, false, rules, subst, sym}
use Rattle.std.specs.Str.Iter.{split_whitespace_rest}
use Rattle.std.proofs.lemmas.Slice.Eq.{bytes_eq-Decides}
use Rattle.go_folder_core.specs.Modules.{HasNoWord, IsBlank, IsFirstWord, IsOther, module_word}
use Rattle.go_folder_core.proofs.ModuleLemmas.{first_of, second_of}
use Rattle.go_folder_core.proofs.modules.word_behind.Goals as goal

pub returns-then-eq : goal.returns-then-eq
returns-then-eq c =
    let rest = split_whitespace_rest c.next.new.self in
    let first = subst (λ l. IsFirstWord l c.in-Some.first.now rest) c.split_whitespace-words.ensures.rest (first_of c.split_whitespace-words.result c.next.new.self c.in-Some.first c.in-Some.ensures.steps) in
    second_of c.args.line.now c.in-Some.first.now c.next.new.self c.next-then-eq.new.self c.next-then-eq.result first ((bytes_eq-Decides c.in-Some.first.now module_word).0 (search rules)) c.next-then-eq.ensures.steps

pub returns-else-eq : goal.returns-else-eq
returns-else-eq c =
    let rest = split_whitespace_rest c.next.new.self in
    let first = subst (λ l. IsFirstWord l c.in-Some.first.now rest) c.split_whitespace-words.ensures.rest (first_of c.split_whitespace-words.result c.next.new.self c.in-Some.first c.in-Some.ensures.steps) in
    IsOther c.in-Some.first.now rest first (λ e. let bad : true ≡ false = sym ((bytes_eq-Decides c.in-Some.first.now module_word).1 e) ∙ search rules in absurd (cc))

pub returns-in-None : goal.returns-in-None
returns-in-None c = IsBlank (subst HasNoWord c.split_whitespace-words.ensures.rest c.in-None.ensures.steps.1)
