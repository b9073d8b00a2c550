use Rattle.std.proofs.Common.{◌≡◌, ◌<◌, ◌/◌, ℕ, List, length, get_or, ap, ◌∙◌, arith}
use Rattle.std.proofs.lemmas.Grind.{get_or_default_zero}
use Rattle.go_digraph_core.specs.reach.Numbers.{Numbers}
use Rattle.go_digraph_core.specs.reach.mirrors.Words.{AreWords, numbers_of}
use Rattle.go_digraph_core.proofs.ReachChanges.{insert_words, insert_members}
use Rattle.go_digraph_core.proofs.reach.numbers.NumberSet.insert.Goals as goal

-- the word that is read, with the default that lemmas write
read : (bound : ℕ) (ws : List ℕ) (seen : Numbers) (k w : ℕ) → numbers_of bound ws ≡ seen → AreWords bound ws → k < seen.bound → w ≡ get_or ws (k / 64) w → w ≡ get_or ws (k / 64) 0
read bound ws seen k w is are below e = (let place : k / 64 < length ws = omega (arith, are.len, below, ap (λ (s : Numbers). s.bound) is) in e ∙ get_or_default_zero ws (k / 64) w place)

pub invariant_of-self : goal.invariant_of-self
invariant_of-self c = insert_words c.self.inside.bound c.self.inside.words.items c.args.self.now c.args.number c.index.result.now c.self.view_is c.self.invariant c.requires (read _ _ _ _ _ c.self.view_is c.self.invariant c.requires c.index.ensures)

pub returns-clause-members : goal.returns-clause-members
returns-clause-members c = insert_members c.self.inside.bound c.self.inside.words.items c.args.self.now c.args.number c.index.result.now c.self.view_is c.self.invariant c.requires (read _ _ _ _ _ c.self.view_is c.self.invariant c.requires c.index.ensures)
