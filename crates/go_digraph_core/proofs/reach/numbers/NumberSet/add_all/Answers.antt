use Rattle.std.proofs.Common.{◌≡◌, ◌⊎◌, ◌↔◌, ℕ, List, Contains, bit_or, get_or, length, subst, sym, ap, ◌∙◌}
use Rattle.std.proofs.lemmas.List.{take_at}
use Rattle.go_digraph_core.specs.reach.mirrors.Words.{numbers_of, AreWords}
use Rattle.go_digraph_core.proofs.ReachBits.{AreUnited}
use Rattle.go_digraph_core.proofs.ReachChanges.{united_words, united_members}
use Rattle.go_digraph_core.proofs.reach.numbers.NumberSet.add_all.Goals as goal

-- the words after the call, of those before it and of the other set's
united : (a b xs ys zs : List ℕ) → a ≡ xs → b ≡ ys → AreUnited a b zs → AreUnited xs ys zs
united a b xs ys zs p q h i = h i ∙ (ap (λ l. bit_or (get_or l i 0) (get_or b i 0)) p ∙ ap (λ l. bit_or (get_or xs i 0) (get_or l i 0)) q)

pub invariant_of-self : goal.invariant_of-self
invariant_of-self c =
    let kept = c.unite.auto.words ∙ c.deref_mut.ensures.len in
    let P : List ℕ → Type 0 = λ l. AreWords c.self.inside.bound l in
    subst P (sym (take_at c.unite.new.words _ _ kept))
    (united_words c.self.inside.bound c.other.inside.bound c.self.inside.words.items c.other.inside.words.items c.unite.new.words c.args.self.now c.args.other.now c.self.view_is c.other.view_is c.self.invariant c.other.invariant c.requires (c.unite.auto.words ∙ ap length c.deref_mut.ensures.value)
    (united _ _ _ _ _ c.deref_mut.ensures.value c.deref.ensures.value c.unite.ensures))

pub returns-clause-members : goal.returns-clause-members
returns-clause-members c =
    let kept = c.unite.auto.words ∙ c.deref_mut.ensures.len in
    let P : List ℕ → Type 0 = λ l. (j : ℕ) → Contains (numbers_of c.self.inside.bound l).members j ↔ (Contains c.args.self.now.members j ⊎ Contains c.args.other.now.members j) in
    subst P (sym (take_at c.unite.new.words _ _ kept))
    (united_members c.self.inside.bound c.other.inside.bound c.self.inside.words.items c.other.inside.words.items c.unite.new.words c.args.self.now c.args.other.now c.self.view_is c.other.view_is c.self.invariant c.other.invariant c.requires (c.unite.auto.words ∙ ap length c.deref_mut.ensures.value)
    (united _ _ _ _ _ c.deref_mut.ensures.value c.deref.ensures.value c.unite.ensures))
