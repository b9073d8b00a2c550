use Rattle.std.proofs.Common.{◌≡◌, ◌<◌, ◌∷◌, ◌++◌, [], List, ℕ, Bool, All, Vec, sym, ap, ◌∙◌, subst}
use Rattle.std.specs.declared.alloc.Global.{Global}
use Rattle.std.specs.List.Sorted.{IsStrictlyIncreasing}
use Rattle.go_digraph_core.specs.reach.Numbers.{Numbers}
use Rattle.go_digraph_core.specs.reach.mirrors.Words.{has_bit}
use Rattle.go_digraph_core.proofs.ReachMembers.{kept_here, kept_other, numbers_rise, numbers_below}
use Rattle.go_digraph_core.proofs.reach.numbers.NumberSet.list.Goals as goal
use Rattle.go_digraph_core.proofs.reach.numbers.NumberSet.list.Goals.{then-has_bit+in_ok-push, else-has_bit}

pub loop-number-preserved : goal.loop-number-preserved
loop-number-preserved c =
    let p : ℕ → Bool = has_bit c.self.inside.words.items in
    let n : ℕ = c.loop-number.number in
    let at : c.has_bit.result ≡ p n = c.has_bit.ensures ∙ ap (λ (l : List ℕ). has_bit l n) c.deref.ensures.value in
    elim c.if-has_bit.branch [
      | then-has_bit+in_ok-push w ↦ ap (λ (v : Vec ℕ Global). v.items) w.numbers-is ∙ (w.in_ok-push.ensures.items ∙ (ap (λ (l : List ℕ). l ++ n ∷ []) c.loop-number.invariant ∙ sym (kept_here p n (sym at ∙ w.if-has_bit.true))))
      | else-has_bit w ↦ ap (λ (v : Vec ℕ Global). v.items) w.numbers-is ∙ (c.loop-number.invariant ∙ sym (kept_other p n (sym at ∙ w.if-has_bit.false)))
    ]

pub returns-in_err-push-clause-rising : goal.returns-in_err-push-clause-rising
returns-in_err-push-clause-rising c = (let P : Numbers → Type 0 = λ s. IsStrictlyIncreasing s.members in subst P c.self.view_is (numbers_rise c.self.inside.bound c.self.inside.words.items))

pub returns-in_err-push-clause-below : goal.returns-in_err-push-clause-below
returns-in_err-push-clause-below c = (let P : Numbers → Type 0 = λ s. All (λ k. k < s.bound) s.members in subst P c.self.view_is (numbers_below c.self.inside.bound c.self.inside.words.items))

pub returns-clause-rising : goal.returns-clause-rising
returns-clause-rising c = (let P : Numbers → Type 0 = λ s. IsStrictlyIncreasing s.members in subst P c.self.view_is (numbers_rise c.self.inside.bound c.self.inside.words.items))

pub returns-clause-below : goal.returns-clause-below
returns-clause-below c = (let P : Numbers → Type 0 = λ s. All (λ k. k < s.bound) s.members in subst P c.self.view_is (numbers_below c.self.inside.bound c.self.inside.words.items))
