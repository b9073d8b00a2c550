-- No two answers hold of a program.
use Rattle.std.proofs.Common.{◌≡◌, ℕ, zero, suc, ◌<◌, Bool, true, false, List, [], ◌∷◌, length, get_or, Option, Some, None, ⊎_elim, refl, sym, ap, ap₂, ◌∙◌, subst, arith}
use Rattle.std.proofs.lemmas.Bool.{true≢false}
use Rattle.go_machine_core.specs.Programs.{LinkedOf}
use Rattle.go_machine_core.specs.link.Reaching.{AreReached, ReachesMissing, ReachesOutside}
use Rattle.go_machine_core.specs.link.Order.{starts_of}
use Rattle.go_machine_core.specs.link.Linked.{HasNoMain, IsBegun, IsBeyond, IsCut, IsRunnable, ProgramOf, RunnableOf}
use Rattle.go_machine_core.proofs.LinkWithin.{root_in, main_in}
use Rattle.go_machine_core.specs.runs.Laws.{AnswersAreOne}

abbrev made : List LinkedOf → List ℕ → RunnableOf
made fs ns = record { functions = fs; starts = ns }

-- two lists with the same marks are one
marks_same : (xs ys : List Bool) → length xs ≡ length ys → ((n : ℕ) → get_or xs n false ≡ true → get_or ys n false ≡ true) → ((n : ℕ) → get_or ys n false ≡ true → get_or xs n false ≡ true) → xs ≡ ys
marks_same [] [] e h k = refl
marks_same [] (y ∷ ys) e h k = absurd (omega (arith, e))
marks_same (x ∷ xs) [] e h k = absurd (omega (arith, e))
marks_same (x ∷ xs) (y ∷ ys) e h k = ap₂ ◌∷◌ (one x y (h 0) (k 0)) (marks_same xs ys (omega (arith, e)) (λ n. h (suc n)) (λ n. k (suc n)))
  where
    one : (x y : Bool) → (x ≡ true → y ≡ true) → (y ≡ true → x ≡ true) → x ≡ y
    one true y f g = sym (f refl)
    one false true f g = g refl
    one false false f g = refl

reached_same : (p : ProgramOf) (from : ℕ) (xs ys : List Bool) → AreReached p.packages from xs → AreReached p.packages from ys → xs ≡ ys
reached_same p from xs ys a b = marks_same xs ys (a.many ∙ sym b.many) (λ n m. (b.each n).1 ((a.each n).0 m)) (λ n m. (a.each n).1 ((b.each n).0 m))

pub begun_same : (p : ProgramOf) (r s : RunnableOf) → IsBegun p r → IsBegun p s → r ≡ s
begun_same p r s a b =
    let same = sym b.begins ∙ a.begins in
    let root : b.entry.root ≡ a.entry.root = ap root_in same in
    let main : b.entry.main ≡ a.entry.main = ap main_in same in
    let reached : AreReached p.packages a.entry.root b.marks = subst (λ (n : ℕ). AreReached p.packages n b.marks) root b.reached in
    let marks : a.marks ≡ b.marks = reached_same p a.entry.root a.marks b.marks a.reached reached in
    let functions : r.functions ≡ s.functions = a.functions ∙ sym b.functions in
    let starts : r.starts ≡ s.starts = a.starts ∙ (ap (λ (m : List Bool). starts_of p.packages p.order m a.entry.main) marks ∙ (ap (λ (n : ℕ). starts_of p.packages p.order b.marks n) (sym main) ∙ sym b.starts)) in
    ap₂ made functions starts

main_there : {A : Type 0} (o : Option A) (e : A) → o ≡ None → o ≡ Some e → ⊥
main_there o e n s = cc

beyond_not : (p : ProgramOf) (r : RunnableOf) → IsRunnable p r → IsBeyond p → ⊥
beyond_not p r h b = ⊎_elim h.whole (λ x. h.inside (subst (λ (s : RunnableOf). ReachesOutside s.functions s.starts) (begun_same p x.0 r x.1 h.begun) x.2)) b

pub answers_are_one : AnswersAreOne
answers_are_one = record {
  one = begun_same;
  no_main = λ p r h none. main_there _ h.begun.entry none h.begun.begins;
  beyond = beyond_not;
  main_first = λ p b none. ⊎_elim (λ cut. main_there _ cut.0 none cut.1) (λ x. main_there _ x.1.entry none x.1.begins) b;
}
