-- What several reads give.
use Rattle.std.proofs.Common.{◌≡◌, ℕ, ◌+◌, ◌≤◌, List, ◌++◌, length, take, Option, Some, None, sym, ap, subst, ◌∙◌, arith}
use Rattle.std.proofs.lemmas.List.{append_assoc, append-nil, take_at, take_all, length-append}
use Rattle.std.specs.Prelude.{IfSome}
use Rattle.std.specs.Io.KnownBytes.{Consumes, IsAtEnd}
use Rattle.govisd_resolve.specs.Inputs.{ReadsUpTo}

-- one read after another
pub consumes_more : (old mid new : Option (List ℕ)) (bs cs : List ℕ) → Consumes old mid bs → Consumes mid new cs → Consumes old new (bs ++ cs)
consumes_more None mid new bs cs h k = tt
consumes_more (Some xs) None new bs cs h k = absurd h
consumes_more (Some xs) (Some ys) None bs cs h k = absurd k
consumes_more (Some xs) (Some ys) (Some zs) bs cs h k = h ∙ (ap (λ l. bs ++ l) k ∙ sym (append_assoc bs cs zs))

-- as many as are wanted
pub first_given : (old new : Option (List ℕ)) (bs : List ℕ) (n : ℕ) → Consumes old new bs → length bs ≡ n → IfSome old (λ xs. bs ≡ take n xs)
first_given None new bs n h e = tt
first_given (Some xs) None bs n h e = absurd h
first_given (Some xs) (Some ys) bs n h e = sym (ap (take n) h ∙ take_at bs ys n e)

-- all that there are
pub all_given : (old new : Option (List ℕ)) (bs : List ℕ) (n : ℕ) → Consumes old new bs → IsAtEnd new → length bs ≤ n → IfSome old (λ xs. bs ≡ take n xs)
all_given None new bs n h e l = tt
all_given (Some xs) None bs n h e l = absurd h
all_given (Some xs) (Some ys) bs n h e l = sym (ap (take n) (h ∙ (ap (λ l. bs ++ l) e ∙ append-nil bs)) ∙ take_all n bs l)

-- one more read of what there is room for
pub reads_more : (old mid new : Option (List ℕ)) (bs : List ℕ) (room most : ℕ) → Consumes old mid bs → ReadsUpTo room mid new → length bs + room ≤ most → ReadsUpTo most old new
reads_more old mid new bs room most before more fits =
    (bs ++ more.0, consumes_more old mid new bs more.0 before more.1, omega (arith, length-append bs more.0, more.2, fits))

-- what was read are the first bytes that there were
pub reads_first : (given left : Option (List ℕ)) (bs : List ℕ) (most : ℕ) → IfSome given (λ xs. bs ≡ take most xs) → Consumes given left bs → IfSome given (λ xs. Consumes given left (take most xs))
reads_first None left bs most first taken = tt
reads_first (Some xs) left bs most first taken = subst (Consumes (Some xs) left) first taken
