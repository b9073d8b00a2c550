-- What is said in two parts.
use Rattle.std.proofs.Common.{◌≡◌, ◌∙◌, ◌+◌, ℕ, Bool, true, false, List, ◌++◌, length, take, Option, Some, None, sym, ap, subst, arith}
use Rattle.std.proofs.lemmas.List.{append_assoc, length-append, take-append-le}
use Rattle.std.proofs.Math.Seq.{take-append-add}
use Rattle.std.specs.Io.KnownBytes.{Appends, Keeps}
use Rattle.govisd_resolve.specs.Outputs.{IsCutShort}
use Rattle.govisd.specs.Says.{SaysMore, SaysText}

appends_more : (old mid new : Option (List ℕ)) (bs cs : List ℕ) → Appends old mid bs → Appends mid new cs → Appends old new (bs ++ cs)
appends_more None mid new bs cs h k = tt
appends_more (Some xs) None new bs cs h k = absurd h
appends_more (Some xs) (Some ys) None bs cs h k = absurd k
appends_more (Some xs) (Some ys) (Some zs) bs cs h k = k ∙ (ap (λ l. l ++ cs) h ∙ append_assoc xs bs cs)

appends_kept : (old mid new : Option (List ℕ)) (bs : List ℕ) → Appends old mid bs → Keeps mid new → Appends old new bs
appends_kept None mid new bs h k = tt
appends_kept (Some xs) None new bs h k = absurd h
appends_kept (Some xs) (Some ys) None bs h k = absurd k
appends_kept (Some xs) (Some ys) (Some zs) bs h k = k ∙ h

-- what is cut short in its first part
cut_first : (old mid new : Option (List ℕ)) (bs cs : List ℕ) → IsCutShort old mid bs → Keeps mid new → IsCutShort old new (bs ++ cs)
cut_first old mid new bs cs h kept =
    let same : take h.0 (bs ++ cs) ≡ take h.0 bs = take-append-le h.0 bs cs (omega (arith, h.1)) in
    (h.0, omega (arith, h.1, length-append bs cs), subst (Appends old new) (sym same) (appends_kept old mid new (take h.0 bs) h.2 kept))

-- and in its second
cut_second : (old mid new : Option (List ℕ)) (bs cs : List ℕ) → Appends old mid bs → IsCutShort mid new cs → IsCutShort old new (bs ++ cs)
cut_second old mid new bs cs written h =
    let same : take (length bs + h.0) (bs ++ cs) ≡ bs ++ take h.0 cs = take-append-add bs cs h.0 in
    (length bs + h.0, omega (arith, h.1, length-append bs cs), subst (Appends old new) (sym same) (appends_more old mid new bs (take h.0 cs) written h.2))

-- one text behind another, if that was said whole
pub said_more : (first told : Bool) (old mid new : Option (List ℕ)) (bs cs : List ℕ) → SaysText first bs old mid → SaysMore first told cs mid new → SaysText told (bs ++ cs) old new
said_more true true old mid new bs cs h k = appends_more old mid new bs cs h k
said_more true false old mid new bs cs h k = cut_second old mid new bs cs h k
said_more false true old mid new bs cs h k = let bad : true ≡ false = k.0 in absurd (cc)
said_more false false old mid new bs cs h k = cut_first old mid new bs cs h k.1
