-- What several writes append.
use Rattle.std.proofs.Common.{◌≡◌, ◌-◌, ◌<◌, ℕ, Bool, true, false, List, [], ◌++◌, length, take, drop, Option, Some, None, Result, Ok, Err, refl, sym, ap, subst, ◌∙◌, arith}
use Rattle.std.proofs.lemmas.List.{append_assoc, append-nil, take_at, take_all, take-append-drop, length-append, length-drop, nil_from_length}
use Rattle.std.specs.Io.KnownBytes.{Appends, Keeps}
use Rattle.std.specs.Result.{is_err}
use Rattle.std.specs.declared.io.ErrorKind.{ErrorKind}
use Rattle.go_wire_core.specs.outputs.Outputs.{IsCutShort, IsWrittenOut}

-- the bytes before the rest went out
pub record SentFirst (old new : Option (List ℕ)) (bytes rest : List ℕ) : Type 0 where
  pub sent : List ℕ
  pub whole : bytes ≡ sent ++ rest
  pub writes : Appends old new sent

pub appends_none : (known : Option (List ℕ)) → Appends known known []
appends_none None = tt
appends_none (Some xs) = sym (append-nil xs)

appends_more : (old mid new : Option (List ℕ)) (bs cs : List ℕ) → Appends old mid bs → Appends mid new cs → Appends old new (bs ++ cs)
appends_more None mid new bs cs h k = tt
appends_more (Some xs) None new bs cs h k = absurd h
appends_more (Some xs) (Some ys) None bs cs h k = absurd k
appends_more (Some xs) (Some ys) (Some zs) bs cs h k = k ∙ (ap (λ l. l ++ cs) h ∙ append_assoc xs bs cs)

pub appends_kept : (old mid new : Option (List ℕ)) (bs : List ℕ) → Appends old mid bs → Keeps mid new → Appends old new bs
appends_kept None mid new bs h k = tt
appends_kept (Some xs) None new bs h k = absurd h
appends_kept (Some xs) (Some ys) None bs h k = absurd k
appends_kept (Some xs) (Some ys) (Some zs) bs h k = k ∙ h

pub sent_none : (known : Option (List ℕ)) (bytes : List ℕ) → SentFirst known known bytes bytes
sent_none known bytes = record { sent = []; whole = refl; writes = appends_none known }

pub sent_more : (old mid new : Option (List ℕ)) (bytes rest : List ℕ) (count : ℕ) → SentFirst old mid bytes rest → Appends mid new (take count rest) → SentFirst old new bytes (take (length rest - count) (drop count rest))
sent_more old mid new bytes rest count before more =
    let left : take (length rest - count) (drop count rest) ≡ drop count rest = take_all _ _ (omega (arith, length-drop count rest)) in
    record {
      sent = before.sent ++ take count rest;
      whole = before.whole ∙ (ap (λ l. before.sent ++ l) (sym (ap (λ l. take count rest ++ l) left ∙ take-append-drop count rest)) ∙ sym (append_assoc before.sent (take count rest) _));
      writes = appends_more old mid new before.sent (take count rest) before.writes more;
    }

-- all of them went out, where none is left
pub sent_all : (old new : Option (List ℕ)) (bytes rest : List ℕ) → SentFirst old new bytes rest → length rest ≡ 0 → Appends old new bytes
sent_all old new bytes rest before none =
    subst (Appends old new) (sym (before.whole ∙ (ap (λ l. before.sent ++ l) (nil_from_length rest none) ∙ append-nil before.sent))) before.writes

-- the first of them went out, some are left, and one more write failed
pub sent_part : (old mid new : Option (List ℕ)) (bytes rest : List ℕ) → SentFirst old mid bytes rest → 0 < length rest → Keeps mid new → IsCutShort old new bytes
sent_part old mid new bytes rest before some kept = (
  length before.sent,
  omega (arith, ap length before.whole, length-append before.sent rest, some),
  subst (Appends old new) (sym (ap (take (length before.sent)) before.whole ∙ take_at before.sent rest (length before.sent) refl)) (appends_kept old mid new before.sent before.writes kept),
)

pub keeps_same : (known : Option (List ℕ)) → Keeps known known
keeps_same None = tt
keeps_same (Some xs) = refl

-- the first of them went out, some are left, and no write is
pub sent_last : (old new : Option (List ℕ)) (bytes rest : List ℕ) → SentFirst old new bytes rest → 0 < length rest → IsCutShort old new bytes
sent_last old new bytes rest before some = sent_part old new new bytes rest before some (keeps_same new)

-- whether the writer failed
pub all_written : {A : Type 0} (old new : Option (List ℕ)) (bytes : List ℕ) (r : Result A ErrorKind) (failed : Bool) → IsWrittenOut old new bytes r → failed ≡ is_err r → failed ≡ false → Appends old new bytes
all_written old new bytes (Ok done) failed written asked is = written
all_written old new bytes (Err kind) failed written asked is = let bad : true ≡ false = sym asked ∙ is in cc

pub cut_short : {A : Type 0} (old new : Option (List ℕ)) (bytes : List ℕ) (r : Result A ErrorKind) (failed : Bool) → IsWrittenOut old new bytes r → failed ≡ is_err r → failed ≡ true → IsCutShort old new bytes
cut_short old new bytes (Ok done) failed written asked is = let bad : false ≡ true = sym asked ∙ is in cc
cut_short old new bytes (Err kind) failed written asked is = written.1
