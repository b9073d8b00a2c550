-- Turns, one after another.
use Rattle.std.proofs.Common.{◌≡◌, ℕ, ◌+◌, ◌-◌, ◌*◌, ◌<◌, ◌≤◌, List, [], ◌∷◌, ◌++◌, Bool, true, false, Option, Some, None, sym, ap, subst, ◌∙◌, arith}
use Rattle.std.specs.Prelude.{◌≢◌, ◌↔◌, IfSome, ⊤}
use Rattle.std.proofs.lemmas.List.{append-nil, length-append}
use Rattle.std.proofs.lemmas.List.Splits.{slice_split_none}
use Rattle.std.proofs.KnownBytes.{Appends-trans, Consumes-nil, Consumes-trans}
use Rattle.std.specs.Io.KnownBytes.{Appends, Consumes, IsAtEnd}
use Rattle.go_wire_core.specs.declared.request.Request.{Request}
use Rattle.go_wire_core.specs.declared.reply.WireReply.{WireReply}
use Rattle.go_wire_core.specs.declared.serving.ServeEnd.{ServeEnd}
use Rattle.go_wire_core.specs.declared.serving.ServeEnd.TheVariants as ends
use Rattle.go_wire_core.specs.Lines.{ended_lines, is_newline, lines}
use Rattle.go_wire_core.specs.Steps.{wire}
use Rattle.go_wire_core.specs.Ends.{IsEnd, ReadsUpTo, Served, ServedSoFar, most_read}
use Rattle.go_wire_core.specs.mirrors.Serving.{Going, IsEndOfLines, IsEndOfTurn, IsLine}
use Rattle.go_wire_core.proofs.InOrder.{going_none, going_more, going_ends, going_so_far, memory_ends, no_line}

-- ---- whether a read failed

abbrev IsSet : Bool → Type 0
IsSet true = ⊤
IsSet false = ⊥

-- an end that no read made
abbrev IsOther : ServeEnd → Type 0
IsOther ends.Done = ⊤
IsOther ends.TooLong = ⊤
IsOther ends.ReadFault = ⊥
IsOther ends.WriteFault = ⊤
IsOther ends.Turns = ⊤
IsOther ends.Memory = ⊤

pub memory_is_other : ends.Memory ≢ ends.ReadFault
memory_is_other h = subst IsOther h tt

pub turns_are_other : ends.Turns ≢ ends.ReadFault
turns_are_other h = subst IsOther h tt

-- no read failed, and the end is another
pub no_read_fault : (end : ServeEnd) (failed : Bool) → failed ≡ false → end ≢ ends.ReadFault → (end ≡ ends.ReadFault) ↔ (failed ≡ true)
no_read_fault end failed sound other = ((λ h. absurd (other h)), λ h. absurd (subst IsSet (sym h ∙ sound) tt))

-- ---- how much was read

-- one read after another
pub reads_more : (old mid new : Option (List ℕ)) (before room most : ℕ) → ReadsUpTo before old mid → ReadsUpTo room mid new → before + room ≤ most → ReadsUpTo most old new
reads_more old mid new before room most h k fits =
    (h.0 ++ k.0, Consumes-trans old mid new h.0 k.0 h.1 k.1, omega (arith, length-append h.0 k.0, h.2, k.2, fits))

pub reads_none : (old : Option (List ℕ)) (most : ℕ) → ReadsUpTo most old old
reads_none old most = ([], Consumes-nil old, omega arith)

-- the turns before, and one that reads nothing where its read fails
pub reads_by_end : {D : Type 0} (end : ServeEnd) (numbered : Bool) (answers : D → Request → WireReply → D → Type 0) (begun : List ℕ) (d e : D) (given mid left old new : Option (List ℕ)) (turn turns : ℕ)
    → turn < turns → ReadsUpTo (turn * 65536) given mid → ReadsUpTo 65536 mid left → IsEndOfTurn end numbered answers begun mid left d e old new → ReadsUpTo (most_read end turns) given left
reads_by_end end numbered answers begun d e given mid left old new turn turns lt before more h = by end h
  where
    all : ReadsUpTo (turns * 65536) given left
    all = reads_more given mid left (turn * 65536) 65536 (turns * 65536) before more (omega (arith, lt))

    by : (f : ServeEnd) → IsEndOfTurn f numbered answers begun mid left d e old new → ReadsUpTo (most_read f turns) given left
    by ends.Done s = all
    by ends.TooLong s = all
    by ends.ReadFault s = reads_more given mid left (turn * 65536) 0 ((turns - 1) * 65536) before ([], s.1, omega arith) (omega (arith, lt))
    by ends.WriteFault s = all
    by ends.Turns s = all
    by ends.Memory s = all

module _ {D : Type 0} (numbered : Bool) (answers : D → Request → WireReply → D → Type 0) where
  -- lines ended serving, so no read did
  pub lines_are_other : (end : ServeEnd) (ls : List (List ℕ)) (d e : D) (old new : Option (List ℕ)) → IsEndOfLines end numbered answers ls d e old new → end ≢ ends.ReadFault
  lines_are_other end ls d e old new h same = subst (λ f. IsEndOfLines f numbered answers ls d e old new) same h

  -- a turn ended serving, so it was not for the turns
  pub turn_is_unspent : (end : ServeEnd) (begun : List ℕ) (given left : Option (List ℕ)) (d e : D) (old new : Option (List ℕ)) → IsEndOfTurn end numbered answers begun given left d e old new → end ≢ ends.Turns
  turn_is_unspent end begun given left d e old new h same = subst (λ f. IsEndOfTurn f numbered answers begun given left d e old new) same h

  -- a piece came, and whatever comes behind it, serving ended
  pub turn_ends : (end : ServeEnd) (begun piece : List ℕ) (given left : Option (List ℕ)) (d e : D) (old new : Option (List ℕ)) → Consumes given left piece
      → ((more : List ℕ) → IsEndOfLines end numbered answers (lines (begun ++ (piece ++ more))) d e old new) → IsEndOfTurn end numbered answers begun given left d e old new
  turn_ends end begun piece given left d e old new taken h = by end h
    where
      some : (f : ServeEnd) (a b : Option (List ℕ)) → Consumes a b piece → ((more : List ℕ) → IsEndOfLines f numbered answers (lines (begun ++ (piece ++ more))) d e old new)
          → IfSome a (λ bytes. IsEndOfLines f numbered answers (lines (begun ++ bytes)) d e old new)
      some f None b t k = tt
      some f (Some xs) None t k = absurd t
      some f (Some xs) (Some ys) t k = subst (λ l. IsEndOfLines f numbered answers (lines (begun ++ l)) d e old new) (sym t) (k ys)

      by : (f : ServeEnd) → ((more : List ℕ) → IsEndOfLines f numbered answers (lines (begun ++ (piece ++ more))) d e old new) → IsEndOfTurn f numbered answers begun given left d e old new
      by ends.Done k = some ends.Done given left taken k
      by ends.TooLong k = some ends.TooLong given left taken k
      by ends.ReadFault k = absurd (k [])
      by ends.WriteFault k = some ends.WriteFault given left taken k
      by ends.Turns k = absurd (k [])
      by ends.Memory k = some ends.Memory given left taken k

  -- nothing came, at the end
  pub last_ends : (end : ServeEnd) (begun : List ℕ) (given left : Option (List ℕ)) (d e : D) (old new : Option (List ℕ)) → IsLine begun → Consumes given left [] → IsAtEnd left
      → IsEndOfLines end numbered answers (begun ∷ []) d e old new → IsEndOfTurn end numbered answers begun given left d e old new
  last_ends end begun given left d e old new line taken over h = by end h
    where
      alone : lines (begun ++ []) ≡ begun ∷ []
      alone = ap lines (append-nil begun) ∙ slice_split_none is_newline begun line.within

      some : (f : ServeEnd) (a b : Option (List ℕ)) → Consumes a b [] → IsAtEnd b → IsEndOfLines f numbered answers (begun ∷ []) d e old new
          → IfSome a (λ bytes. IsEndOfLines f numbered answers (lines (begun ++ bytes)) d e old new)
      some f None b t o k = tt
      some f (Some xs) None t o k = absurd t
      some f (Some xs) (Some ys) t o k = subst (λ l. IsEndOfLines f numbered answers (lines (begun ++ l)) d e old new) (sym (t ∙ o)) (subst (λ l. IsEndOfLines f numbered answers l d e old new) (sym alone) k)

      by : (f : ServeEnd) → IsEndOfLines f numbered answers (begun ∷ []) d e old new → IsEndOfTurn f numbered answers begun given left d e old new
      by ends.Done k = some ends.Done given left taken over k
      by ends.TooLong k = some ends.TooLong given left taken over k
      by ends.ReadFault k = absurd k
      by ends.WriteFault k = some ends.WriteFault given left taken over k
      by ends.Turns k = absurd k
      by ends.Memory k = some ends.Memory given left taken over k

  -- the turns so far
  pub record InTurns (given now : Option (List ℕ)) (begun : List ℕ) (d e : D) (old new : Option (List ℕ)) : Type 0 where
    pub came : List ℕ
    pub taken : Consumes given now came
    pub going : Going numbered answers [] came begun d e old new

  pub turns_begin : (given : Option (List ℕ)) (d : D) (old : Option (List ℕ)) → InTurns given given [] d d old old
  turns_begin given d old = record { came = []; taken = Consumes-nil given; going = going_none answers numbered [] d old no_line }

  pub turns_go_on : (given mid now : Option (List ℕ)) (begun over : List ℕ) (d m e : D) (old out new : Option (List ℕ)) → InTurns given mid begun d m old out
      → (came : List ℕ) × Consumes mid now came × Going numbered answers begun came over m e out new → InTurns given now over d e old new
  turns_go_on given mid now begun over d m e old out new h k = record {
    came = h.came ++ k.0;
    taken = Consumes-trans given mid now h.came k.0 h.taken k.1;
    going = going_more answers numbered [] h.came begun k.0 over d m e old out new h.going k.2;
  }

  so_far : (bytes : List ℕ) (mid left : Option (List ℕ)) (begun : List ℕ) (d m e : D) (old out new : Option (List ℕ)) → InTurns (Some bytes) mid begun d m old out
      → e ≡ m → Consumes mid left [] → Appends out new [] → ServedSoFar numbered answers (Some bytes) left d e old new
  so_far bytes mid left begun d m e old out new h same taken kept =
      let served = going_so_far answers numbered h.came begun d m old out h.going in
      record {
        came = h.came;
        parts = subst (Consumes (Some bytes) left) (append-nil h.came) (Consumes-trans (Some bytes) mid left h.came [] h.taken taken);
        served = subst (λ f. Served answers (wire numbered (ended_lines h.came)) d f old new) (sym same)
            (record { out = served.out; done = served.done; written = subst (Appends old new) (append-nil served.out) (Appends-trans old out new served.out [] served.written kept) });
      }

  pub turns_end : (end : ServeEnd) (given mid left : Option (List ℕ)) (begun : List ℕ) (d m e : D) (old out new : Option (List ℕ)) → InTurns given mid begun d m old out
      → IsEndOfTurn end numbered answers begun mid left m e out new → IfSome given (λ bytes. IsEnd end numbered answers bytes left d e old new)
  turns_end end None mid left begun d m e old out new h k = tt
  turns_end end (Some bytes) None left begun d m e old out new h k = absurd h.taken
  turns_end end (Some bytes) (Some rest) left begun d m e old out new h k = by end k
    where
      all : (f : ServeEnd) → IsEndOfLines f numbered answers (lines (begun ++ rest)) m e out new → IsEndOfLines f numbered answers (lines bytes) d e old new
      all f s = subst (λ l. IsEndOfLines f numbered answers (lines l) d e old new) (sym h.taken) (going_ends answers f numbered [] h.came begun rest d m e old out new h.going s)

      by : (f : ServeEnd) → IsEndOfTurn f numbered answers begun (Some rest) left m e out new → IsEnd f numbered answers bytes left d e old new
      by ends.Done s = all ends.Done s
      by ends.TooLong s = all ends.TooLong s
      by ends.ReadFault s = so_far bytes (Some rest) left begun d m e old out new h s.0 s.1 s.2
      by ends.WriteFault s = all ends.WriteFault s
      by ends.Turns s = absurd s
      by ends.Memory s = all ends.Memory s

  pub turns_spent : (given left : Option (List ℕ)) (begun : List ℕ) (d e : D) (old new : Option (List ℕ)) → InTurns given left begun d e old new → IfSome given (λ bytes. IsEnd ends.Turns numbered answers bytes left d e old new)
  turns_spent None left begun d e old new h = tt
  turns_spent (Some bytes) left begun d e old new h =
      let served = going_so_far answers numbered h.came begun d e old new h.going in
      record { came = h.came; parts = h.taken; served = served }

  pub no_memory : (given left : Option (List ℕ)) (d : D) (old : Option (List ℕ)) → IfSome given (λ bytes. IsEnd ends.Memory numbered answers bytes left d d old old)
  no_memory None left d old = tt
  no_memory (Some bytes) left d old = memory_ends answers numbered (lines bytes) d old
