-- Lines, one behind another.
use Rattle.std.proofs.Common.{◌≡◌, ℕ, ◌<◌, ◌≤◌, List, [], ◌∷◌, ◌++◌, length, Bool, true, false, nat_lt, cond, Option, None, refl, sym, ap, subst, ◌∙◌, arith}
use Rattle.std.specs.Prelude.{flat_map}
use Rattle.std.proofs.lemmas.List.{append_assoc, append-nil}
use Rattle.std.proofs.lemmas.List.Elements.{All-nil, All-head, All-tail}
use Rattle.std.proofs.lemmas.List.Splits.{slice_split-cons_no, slice_split_none, slice_split_at}
use Rattle.std.proofs.lemmas.Bool.{lt-ltb, le-ltb}
use Rattle.std.proofs.KnownBytes.{Appends-nil, Appends-trans}
use Rattle.std.specs.List.{AllByRecursion, onto_first}
use Rattle.std.specs.Io.KnownBytes.{Appends}
use Rattle.go_text_core.specs.declared.rule.Rule.{Rule}
use Rattle.go_text_core.specs.declared.rule.Rule.TheVariants.{V1}
use Rattle.go_wire_core.specs.declared.request.Request.{Request}
use Rattle.go_wire_core.specs.declared.reply.WireReply.{WireReply}
use Rattle.go_wire_core.specs.declared.reply.WireReply.TheVariants.{Refused}
use Rattle.go_wire_core.specs.declared.serving.ServeEnd.{ServeEnd}
use Rattle.go_wire_core.specs.declared.serving.ServeEnd.TheVariants as ends
use Rattle.go_wire_core.specs.Lines.{but_last, ended_lines, is_newline, lines, most_bytes}
use Rattle.go_wire_core.specs.declared.step.Step.{Step}
use Rattle.go_wire_core.specs.declared.step.Step.TheVariants.{Ask, Refuse}
use Rattle.go_wire_core.specs.Replies.{line_of}
use Rattle.go_wire_core.specs.Steps.{steps_of, wire, AreDone}
use Rattle.go_wire_core.specs.Ends.{IsShort, Served, ServedFirst, ServedUpTo}
use Rattle.go_wire_core.specs.mirrors.Serving.{Going, IsEndOfLines, IsLine, IsRefusedLong, IsStop, IsUnsent, IsWithin, ended}

-- ---- lists

pub flat_map_append : {X A : Type 0} (f : X → List A) (xs ys : List X) → flat_map f (xs ++ ys) ≡ flat_map f xs ++ flat_map f ys
flat_map_append f [] ys = refl
flat_map_append f (x ∷ xs) ys = ap (λ l. f x ++ l) (flat_map_append f xs ys) ∙ sym (append_assoc (f x) (flat_map f xs) (flat_map f ys))

each_append : {X : Type 0} (P : X → Type 0) (xs ys : List X) → AllByRecursion P xs → AllByRecursion P ys → AllByRecursion P (xs ++ ys)
each_append P [] ys h k = k
each_append P (x ∷ xs) ys h k = (h.0, each_append P xs ys h.1 k)

each_behind : {X : Type 0} (P : X → Type 0) (xs ys : List X) → AllByRecursion P (xs ++ ys) → AllByRecursion P ys
each_behind P [] ys h = h
each_behind P (x ∷ xs) ys h = each_behind P xs ys h.1

-- ---- lines

pub some_line : (left : List ℕ) → (x : List ℕ) × (more : List (List ℕ)) × (lines left ≡ x ∷ more)
some_line [] = ([], [], refl)
some_line (b ∷ bs) =
    elim (is_newline b) as (λ v. (x : List ℕ) × (more : List (List ℕ)) × (cond v ([] ∷ lines bs) (onto_first b (lines bs)) ≡ x ∷ more))
    [ true ↦ ([], lines bs, refl) | false ↦ (let h = some_line bs in (b ∷ h.0, h.1, ap (onto_first b) h.2)) ]

-- the first line goes on
pub first_line : (xs left : List ℕ) → IsWithin xs → (x : List ℕ) × (more : List (List ℕ)) × (lines (xs ++ left) ≡ (xs ++ x) ∷ more)
first_line [] left h = some_line left
first_line (b ∷ xs) left h =
    let r = first_line xs left (All-tail (λ b. is_newline b ≡ false) b xs h) in
    (r.0, r.1, slice_split-cons_no is_newline b (xs ++ left) (All-head (λ b. is_newline b ≡ false) b xs h) ∙ ap (onto_first b) r.2)

lines_behind : (before : List (List ℕ)) (xs : List ℕ) → AllByRecursion IsLine before → lines (ended before ++ xs) ≡ before ++ lines xs
lines_behind [] xs h = refl
lines_behind (line ∷ before) xs h =
    ap lines (append_assoc (line ++ 10 ∷ []) (ended before) xs ∙ append_assoc line (10 ∷ []) (ended before ++ xs))
    ∙ (slice_split_at is_newline line 10 (ended before ++ xs) h.0.within refl ∙ ap (λ l. line ∷ l) (lines_behind before xs h.1))

but_last_of : (before : List (List ℕ)) (line : List ℕ) → but_last (before ++ line ∷ []) ≡ before
but_last_of [] line = refl
but_last_of (x ∷ []) line = refl
but_last_of (x ∷ y ∷ before) line = ap (λ l. x ∷ l) (but_last_of (y ∷ before) line)

wire_line : (numbered : Bool) (line : List ℕ) (more : List (List ℕ)) → length line ≤ most_bytes → wire numbered (line ∷ more) ≡ steps_of numbered line ++ wire numbered more
wire_line numbered line more h = let short : nat_lt most_bytes (length line) ≡ false = le-ltb most_bytes (length line) h in rw short

wire_long : (numbered : Bool) (line : List ℕ) (more : List (List ℕ)) → most_bytes < length line → wire numbered (line ∷ more) ≡ Refuse None V1 ∷ []
wire_long numbered line more h = let long : nat_lt most_bytes (length line) ≡ true = lt-ltb most_bytes (length line) h in rw long

wire_behind : (numbered : Bool) (before ls : List (List ℕ)) → AllByRecursion IsLine before → wire numbered (before ++ ls) ≡ flat_map (steps_of numbered) before ++ wire numbered ls
wire_behind numbered [] ls h = refl
wire_behind numbered (line ∷ before) ls h =
    wire_line numbered line (before ++ ls) h.0.short ∙ (ap (λ l. steps_of numbered line ++ l) (wire_behind numbered before ls h.1) ∙ sym (append_assoc (steps_of numbered line) (flat_map (steps_of numbered) before) (wire numbered ls)))

short_behind : (before ls : List (List ℕ)) → AllByRecursion IsLine before → AllByRecursion IsShort ls → AllByRecursion IsShort (before ++ ls)
short_behind [] ls h k = k
short_behind (line ∷ before) ls h k = (h.0.short, short_behind before ls h.1 k)

pub no_line : IsLine []
no_line = record { within = All-nil (λ b. is_newline b ≡ false); short = omega arith }

-- ---- steps

module _ {D : Type 0} (answers : D → Request → WireReply → D → Type 0) where
  done_more : (d m e : D) (xs ys : List Step) (a b : List ℕ) → AreDone answers d xs m a → AreDone answers m ys e b → AreDone answers d (xs ++ ys) e (a ++ b)
  done_more d m e [] ys a b h k = subst (λ n. AreDone answers n ys e (a ++ b)) h.0 (subst (λ l. AreDone answers m ys e (l ++ b)) (sym h.1) k)
  done_more d m e (Ask request ∷ xs) ys a b h k =
      let line = line_of request.session h.0 in
      (h.0, h.1, h.2 ++ b, h.3, done_more h.1 m e xs ys h.2 b h.4 k, ap (λ l. l ++ b) h.5 ∙ append_assoc line h.2 b)
  done_more d m e (Refuse session rule ∷ xs) ys a b h k =
      let line = line_of session (Refused rule) in
      (h.0 ++ b, done_more d m e xs ys h.0 b h.1 k, ap (λ l. l ++ b) h.2 ∙ append_assoc line h.0 b)

  served_none : (d : D) (old : Option (List ℕ)) → Served answers [] d d old old
  served_none d old = record { out = []; done = (refl, refl); written = Appends-nil old }

  served_more : (d m e : D) (xs ys : List Step) (old mid new : Option (List ℕ)) → Served answers xs d m old mid → Served answers ys m e mid new → Served answers (xs ++ ys) d e old new
  served_more d m e xs ys old mid new h k = record {
    out = h.out ++ k.out;
    done = done_more d m e xs ys h.out k.out h.done k.done;
    written = Appends-trans old mid new h.out k.out h.written k.written;
  }

  -- ---- parts

  up_to_behind : (d m e : D) (xs ys : List Step) (old mid new : Option (List ℕ)) → Served answers xs d m old mid → ServedUpTo answers ys m e mid new → ServedUpTo answers (xs ++ ys) d e old new
  up_to_behind d m e xs ys old mid new h k = record {
    before = xs ++ k.before;
    step = k.step;
    rest = k.rest;
    whole = ap (λ l. xs ++ l) k.whole ∙ sym (append_assoc xs k.before (k.step ∷ k.rest));
    between = k.between;
    middle = k.middle;
    served = served_more d m k.between xs k.before old mid k.middle h k.served;
    line = k.line;
    done = k.done;
    count = k.count;
    written = k.written;
  }

  up_to_before : (d e : D) (xs ys : List Step) (old new : Option (List ℕ)) → ServedUpTo answers xs d e old new → ServedUpTo answers (xs ++ ys) d e old new
  up_to_before d e xs ys old new k = record {
    before = k.before;
    step = k.step;
    rest = k.rest ++ ys;
    whole = ap (λ l. l ++ ys) k.whole ∙ append_assoc k.before (k.step ∷ k.rest) ys;
    between = k.between;
    middle = k.middle;
    served = k.served;
    line = k.line;
    done = k.done;
    count = k.count;
    written = k.written;
  }

  first_behind : (d m e : D) (xs ys : List Step) (old mid new : Option (List ℕ)) → Served answers xs d m old mid → ServedFirst answers ys m e mid new → ServedFirst answers (xs ++ ys) d e old new
  first_behind d m e xs ys old mid new h k = record {
    before = xs ++ k.before;
    more = k.more;
    rest = k.rest;
    whole = ap (λ l. xs ++ l) k.whole ∙ sym (append_assoc xs k.before (k.more ++ k.rest));
    few = k.few;
    between = k.between;
    served = served_more d m k.between xs k.before old mid new h k.served;
    line = k.line;
    done = k.done;
  }

  first_before : (d e : D) (xs ys : List Step) (old new : Option (List ℕ)) → ServedFirst answers xs d e old new → ServedFirst answers (xs ++ ys) d e old new
  first_before d e xs ys old new k = record {
    before = k.before;
    more = k.more;
    rest = k.rest ++ ys;
    whole = ap (λ l. l ++ ys) k.whole ∙ (append_assoc k.before (k.more ++ k.rest) ys ∙ ap (λ l. k.before ++ l) (append_assoc k.more k.rest ys));
    few = k.few;
    between = k.between;
    served = k.served;
    line = k.line;
    done = k.done;
  }

  -- nothing of it was done
  pub first_none : (d : D) (xs : List Step) (old : Option (List ℕ)) → ServedFirst answers xs d d old old
  first_none d xs old = record { before = []; more = []; rest = xs; whole = refl; few = omega arith; between = d; served = served_none d old; line = []; done = (refl, refl) }

  -- one step was done, and its line was not sent
  pub step_stops : (end : ServeEnd) (step : Step) (d e : D) (line : List ℕ) (old new : Option (List ℕ)) → AreDone answers d (step ∷ []) e line → IsUnsent end old new line → IsStop end answers (step ∷ []) d e old new
  step_stops end step d e line old new done unsent = by end unsent
    where
      by : (f : ServeEnd) → IsUnsent f old new line → IsStop f answers (step ∷ []) d e old new
      by ends.Done u = absurd u
      by ends.TooLong u = absurd u
      by ends.ReadFault u = absurd u
      by ends.WriteFault u = record {
        before = [];
        step = step;
        rest = [];
        whole = refl;
        between = d;
        middle = old;
        served = served_none d old;
        line = line;
        done = done;
        count = u.0;
        written = u.1;
      }
      by ends.Turns u = absurd u
      by ends.Memory u = record {
        before = [];
        more = step ∷ [];
        rest = [];
        whole = refl;
        few = omega arith;
        between = d;
        served = record { out = []; done = (refl, refl); written = u };
        line = line;
        done = done;
      }

  -- ---- ends

  pub memory_ends : (numbered : Bool) (ls : List (List ℕ)) (d : D) (old : Option (List ℕ)) → IsEndOfLines ends.Memory numbered answers ls d d old old
  memory_ends numbered ls d old = first_none d (wire numbered ls) old

  pub stop_ends : (end : ServeEnd) (numbered : Bool) (line : List ℕ) (more : List (List ℕ)) (d e : D) (old new : Option (List ℕ)) → length line ≤ most_bytes
      → IsStop end answers (steps_of numbered line) d e old new → IsEndOfLines end numbered answers (line ∷ more) d e old new
  stop_ends end numbered line more d e old new short stop = by end stop
    where
      is : wire numbered (line ∷ more) ≡ steps_of numbered line ++ wire numbered more
      is = wire_line numbered line more short

      by : (f : ServeEnd) → IsStop f answers (steps_of numbered line) d e old new → IsEndOfLines f numbered answers (line ∷ more) d e old new
      by ends.Done s = absurd s
      by ends.TooLong s = absurd s
      by ends.ReadFault s = absurd s
      by ends.WriteFault s = subst (λ l. ServedUpTo answers l d e old new) (sym is) (up_to_before d e (steps_of numbered line) (wire numbered more) old new s)
      by ends.Turns s = absurd s
      by ends.Memory s = subst (λ l. ServedFirst answers l d e old new) (sym is) (first_before d e (steps_of numbered line) (wire numbered more) old new s)

  pub long_ends : (end : ServeEnd) (numbered : Bool) (line : List ℕ) (more : List (List ℕ)) (d : D) (old new : Option (List ℕ)) → most_bytes < length line
      → IsRefusedLong end old new → IsEndOfLines end numbered answers (line ∷ more) d d old new
  long_ends end numbered line more d old new long sent = by end sent
    where
      is : wire numbered (line ∷ more) ≡ Refuse None V1 ∷ []
      is = wire_long numbered line more long

      text : List ℕ
      text = line_of None (Refused V1)

      done : AreDone answers d (Refuse None V1 ∷ []) d text
      done = ([], (refl, refl), sym (append-nil text))

      unsent : (f : ServeEnd) → IsUnsent f old new text → IsStop f answers (Refuse None V1 ∷ []) d d old new
      unsent f u = step_stops f (Refuse None V1) d d text old new done u

      by : (f : ServeEnd) → IsRefusedLong f old new → IsEndOfLines f numbered answers (line ∷ more) d d old new
      by ends.Done s = absurd s
      by ends.TooLong s = (
        subst (λ l. Served answers l d d old new) (sym is) (record { out = text; done = done; written = s }),
        λ h. let short = h.0 in absurd (omega (arith, short, long)),
      )
      by ends.ReadFault s = absurd s
      by ends.WriteFault s = subst (λ l. ServedUpTo answers l d d old new) (sym is) (unsent ends.WriteFault s)
      by ends.Turns s = absurd s
      by ends.Memory s = subst (λ l. ServedFirst answers l d d old new) (sym is) (unsent ends.Memory s)

  ends_behind : (end : ServeEnd) (numbered : Bool) (before ls : List (List ℕ)) (d m e : D) (old mid new : Option (List ℕ)) → AllByRecursion IsLine before
      → Served answers (flat_map (steps_of numbered) before) d m old mid → IsEndOfLines end numbered answers ls m e mid new → IsEndOfLines end numbered answers (before ++ ls) d e old new
  ends_behind end numbered before ls d m e old mid new each served h = by end h
    where
      is : wire numbered (before ++ ls) ≡ flat_map (steps_of numbered) before ++ wire numbered ls
      is = wire_behind numbered before ls each

      all : Served answers (wire numbered ls) m e mid new → Served answers (wire numbered (before ++ ls)) d e old new
      all s = subst (λ l. Served answers l d e old new) (sym is) (served_more d m e (flat_map (steps_of numbered) before) (wire numbered ls) old mid new served s)

      by : (f : ServeEnd) → IsEndOfLines f numbered answers ls m e mid new → IsEndOfLines f numbered answers (before ++ ls) d e old new
      by ends.Done s = (all s.0, short_behind before ls each s.1)
      by ends.TooLong s = (all s.0, λ short. s.1 (each_behind IsShort before ls short))
      by ends.ReadFault s = absurd s
      by ends.WriteFault s = subst (λ l. ServedUpTo answers l d e old new) (sym is) (up_to_behind d m e (flat_map (steps_of numbered) before) (wire numbered ls) old mid new served s)
      by ends.Turns s = absurd s
      by ends.Memory s = subst (λ l. ServedFirst answers l d e old new) (sym is) (first_behind d m e (flat_map (steps_of numbered) before) (wire numbered ls) old mid new served s)

  -- ---- what comes

  pub going_none : (numbered : Bool) (begun : List ℕ) (d : D) (old : Option (List ℕ)) → IsLine begun → Going numbered answers begun [] begun d d old old
  going_none numbered begun d old h = record { before = []; cut = append-nil begun; each = tt; rest = h; served = served_none d old }

  pub going_more : (numbered : Bool) (a x b y c : List ℕ) (d m e : D) (old mid new : Option (List ℕ)) → Going numbered answers a x b d m old mid → Going numbered answers b y c m e mid new
      → Going numbered answers a (x ++ y) c d e old new
  going_more numbered a x b y c d m e old mid new h k = record {
    before = h.before ++ k.before;
    cut = sym (append_assoc a x y) ∙ (ap (λ l. l ++ y) h.cut ∙ (append_assoc (ended h.before) b y ∙ (ap (λ l. ended h.before ++ l) k.cut ∙ (sym (append_assoc (ended h.before) (ended k.before) c) ∙ ap (λ l. l ++ c) (sym (flat_map_append (λ line. line ++ 10 ∷ []) h.before k.before))))));
    each = each_append IsLine h.before k.before h.each k.each;
    rest = k.rest;
    served = subst (λ l. Served answers l d e old new) (sym (flat_map_append (steps_of numbered) h.before k.before)) (served_more d m e _ _ old mid new h.served k.served);
  }

  -- a line is ended
  pub one_line : (numbered : Bool) (begun x : List ℕ) (d e : D) (old new : Option (List ℕ)) → IsLine (begun ++ x) → Served answers (steps_of numbered (begun ++ x)) d e old new
      → Going numbered answers begun (x ++ 10 ∷ []) [] d e old new
  one_line numbered begun x d e old new h k = record {
    before = (begun ++ x) ∷ [];
    cut = sym (append_assoc begun x (10 ∷ [])) ∙ (sym (append-nil ((begun ++ x) ++ 10 ∷ [])) ∙ sym (append-nil (((begun ++ x) ++ 10 ∷ []) ++ [])));
    each = (h, tt);
    rest = no_line;
    served = subst (λ l. Served answers l d e old new) (sym (append-nil (steps_of numbered (begun ++ x)))) k;
  }

  -- a line goes on
  pub longer_line : (numbered : Bool) (begun x : List ℕ) (d : D) (old : Option (List ℕ)) → IsLine (begun ++ x) → Going numbered answers begun x (begun ++ x) d d old old
  longer_line numbered begun x d old h = record { before = []; cut = refl; each = tt; rest = h; served = served_none d old }

  -- and then serving ended
  pub going_ends : (end : ServeEnd) (numbered : Bool) (a x b y : List ℕ) (d m e : D) (old mid new : Option (List ℕ)) → Going numbered answers a x b d m old mid
      → IsEndOfLines end numbered answers (lines (b ++ y)) m e mid new → IsEndOfLines end numbered answers (lines (a ++ (x ++ y))) d e old new
  going_ends end numbered a x b y d m e old mid new h k =
      subst (λ l. IsEndOfLines end numbered answers l d e old new)
      (sym (ap lines (sym (append_assoc a x y) ∙ (ap (λ l. l ++ y) h.cut ∙ append_assoc (ended h.before) b y)) ∙ lines_behind h.before (b ++ y) h.each))
      (ends_behind end numbered h.before (lines (b ++ y)) d m e old mid new h.each h.served k)

  -- the whole lines of what came were served
  pub going_so_far : (numbered : Bool) (came begun : List ℕ) (d e : D) (old new : Option (List ℕ)) → Going numbered answers [] came begun d e old new → Served answers (wire numbered (ended_lines came)) d e old new
  going_so_far numbered came begun d e old new h =
      let cut : lines came ≡ h.before ++ begun ∷ [] =
      ap lines h.cut ∙ (lines_behind h.before begun h.each ∙ ap (λ l. h.before ++ l) (slice_split_none is_newline begun h.rest.within)) in
      let is : wire numbered (ended_lines came) ≡ flat_map (steps_of numbered) h.before =
      ap (λ l. wire numbered (but_last l)) cut ∙ (ap (wire numbered) (but_last_of h.before begun) ∙ (ap (wire numbered) (sym (append-nil h.before)) ∙ (wire_behind numbered h.before [] h.each ∙ append-nil _))) in
      subst (λ l. Served answers l d e old new) (sym is) h.served

  -- ---- one step

  -- a request that was answered
  pub asked_done : (request : Request) (reply : WireReply) (d e : D) → answers d request reply e → AreDone answers d (Ask request ∷ []) e (line_of request.session reply)
  asked_done request reply d e answered = (reply, e, [], answered, (refl, refl), sym (append-nil (line_of request.session reply)))

  -- a line that was refused
  pub refused_done : (session : Option ℕ) (rule : Rule) (d : D) → AreDone answers d (Refuse session rule ∷ []) d (line_of session (Refused rule))
  refused_done session rule d = ([], (refl, refl), sym (append-nil (line_of session (Refused rule))))

  pub asked_whole : (request : Request) (reply : WireReply) (d e : D) (old new : Option (List ℕ)) → answers d request reply e → Appends old new (line_of request.session reply)
      → Served answers (Ask request ∷ []) d e old new
  asked_whole request reply d e old new answered sent = record { out = line_of request.session reply; done = asked_done request reply d e answered; written = sent }

  pub refused_whole : (session : Option ℕ) (rule : Rule) (d : D) (old new : Option (List ℕ)) → Appends old new (line_of session (Refused rule)) → Served answers (Refuse session rule ∷ []) d d old new
  refused_whole session rule d old new sent = record { out = line_of session (Refused rule); done = refused_done session rule d; written = sent }
