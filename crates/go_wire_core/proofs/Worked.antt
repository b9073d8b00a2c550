-- Some lines, computed.
use Rattle.std.proofs.Common.{refl}
use Rattle.std.specs.Fmt.{digits}
use Rattle.std.specs.Str.{chars, is_utf8}
use Rattle.serde_json.proofs.OnLiterals.{serde_json_on_literals}
use Rattle.go_wire_core.specs.Laws.{WorkedLines, WorkedReplies, WorkedRequests}
use Rattle.go_wire_core.specs.Replies.{line_of}

requests : WorkedRequests
unfolding serde_json_on_literals line_of is_utf8 chars digits
requests = record {
  open_a = refl;
  edit_a = refl;
  build_a = refl;
  open_b = refl;
  edit_b = refl;
  build_b = refl;
  complete = refl;
  doc = refl;
  list = refl;
}

replies : WorkedReplies
unfolding serde_json_on_literals line_of is_utf8 chars digits
replies = record {
  open_a = refl;
  edit_a = refl;
  build_a = λ faults all. rw all refl;
  open_b = refl;
  edit_b = refl;
  build_b = λ faults all. rw all refl;
  complete = λ names all. rw all refl;
  doc = λ symbols all. rw all refl;
  list = λ own other importable mine its all.
      rw (all, mine.deps', mine.files', mine.path', mine.imports', mine.name', its.deps', its.files', its.path', its.imports', its.name') refl;
}

pub worked_lines : WorkedLines
unfolding serde_json_on_literals line_of is_utf8 chars digits
worked_lines = record {
  requests = requests;
  replies = replies;
  define = refl;
  defined = refl;
  run = refl;
  run_of_most = refl;
  run_of_more = refl;
  run_of_none = refl;
  ended = refl;
  panicked = refl;
  spent = refl;
  remove = refl;
  doc_of = refl;
  null_type = refl;
  refused = refl;
  order = refl;
  cut = refl;
  unknown = refl;
  unknown_of_none = refl;
  session = refl;
  session_over = refl;
  escaped = refl;
  over = refl;
  trailing = refl;
  point = refl;
}
